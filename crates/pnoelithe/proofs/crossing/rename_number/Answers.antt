-- `pnoelithe::crossing::rename_number` meets its contract: a case of the code for each case of the answer. Assumes nothing.
use mathlib.Core.Path.{refl, sym, ◌∙◌}
use Prim.Native.Nat.{ℕ}
use Rattle.std.specs.Prelude.{Some}
use Rattle.rules.specs.Outcome.{RenameSays}
use Rattle.rules.proofs.Outcome.{wrong-there, wrong_nowhere}
use Rattle.pnoelithe.specs.Crossing.{behind_seven, first_wrong}
use Rattle.pnoelithe.proofs.Crossings.{bare_kept, place_behind_lem}
use Rattle.pnoelithe.proofs.crossing.rename_number.Goals as goal

pub returns-in_default : goal.returns-in_default
unfolding RenameSays behind_seven
returns-in_default c old new number said = (sym (rw c.in_default.is at said), (refl, refl))

pub returns-in-Other : goal.returns-in-Other
unfolding RenameSays
returns-in-Other c old new number said =
    let refused = rw (c.in-Err.is, c.in-Other.is) at said in
    rw c.from.ensures (refused.0, (bare_kept _ number _ _ refused, bare_kept _ number _ _ refused))

pub returns-in-OldMisnamed : goal.returns-in-OldMisnamed
unfolding RenameSays behind_seven first_wrong
returns-in-OldMisnamed c old new number said =
    let seven = rw (c.in-Err.is, c.in-OldMisnamed.is) at said in
    (sym seven.0, (sym (wrong-there old (λ (place : ℕ). 0) 1 _ seven.1), place_behind_lem (first_wrong old new) _ _ (wrong-there old Some new _ seven.1)))

pub returns-in-NewMisnamed : goal.returns-in-NewMisnamed
unfolding RenameSays behind_seven first_wrong
returns-in-NewMisnamed c old new number said =
    let seven = rw (c.in-Err.is, c.in-NewMisnamed.is) at said in
    (sym seven.0, (sym (wrong_nowhere old (λ (place : ℕ). 0) 1 seven.1), place_behind_lem (first_wrong old new) _ _ (wrong_nowhere old Some new seven.1 ∙ seven.2)))
