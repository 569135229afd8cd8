-- `loading::load_at` meets its contract: a case of the kind is a case of the definition. Assumes nothing.
use mathlib.Core.Path.{◌≡◌, refl, sym, ap, ◌∙◌}
use mathlib.Core.Bool.{true}
use mathlib.Core.List.{List}
use Prim.Native.Nat.{ℕ}
use lib.ListN.{length}
use Rattle.std.specs.Prelude.{None}
use Rattle.rules.specs.Bytes.{splice}
use Rattle.rules.specs.Sectors.{sector_of}
use Rattle.rules.specs.Descriptor.{chain_of, file_kind}
use Rattle.rules.specs.Volume.{places_in, contents_in}
use Rattle.rules.specs.Outcome.{Report, refuses, NamedAmountSays, Gives}
use Rattle.rules.specs.Calls.Load.{program_in}
use Rattle.rules.specs.Answers.NamedAmount.{Given, Refused}
use Rattle.rules.proofs.Outcome.{is_bare, bare, gives_refusal, gives_done}
use Rattle.loading.proofs.LoadLaws.{load_data, load_size, load_short, load_given}
use Rattle.loading.proofs.load_at.Goals as goal
use Rattle.loading.proofs.load_at.Goals.{After-kind}

kind_is : (c : After-kind) → file_kind (sector_of c.args.image.now c.args.k) ≡ c.kind.result
kind_is c = ap file_kind (sym c.descriptor_of-descriptor.ensures) ∙ sym c.kind.ensures

-- a test that was met
refused : (out : List ℕ) (report : Report) (number : ℕ) → is_bare number ≡ true → report ≡ refuses number → Gives (NamedAmountSays None) report (Refused number) out out
unfolding NamedAmountSays
refused out report number other e = gives_refusal (NamedAmountSays None) (Refused number) out report number (bare number other) e

pub returns-in_default : goal.returns-in_default
returns-in_default c =
    let a = c.args in
    refused a.out.now _ 14 refl (load_data a.image.now (length a.out.now) a.k _ (kind_is (goal.at.returns-in_default c).After-kind) c.in_default.not-Program)

pub returns-then-out-length : goal.returns-then-out-length
returns-then-out-length c =
    let a = c.args in
    refused a.out.now _ 15 refl (load_short a.image.now (length a.out.now) a.k _ (kind_is (goal.at.returns-then-out-length c).After-kind ∙ c.in-Program.is) c.if-out-length.true)

pub returns : goal.returns
unfolding program_in contents_in places_in chain_of NamedAmountSays
returns c =
    let a = c.args in
    let is = kind_is (goal.at.returns c).After-kind ∙ c.in-Program.is in
    let given = gives_done (NamedAmountSays None) (Given _) a.out.now _ _ _ (refl, refl) (load_given a.image.now (length a.out.now) a.k _ is c.if-out-length.false) in
    record {
      said = given.said;
      left =
          c.join.ensures
          ∙ ap (splice a.out.now 0) (rw (c.chain.ensures, c.descriptor_of-descriptor.ensures, load_size a.image.now (length a.out.now) a.k _ is))
          ∙ given.left;
    }
