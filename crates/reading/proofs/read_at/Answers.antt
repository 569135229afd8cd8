-- `reading::read_at` meets its contract: the number of the first test that was met, and where none was met the sector at the place. Assumes nothing.
use mathlib.Core.Path.{◌≡◌, refl, sym, ap, ◌∙◌}
use mathlib.Core.List.{List}
use Prim.Native.Nat.{ℕ, ◌<◌}
use native.Mathlib.Omega.{arith}
use lib.ListN.{length, get_or}
use borrow.Author.Tests.{le-leb, lt-leb, lt-ltb, le-ltb}
use Rattle.std.specs.Prelude.{None, slice_get, unwrap_or}
use Rattle.std.proofs.lemmas.Option.{unwrap_or-slice_get}
use Rattle.rules.specs.Bytes.{splice}
use Rattle.rules.specs.Sectors.{sector_of}
use Rattle.rules.specs.Chain.{places}
use Rattle.rules.specs.Descriptor.{sectors_of, chain_of}
use Rattle.rules.specs.Volume.{places_in}
use Rattle.rules.specs.Tests.{first_of, unless_met}
use Rattle.rules.specs.Outcome.{Report, refuses, NamedSays, ReadSays, Gives}
use Rattle.rules.specs.Calls.Read.{read_tests, reading}
use Rattle.rules.specs.Answers.NamedAnswer.{Done, Refused}
use Rattle.rules.proofs.Outcome.{bare, gives_refusal, gives_done}
use Rattle.reading.proofs.read_at.Goals as goal
use Rattle.reading.proofs.read_at.Goals.{After-from, After-unwrap_or-place, Else-offset-from}

count_is : (c : After-from) → sectors_of (sector_of c.args.image.now c.args.k) ≡ c.from.result
count_is c = ap sectors_of (sym c.descriptor_of-descriptor.ensures) ∙ sym c.sectors.ensures ∙ sym c.from.ensures

inside : (c : Else-offset-from) → c.args.offset < sectors_of (sector_of c.args.image.now c.args.k)
inside c = omega (arith, count_is (goal.at.Else-offset-from c).After-from, c.if-offset-from.false)

place_is : (c : After-unwrap_or-place) → c.unwrap_or-place.result ≡ get_or (places_in c.args.image.now c.args.k) c.args.offset 0
unfolding places_in
place_is c =
    c.unwrap_or-place.ensures
    ∙ ap (λ o. unwrap_or o 0) (c.place_at.ensures.value ∙ ap (λ (chain : List ℕ). slice_get (places chain) c.args.offset) (c.chain.ensures ∙ ap chain_of c.descriptor_of-descriptor.ensures))
    ∙ unwrap_or-slice_get (places_in c.args.image.now c.args.k) c.args.offset 0

-- a test that was met
refused_15 : (out : List ℕ) (report : Report) → report ≡ refuses 15 → Gives (ReadSays None) report (Refused 15) out out
unfolding NamedSays
refused_15 out report e = gives_refusal (ReadSays None) (Refused 15) out report 15 (bare 15 refl) e

pub returns-then-offset-from : goal.returns-then-offset-from
unfolding reading read_tests first_of unless_met
returns-then-offset-from c =
    let a = c.args in
    rw (le-leb (sectors_of (sector_of a.image.now a.k)) a.offset (omega (arith, count_is (goal.at.returns-then-offset-from c).After-from, c.if-offset-from.true))) (refused_15 a.out.now _ refl)

pub returns-then-out-lt256 : goal.returns-then-out-lt256
unfolding reading read_tests first_of unless_met
returns-then-out-lt256 c =
    let a = c.args in
    rw (lt-leb (sectors_of (sector_of a.image.now a.k)) a.offset (inside (goal.at.returns-then-out-lt256 c).Else-offset-from), lt-ltb (length a.out.now) 256 c.if-out-lt256.true) (refused_15 a.out.now _ refl)

pub returns : goal.returns
unfolding reading read_tests first_of unless_met NamedSays
returns c =
    let a = c.args in
    let given = gives_done (ReadSays None) Done a.out.now _ 0 (sector_of a.image.now (get_or (places_in a.image.now a.k) a.offset 0)) refl refl in
    rw (lt-leb (sectors_of (sector_of a.image.now a.k)) a.offset (inside (goal.at.returns c).Else-offset-from), le-ltb (length a.out.now) 256 c.if-out-lt256.false)
    (record {
      said = given.said;
      left = c.lay.ensures ∙ ap (splice a.out.now 0) (c.sector_of.ensures ∙ ap (sector_of a.image.now) (place_is (goal.at.returns c).After-unwrap_or-place));
    })
