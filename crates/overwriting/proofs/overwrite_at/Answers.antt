-- `overwriting::overwrite_at` meets its contract: each refusal gives the number of the first test that was met; a place of a sound file is inside the image; by the old rule a descriptor marked where it stands is what it was. Assumes nothing.
use mathlib.Core.Path.{◌≡◌, refl, sym, ap, ◌∙◌}
use mathlib.Core.Bool.{false, cond}
use mathlib.Core.List.{List, [], ◌∷◌}
use Prim.Native.Nat.{ℕ, ◌+◌, ◌-◌, ◌*◌, ◌≤◌, ◌<◌}
use native.Mathlib.Omega.{arith}
use lib.Dec.{leb}
use lib.ListN.{length, get_or}
use borrow.Author.Tests.{eq-eqb, ne_eqb, le-leb, lt-leb}
use borrow.Rule.Slice.PartMut.{put_mid}
use Rattle.std.specs.Prelude.{slice_get, unwrap_or}
use Rattle.std.proofs.lemmas.Option.{unwrap_or-slice_get}
use Rattle.rules.specs.Bytes.{splice}
use Rattle.rules.specs.Sectors.{sectors_in, sector_of, written}
use Rattle.rules.specs.Kind.{is_program, is_protected}
use Rattle.rules.specs.Descriptor.{status_of, sectors_of, chain_of, marked_by}
use Rattle.rules.specs.Chain.{places}
use Rattle.rules.specs.Volume.{places_in}
use Rattle.rules.specs.Tests.{first_of, unless_met}
use Rattle.rules.specs.Outcome.{order_of}
use Rattle.rules.specs.Calls.Overwrite.{overwrite_tests, overwrite_writes, overwriting}
use Rattle.rules.specs.declared.Layout.{Layout}
use Rattle.rules.proofs.Tests.{by_rule}
use Rattle.rules.proofs.Marks.{overwrite_written}
use Rattle.rules.proofs.Splice.{put_back}
use Rattle.rules.proofs.Outcome.{refusal_meets, done_meets}
use Rattle.rules.proofs.Opening.{in_volume, place_in_image}
use Rattle.overwriting.proofs.overwrite_at.Goals as goal
use Rattle.overwriting.proofs.overwrite_at.Goals.{After-is_protected, After-is_program, After-from, After-unwrap_or-place, After-mark_descriptor, Else-is_protected, Else-is_program, Else-offset-from}

-- what the tests so far say of the file
protected_is : (c : After-is_protected) → c.is_protected.result ≡ is_protected (status_of (sector_of c.args.image.now c.args.k))
protected_is c = c.is_protected.ensures ∙ ap (λ (s : List ℕ). is_protected (status_of s)) c.descriptor_of-descriptor.ensures

program_is : (c : After-is_program) → c.is_program.result ≡ is_program (status_of (sector_of c.args.image.now c.args.k))
program_is c = c.is_program.ensures ∙ ap (λ (s : List ℕ). is_program (status_of s)) c.descriptor_of-descriptor.ensures

open_file : (c : Else-is_protected) → is_protected (status_of (sector_of c.args.image.now c.args.k)) ≡ false
open_file c = sym (protected_is (goal.at.Else-is_protected c).After-is_protected) ∙ c.if-is_protected.false

is_data : (c : Else-is_program) → is_program (status_of (sector_of c.args.image.now c.args.k)) ≡ false
is_data c = sym (program_is (goal.at.Else-is_program c).After-is_program) ∙ c.if-is_program.false

count_is : (c : After-from) → sectors_of (sector_of c.args.image.now c.args.k) ≡ c.from.result
count_is c = ap sectors_of (sym c.descriptor_of-descriptor.ensures) ∙ sym c.sectors.ensures ∙ sym c.from.ensures

inside : (c : Else-offset-from) → c.args.offset < sectors_of (sector_of c.args.image.now c.args.k)
inside c = omega (arith, count_is (goal.at.Else-offset-from c).After-from, c.if-offset-from.false)

not_past : (c : Else-offset-from) → leb (sectors_of (sector_of c.args.image.now c.args.k)) c.args.offset ≡ false
not_past c = lt-leb (sectors_of (sector_of c.args.image.now c.args.k)) c.args.offset (inside c)

-- the place of the offset
place_is : (c : After-unwrap_or-place) → c.unwrap_or-place.result ≡ get_or (places_in c.args.image.now c.args.k) c.args.offset 0
unfolding places_in
place_is c =
    c.unwrap_or-place.ensures
    ∙ ap (λ o. unwrap_or o 0) (c.place_at.ensures.value ∙ ap (λ (chain : List ℕ). slice_get (places chain) c.args.offset) (c.chain.ensures ∙ ap chain_of c.descriptor_of-descriptor.ensures))
    ∙ unwrap_or-slice_get (places_in c.args.image.now c.args.k) c.args.offset 0

reaches : (c : After-unwrap_or-place) → 256 * c.unwrap_or-place.result + 256 ≤ length c.args.image.now
reaches c = omega (arith, place_is c, place_in_image _ c.args.image.now _ c.args.k c.requires.1 c.args.offset (inside (goal.at.After-unwrap_or-place c).Else-offset-from))

pub returns-then-is_protected : goal.returns-then-is_protected
unfolding overwriting overwrite_tests first_of unless_met
returns-then-is_protected c =
    let test = sym (protected_is (goal.at.returns-then-is_protected c).After-is_protected) ∙ c.if-is_protected.true in
    let both = refusal_meets c.args.image.now c.args.changes.now _ 10 refl refl in
    record { meets = rw test both.0; order = rw test both.1 }

pub returns-then-is_program : goal.returns-then-is_program
unfolding overwriting overwrite_tests first_of unless_met
returns-then-is_program c =
    let first = open_file (goal.at.returns-then-is_program c).Else-is_protected in
    let test = sym (program_is (goal.at.returns-then-is_program c).After-is_program) ∙ c.if-is_program.true in
    let both = refusal_meets c.args.image.now c.args.changes.now _ 14 refl refl in
    record { meets = rw (first, test) both.0; order = rw (first, test) both.1 }

pub returns-then-offset-from : goal.returns-then-offset-from
unfolding overwriting overwrite_tests first_of unless_met
returns-then-offset-from c =
    let a = c.args in
    let first = open_file (goal.at.returns-then-offset-from c).Else-is_protected in
    let second = is_data (goal.at.returns-then-offset-from c).Else-is_program in
    let test = le-leb (sectors_of (sector_of a.image.now a.k)) a.offset (omega (arith, count_is (goal.at.returns-then-offset-from c).After-from, c.if-offset-from.true)) in
    let both = refusal_meets a.image.now a.changes.now _ 15 refl refl in
    record { meets = rw (first, second, test) both.0; order = rw (first, second, test) both.1 }

pub returns-then-bytes-ne256 : goal.returns-then-bytes-ne256
unfolding overwriting overwrite_tests first_of unless_met
returns-then-bytes-ne256 c =
    let a = c.args in
    let first = open_file (goal.at.returns-then-bytes-ne256 c).Else-is_protected in
    let second = is_data (goal.at.returns-then-bytes-ne256 c).Else-is_program in
    let third = not_past (goal.at.returns-then-bytes-ne256 c).Else-offset-from in
    let test = ne_eqb _ _ c.if-bytes-ne256.true in
    let both = refusal_meets a.image.now a.changes.now _ 15 refl refl in
    record { meets = rw (first, second, third, test) both.0; order = rw (first, second, third, test) both.1 }

pub mark_descriptor-requires : goal.mark_descriptor-requires
mark_descriptor-requires c = let file = c.requires.1 in omega (arith, c.from-2.ensures, in_volume _ _ _ _ file, file.sound.whole)

reaches_marked : (c : After-mark_descriptor) → 256 * c.from-at.result + 256 ≤ length c.mark_descriptor.new.image
reaches_marked c =
    omega (arith, c.from-at.ensures, reaches (goal.at.After-mark_descriptor c).After-unwrap_or-place, c.mark_descriptor.auto.image)

pub slice_bounds-copy-end : goal.slice_bounds-copy-end
slice_bounds-copy-end c = omega (arith, reaches_marked (goal.at.slice_bounds-copy-end c).After-mark_descriptor)

-- what is written and what is listed, by either rule
module _ (layout : Layout) (image bytes : List ℕ) (offset k place : ℕ) (is : place ≡ get_or (places_in image k) offset 0) where
  left_is : (at : ℕ) (marked copied : List ℕ) → at ≡ place → marked ≡ splice image (256 * k) (marked_by layout (sector_of image k)) → copied ≡ bytes → length bytes ≡ 256 → 256 * at + 256 ≤ length marked
      → put_mid (256 * at) (256 * at + 256 - 256 * at) marked copied ≡ written image (overwrite_writes layout image offset bytes k)
  left_is at marked copied there with-mark same whole fits =
      let e : 256 * at + 256 - 256 * at ≡ 256 = omega arith in
      rw (e, same)
      (put_back marked bytes (256 * at) 256 whole fits ∙ ap (λ (n : ℕ). splice marked (256 * n) bytes) (there ∙ is)
      ∙ ap (λ (l : List ℕ). splice l (256 * get_or (places_in image k) offset 0) bytes) with-mark
      ∙ sym (overwrite_written layout image bytes offset k))

  order_is : cond layout.marks (2 ∷ (k ∷ (place ∷ []))) (1 ∷ (place ∷ [])) ≡ order_of (overwrite_writes layout image offset bytes k)
  unfolding overwrite_writes order_of sectors_in
  order_is =
      let at = get_or (places_in image k) offset 0 in
      rw is (by_rule (λ layout. cond layout.marks (2 ∷ (k ∷ (at ∷ []))) (1 ∷ (at ∷ [])) ≡ order_of (overwrite_writes layout image offset bytes k)) (λ edition. refl) (λ edition. refl) layout)

pub returns : goal.returns
unfolding overwriting overwrite_tests first_of unless_met
returns c =
    let a = c.args in
    let is = place_is (goal.at.returns c).After-unwrap_or-place in
    let first = open_file (goal.at.returns c).Else-is_protected in
    let second = is_data (goal.at.returns c).Else-is_program in
    let third = not_past (goal.at.returns c).Else-offset-from in
    let whole = eq-eqb _ _ c.if-bytes-ne256.false in
    let both = done_meets a.image.now _ _ (overwrite_writes a.layout a.image.now a.offset a.bytes.now a.k) _ _ refl
    (left_is _ _ _ _ _ _ is _ _ _ c.from-at.ensures (rw c.from-2.ensures at c.mark_descriptor.ensures) c.copy.ensures c.if-bytes-ne256.false (reaches_marked (goal.at.returns c).After-mark_descriptor))
    (c.list_overwrite.ensures ∙ ap (splice _ 1) (order_is _ _ _ _ _ _ is)) in
    record { meets = rw (first, second, third, whole) both.0; order = rw (first, second, third, whole) both.1 }
