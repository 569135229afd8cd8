-- `storing::store_new` meets its contract: each refusal gives the number of the first test that failed and leaves the image as it was; otherwise the data are written
-- and then what enters the file. Assumes nothing.
use mathlib.Core.Path.{◌≡◌, refl, sym, ap, subst, ◌∙◌}
use mathlib.Core.Bool.{Bool, true, false, cond}
use mathlib.Core.List.{List, []}
use Prim.Native.Nat.{ℕ, ◌+◌, ◌*◌, ◌≤◌}
use native.Mathlib.Omega.{arith}
use lib.Dec.{leb}
use lib.ListN.{length}
use Rattle.rules.specs.Bytes.{word_at, splice}
use Rattle.rules.specs.Sectors.{sector_of, written}
use Rattle.rules.specs.Map.{free_count}
use Rattle.rules.specs.Choice.{descriptor_choice}
use Rattle.rules.specs.Volume.{files_in}
use Rattle.rules.specs.Sound.{SoundIndex}
use Rattle.rules.specs.Kind.{sectors_for}
use Rattle.rules.specs.Calls.Store.{new_sectors, new_blocks}
use Rattle.rules.proofs.Splice.{splice_none}
use Rattle.rules.proofs.Name.{name_is}
use Rattle.rules.proofs.Outcome.{refusal_meets, done_meets}
use Rattle.rules.proofs.Opening.{place_none, place_some}
use Rattle.storing.specs.Program.{program_writes}
use Rattle.storing.proofs.StoreLaws.{too_long, no_place, too_few_free, too_scattered, stored}
use Rattle.storing.proofs.Programming.{program_entered, program_listed}
use Rattle.storing.proofs.store_new.Goals as goal
use Rattle.storing.proofs.store_new.Goals.{After-descriptor_choice-k, After-div_ceil-many, After-free_count_of, After-word, After-write_program, Else-free_count_of-many, Else-word-ne0, Start}

-- the index keeps its rules, and is a sector of the volume
listed : (c : Start) → SoundIndex c.args.layout c.args.image.now c.args.i
listed c = c.requires.0.each c.args.i c.requires.1

pub returns-then-bytes-gt32768 : goal.returns-then-bytes-gt32768
returns-then-bytes-gt32768 c = let both = refusal_meets _ _ _ 15 refl (too_long _ _ _ _ _ (omega arith)) in
    record { meets = both.0; order = both.1 }

-- the bytes are not too many
short : (c : After-word) → length c.args.bytes.now ≤ 32768
short c = omega arith

-- the sectors that they take
many_is : (c : After-div_ceil-many) → c.div_ceil-many.result ≡ sectors_for (length c.args.bytes.now)
many_is c = omega (arith, c.div_ceil-many.ensures)

-- the number at the last place of the index, and the free sectors
word_is : (c : After-word) → let a = c.args in c.word.result ≡ word_at (sector_of a.image.now a.i) (2 * 126)
word_is c = c.word.ensures ∙ ap (λ (s : List ℕ). word_at s 252) c.sector_of.ensures

free_is : (c : After-free_count_of) → c.free_count_of.result ≡ free_count (sector_of c.args.image.now 0)
free_is c = c.free_count_of.ensures.0 ∙ ap free_count c.sector_of-2.ensures

pub returns-then-word-ne0 : goal.returns-then-word-ne0
returns-then-word-ne0 c =
    let full = place_some _ c.args.image.now c.args.i 126 (listed (goal.at.returns-then-word-ne0 c).Start) (λ z. c.if-word-ne0.true (word_is (goal.at.returns-then-word-ne0 c).After-word ∙ z)) in
    let both = refusal_meets _ _ _ 11 refl (no_place _ _ _ _ _ (short (goal.at.returns-then-word-ne0 c).After-word) full.0) in
    record { meets = both.0; order = both.1 }

-- the tests that have passed
has_place : (c : Else-word-ne0) → length (files_in c.args.image.now c.args.i) ≤ 126
has_place c = place_none _ c.args.image.now c.args.i 126 (listed (goal.at.Else-word-ne0 c).Start) (sym (word_is (goal.at.Else-word-ne0 c).After-word) ∙ c.if-word-ne0.false)

has_free : (c : Else-free_count_of-many) →
    let a = c.args in
    1 + sectors_for (length a.bytes.now) ≤ free_count (sector_of a.image.now 0)
has_free c = omega (arith, many_is (goal.at.Else-free_count_of-many c).After-div_ceil-many, free_is (goal.at.Else-free_count_of-many c).After-free_count_of, c.if-free_count_of-many.false)

pub returns-then-free_count_of-many : goal.returns-then-free_count_of-many
returns-then-free_count_of-many c =
    let both = refusal_meets _ _ _ 12 refl (too_few_free _ _ _ _ _ (short (goal.at.returns-then-free_count_of-many c).After-word) (has_place (goal.at.returns-then-free_count_of-many c).Else-word-ne0) (omega (arith, many_is (goal.at.returns-then-free_count_of-many c).After-div_ceil-many, free_is (goal.at.returns-then-free_count_of-many c).After-free_count_of, c.if-free_count_of-many.true))) in
    record { meets = both.0; order = both.1 }

-- the sector chosen
chosen : (c : After-descriptor_choice-k) → c.descriptor_choice-k.result ≡ descriptor_choice (sector_of c.args.image.now 0)
chosen c = c.descriptor_choice-k.ensures.0 ∙ ap descriptor_choice c.sector_of-3.ensures

ten : (c : After-descriptor_choice-k) → length c.args.name.now ≡ 10
ten c = (name_is _ c.requires.2).ten

at_length : (c : After-descriptor_choice-k) → length c.args.bytes.now ≤ 32768
at_length c = short (goal.at.After-descriptor_choice-k c).After-word

pub write_program-requires : goal.write_program-requires
write_program-requires c =
    let whole = c.requires.0 in
    (omega (arith, whole.whole, whole.size), ten (goal.at.write_program-requires c).After-descriptor_choice-k, at_length (goal.at.write_program-requires c).After-descriptor_choice-k, many_is (goal.at.write_program-requires c).After-div_ceil-many, chosen (goal.at.write_program-requires c).After-descriptor_choice-k)

-- what was written of the program and listed, by whether its blocks suffice
abbrev Program : (c : After-write_program) → Bool → Type 0
Program c enough =
    let a = c.args in
    let many = sectors_for (length a.bytes.now) in
    ((enough ≡ leb (length (new_blocks a.image.now many)) 76)
    × (c.write_program.new.image ≡ written a.image.now (cond enough (program_writes a.layout a.image.now a.name.now a.bytes.now) [])))
    × (c.write_program.new.changes ≡ splice a.changes.now 2 (cond enough (new_sectors a.image.now many) []))

program_is : (c : After-write_program) (enough : Bool) → c.write_program.result ≡ enough → Program c enough
program_is c enough e =
    let many = many_is (goal.at.After-write_program c).After-div_ceil-many in
    subst (Program c) e ((rw many at c.write_program.ensures.value), (rw many at c.write_program.ensures.order))

pub returns-then-not-write_program : goal.returns-then-not-write_program
unfolding written
returns-then-not-write_program c =
    let is = program_is (goal.at.returns-then-not-write_program c).After-write_program false (c.if-not-write_program.true) in
    let met = refusal_meets c.args.image.now _ _ 13 refl (too_scattered _ _ _ _ _ (at_length (goal.at.returns-then-not-write_program c).After-descriptor_choice-k) (has_place (goal.at.returns-then-not-write_program c).Else-word-ne0) (has_free (goal.at.returns-then-not-write_program c).Else-free_count_of-many) is.0.0) in
    record { meets = record { said = met.0.said; left = is.0.1 ∙ met.0.left }; order = is.1 ∙ splice_none _ _ ∙ met.1 }

pub returns : goal.returns
returns c =
    let a = c.args in
    let k = c.descriptor_choice-k.result in
    let is = program_is (goal.at.returns c).After-write_program true (c.if-not-write_program.false) in
    let both = done_meets a.image.now _ _ _ _ _ (stored _ _ _ _ _ (at_length (goal.at.returns c).After-descriptor_choice-k) (has_place (goal.at.returns c).Else-word-ne0) (has_free (goal.at.returns c).Else-free_count_of-many) is.0.0)
    (program_entered _ a.image.now a.i a.name.now a.bytes.now c.requires.0 c.requires.1 (ten (goal.at.returns c).After-descriptor_choice-k) (has_free (goal.at.returns c).Else-free_count_of-many) k (chosen (goal.at.returns c).After-descriptor_choice-k) _ _ is.0.1 c.enter.ensures)
    (program_listed _ a.image.now a.i a.name.now a.bytes.now c.requires.0 c.requires.1 (ten (goal.at.returns c).After-descriptor_choice-k) (has_free (goal.at.returns c).Else-free_count_of-many) k (chosen (goal.at.returns c).After-descriptor_choice-k) _ _ _ is.1 (rw (c.from.ensures, c.from-2.ensures, many_is (goal.at.returns c).After-div_ceil-many) at c.list.ensures)) in
    record { meets = both.0; order = both.1 }
