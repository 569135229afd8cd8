-- Openings: a file that a call names, a number of an index at a time; what is known of one that was found and of a name that was not; and what a call on it does.
use mathlib.Core.Path.{◌≡◌, refl, sym, ap, ◌∙◌}
use mathlib.Core.Bool.{Bool, true, false, cond}
use mathlib.Core.List.{List, [], ◌∷◌}
use Prim.Native.Nat.{ℕ, suc, ◌+◌, ◌-◌, ◌*◌, ◌≤◌, ◌<◌}
use native.Mathlib.Omega.{arith}
use native.Mathlib.Decide.{dec_lt, ℕ_discrete}
use lib.ListN.{length, get_or}
use borrow.Author.Tests.{eq-eqb, ne_eqb}
use Rattle.rules.specs.Bytes.{word_at, same}
use Rattle.rules.specs.Sectors.{sector_of, sector_count}
use Rattle.rules.specs.Name.{name_rule, wrong_place}
use Rattle.rules.specs.Map.{count}
use Rattle.rules.specs.Descriptor.{sectors_of, IsDescriptor}
use Rattle.rules.specs.Index.{numbers}
use Rattle.rules.specs.Volume.{index_at, files_in, name_in, places_in}
use Rattle.rules.specs.Verdict.{volume_tests, verdict}
use Rattle.rules.specs.Sound.{file_at, IsIndexed, SoundIndex, Sound, IsFile}
use Rattle.rules.specs.Outcome.{Report, refuses, Outcome, refusal, Bare, NamedSays, NamedAmountSays, ReadSays, Gives}
use Rattle.rules.specs.Opening.{find_from, find_in, in_directory, on_sound, under_name, open_of, on_file, changing, adding}
use Rattle.rules.specs.Refusal.{refused, looked_for}
use Rattle.rules.specs.declared.FileAt.{FileAt}
use Rattle.rules.specs.declared.Layout.{Layout}
use Rattle.rules.specs.declared.refusal.Refusal.{Refusal}
use Rattle.std.specs.Prelude.{Option, None, Some}
use Rattle.rules.specs.Answers.NamedAnswer.{NamedAnswer}
use Rattle.rules.specs.Answers.NamedAnswer as named
use Rattle.rules.specs.Answers.NamedAmount as loaded
use Rattle.rules.specs.Answers.Opened.{Opened}
use Rattle.rules.specs.Answers.Opened.{At, Absent, Refused, Misnamed}
use Rattle.rules.proofs.Tests.{absurd_test, unless_passed, unless_met_lem}
use Rattle.rules.proofs.Bytes.{same_is, is_same}
use Rattle.rules.proofs.Map.{count_none, count_other}
use Rattle.rules.proofs.Sectors.{sector_length}
use Rattle.rules.proofs.Index.{number_at, number_past}
use Rattle.rules.proofs.Volume.{place_inside}
use Rattle.rules.proofs.Indexes.{directory_indexed}
use Rattle.rules.proofs.Verdict.{sound, verdict_small}
use Rattle.rules.proofs.Misnamed.{rule_none, none_rule}
use Rattle.rules.proofs.Refusals.{refused_cases}
use Rattle.rules.proofs.Outcome.{MeetsInOrder, wrong-there, wrong_nowhere, bare, meets_refusal, gives_refusal}

-- the search, a number at a time
module _ (image : List ℕ) (i : ℕ) (name : List ℕ) (p : ℕ) (ks : List ℕ) where
  pub find_step : (k : ℕ) (more there : List ℕ) → ks ≡ k ∷ more → there ≡ name_in image k → find_from image i name p ks ≡ cond (same name there) (At i p k) (find_from image i name (p + 1) more)
  unfolding find_from
  find_step k more there here e = rw (here, e)

  pub find_past : ks ≡ [] → find_from image i name p ks ≡ Absent i
  unfolding find_from
  find_past none = rw none

pub find_first : (image : List ℕ) (i : ℕ) (name : List ℕ) → find_in image i name ≡ find_from image i name 0 (files_in image i)
unfolding find_in
find_first image i name = refl

-- what was looked for in an index, by what the code has of it
module _ {index : ℕ} {file : Option FileAt} {opened : Opened} (is : looked_for index file ≡ opened) where
  pub looked_found : {found : FileAt} → file ≡ Some found → opened ≡ At index found.place found.sector
  looked_found e = sym is ∙ ap (looked_for index) e

  pub looked_none : file ≡ None → opened ≡ Absent index
  looked_none e = sym is ∙ ap (looked_for index) e

-- what is found is there, under that name
record Found (image : List ℕ) (i : ℕ) (name ks : List ℕ) (p h q k : ℕ) : Type 0 where
  same_index : i ≡ h
  after : p ≤ q
  inside : q - p < length ks
  is : get_or ks (q - p) 0 ≡ k
  named : name ≡ name_in image k

found : (image : List ℕ) (i : ℕ) (name : List ℕ) (p : ℕ) (ks : List ℕ) (h q k : ℕ) → find_from image i name p ks ≡ At h q k → Found image i name ks p h q k
unfolding find_from
found image i name p [] h q k e = absurd (let z : ◌≡◌ {A = ℕ} 0 1 = cc in omega arith)
found image i name p (j ∷ ks) h q k e = go (same name (name_in image j)) refl e (found image i name (p + 1) ks h q k)
  where
    go : (t : Bool) → same name (name_in image j) ≡ t → cond t (At i p j) (find_from image i name (p + 1) ks) ≡ At h q k
        → (find_from image i name (p + 1) ks ≡ At h q k → Found image i name ks (p + 1) h q k) → Found image i name (j ∷ ks) p h q k
    go true s e more =
        let same-i : i ≡ h = cc in
        let same-p : p ≡ q = cc in
        let same-j : j ≡ k = cc in
        let z : q - p ≡ 0 = omega arith in
        record { same_index = same-i; after = omega arith; inside = rw z (omega arith); is = rw z same-j; named = rw (← same-j) (same_is name (name_in image j) s) }
    go false s e more =
        let f = more e in
        let z : q - p ≡ suc (q - (p + 1)) = omega (arith, f.after) in
        record { same_index = f.same_index; after = omega (arith, f.after); inside = rw z (omega (arith, f.inside)); is = rw z f.is; named = f.named }

-- the index in which a name is not found
found_none : (image : List ℕ) (i : ℕ) (name : List ℕ) (p : ℕ) (ks : List ℕ) (h : ℕ) → find_from image i name p ks ≡ Absent h → i ≡ h
unfolding find_from
found_none image i name p [] h e = cc
found_none image i name p (j ∷ ks) h e = go (same name (name_in image j)) e (found_none image i name (p + 1) ks h)
  where
    go : (t : Bool) → cond t (At i p j) (find_from image i name (p + 1) ks) ≡ Absent h → (find_from image i name (p + 1) ks ≡ Absent h → i ≡ h) → i ≡ h
    go true e more = absurd (let z : ◌≡◌ {A = ℕ} 0 1 = cc in omega arith)
    go false e more = more e

pub absent_index : (image : List ℕ) (i : ℕ) (name : List ℕ) (h : ℕ) → find_in image i name ≡ Absent h → i ≡ h
unfolding find_in
absent_index image i name h = found_none image i name 0 (files_in image i) h

-- what a call on a named file knows of it
pub record IsOpened (layout : Layout) (image name : List ℕ) (i p k : ℕ) : Type 0 where
  pub whole : Sound layout image
  pub indexed : IsIndexed layout image i
  pub rule : name_rule name ≡ true
  pub inside : p < length (files_in image i)
  pub is : file_at image i p ≡ k
  pub named : name ≡ name_in image k
  pub low : k < sector_count image
  pub long : length (sector_of image k) ≡ 256
  pub descriptor : IsDescriptor layout (sector_count image) (sector_of image k)

opened_facts : (layout : Layout) (image name : List ℕ) (i h p k : ℕ) → Sound layout image → IsIndexed layout image i → name_rule name ≡ true → Found image i name (files_in image i) 0 h p k → IsOpened layout image name i p k
unfolding files_in
opened_facts layout image name i h p k s indexed r f =
    let z : p - 0 ≡ p = omega arith in
    let inside : p < length (files_in image i) = rw z at f.inside in
    let is : file_at image i p ≡ k = rw z at f.is in
    let range = rw is at ((s.each i indexed).index.range p inside) in
    record {
      whole = s;
      indexed = indexed;
      rule = r;
      inside = inside;
      is = is;
      named = f.named;
      low = range.1;
      long = sector_length image k (omega (arith, s.whole, range.1));
      descriptor = rw is at ((s.each i indexed).descriptors p inside);
    }

-- looked for on a sound volume
module _ (layout : Layout) (image : List ℕ) (looked : Opened) where
  pub on_unsound : (verdict layout image ≡ 0 → ⊥) → on_sound layout image looked ≡ Refused (verdict layout image)
  unfolding on_sound verdict
  on_unsound some = unless_met_lem (volume_tests layout image) looked _ some

  pub on_sound_lem : verdict layout image ≡ 0 → on_sound layout image looked ≡ looked
  unfolding on_sound verdict
  on_sound_lem e = unless_passed (volume_tests layout image) looked _ e

-- and under a name that keeps the rule
module _ (name : List ℕ) (looked : Opened) where
  pub under_wrong : (place : ℕ) → wrong_place name ≡ Some place → under_name name looked ≡ Misnamed place
  unfolding under_name
  under_wrong place e = wrong-there (wrong_place name) Misnamed looked place e

  pub under_kept : wrong_place name ≡ None → under_name name looked ≡ looked
  unfolding under_name
  under_kept e = wrong_nowhere (wrong_place name) Misnamed looked e

-- whether it was looked for: a file is there, or none is
unfoldable pub was_looked : Opened → Bool
was_looked (At i p k) = true
was_looked (Absent i) = true
was_looked (Refused number) = false
was_looked (Misnamed place) = false

from_looks : (image : List ℕ) (i : ℕ) (name : List ℕ) (p : ℕ) (ks : List ℕ) → was_looked (find_from image i name p ks) ≡ true
unfolding find_from was_looked
from_looks image i name p [] = refl
from_looks image i name p (k ∷ ks) = go (same name (name_in image k)) (from_looks image i name (p + 1) ks)
  where
    go : (t : Bool) → was_looked (find_from image i name (p + 1) ks) ≡ true → was_looked (cond t (At i p k) (find_from image i name (p + 1) ks)) ≡ true
    go true more = refl
    go false more = more

pub find_looks : (image : List ℕ) (i : ℕ) (name : List ℕ) → was_looked (find_in image i name) ≡ true
unfolding find_in
find_looks image i name = from_looks image i name 0 (files_in image i)

pub find_refused : (image : List ℕ) (i : ℕ) (name : List ℕ) (number : ℕ) → find_in image i name ≡ Refused number → ⊥
unfolding was_looked
find_refused image i name number e = absurd_test (sym (find_looks image i name) ∙ ap was_looked e)

-- by what was opened: what was looked for, or the number of an unsound volume
pub data OnSound (layout : Layout) (image : List ℕ) (looked opened : Opened) : Type 0 where
  whole : Sound layout image → looked ≡ opened → OnSound layout image looked opened
  broken : (verdict layout image ≡ 0 → ⊥) → opened ≡ Refused (verdict layout image) → OnSound layout image looked opened

pub sound_looked : (layout : Layout) (image : List ℕ) (looked opened : Opened) → on_sound layout image looked ≡ opened → OnSound layout image looked opened
sound_looked layout image looked opened e =
    elim (ℕ_discrete (verdict layout image) 0) [
      | yes none ↦ whole (sound layout image none) (sym (on_sound_lem layout image looked none) ∙ e)
      | no some ↦ broken some (sym e ∙ on_unsound layout image looked some)
    ]

-- what was looked for, or the place where the name is wrong
pub data UnderName (name : List ℕ) (looked opened : Opened) : Type 0 where
  ruled : wrong_place name ≡ None → looked ≡ opened → UnderName name looked opened
  unruled : (place : ℕ) → wrong_place name ≡ Some place → opened ≡ Misnamed place → UnderName name looked opened

pub name_looked : (name : List ℕ) (looked opened : Opened) → under_name name looked ≡ opened → UnderName name looked opened
name_looked name looked opened e = go (wrong_place name) refl
  where
    go : (w : Option ℕ) → wrong_place name ≡ w → UnderName name looked opened
    go None none = ruled none (sym (under_kept name looked none) ∙ e)
    go (Some place) there = unruled place there (sym e ∙ under_wrong name looked place there)

-- so a file that is there and a name that is not say that nothing was refused
pub sound_passed : (layout : Layout) (image : List ℕ) (looked opened : Opened) → was_looked opened ≡ true → on_sound layout image looked ≡ opened → Sound layout image × (looked ≡ opened)
unfolding was_looked
sound_passed layout image looked opened was e = go (sound_looked layout image looked opened e)
  where
    go : OnSound layout image looked opened → Sound layout image × (looked ≡ opened)
    go (whole is same) = (is, same)
    go (broken some is) = absurd_test (sym was ∙ ap was_looked is)

pub name_passed : (name : List ℕ) (looked opened : Opened) → was_looked opened ≡ true → under_name name looked ≡ opened → (wrong_place name ≡ None) × (looked ≡ opened)
unfolding was_looked
name_passed name looked opened was e = go (name_looked name looked opened e)
  where
    go : UnderName name looked opened → (wrong_place name ≡ None) × (looked ≡ opened)
    go (ruled none same) = (none, same)
    go (unruled place there is) = absurd_test (sym was ∙ ap was_looked is)

-- in the index of a directory
module _ (layout : Layout) (image : List ℕ) (directory : ℕ) (name : List ℕ) where
  pub in_none : index_at layout image directory ≡ 0 → in_directory layout image directory name ≡ Refused 8
  unfolding in_directory
  in_none none = rw (eq-eqb (index_at layout image directory) 0 none)

  pub in_there : (index_at layout image directory ≡ 0 → ⊥) → in_directory layout image directory name ≡ find_in image (index_at layout image directory) name
  unfolding in_directory
  in_there some = rw (ne_eqb (index_at layout image directory) 0 some)

-- what was found or not found in an index, or 8 where there is no such directory
pub data InDirectory (layout : Layout) (image : List ℕ) (directory : ℕ) (name : List ℕ) (opened : Opened) : Type 0 where
  in_index : (i : ℕ) → index_at layout image directory ≡ i → IsIndexed layout image i → find_in image i name ≡ opened → InDirectory layout image directory name opened
  nowhere : index_at layout image directory ≡ 0 → opened ≡ Refused 8 → InDirectory layout image directory name opened

pub directory_looked : (layout : Layout) (image : List ℕ) (directory : ℕ) (name : List ℕ) (opened : Opened) → in_directory layout image directory name ≡ opened → InDirectory layout image directory name opened
directory_looked layout image directory name opened e =
    elim (ℕ_discrete (index_at layout image directory) 0) [
      | yes none ↦ nowhere none (sym e ∙ in_none layout image directory name none)
      | no some ↦ in_index (index_at layout image directory) refl (directory_indexed layout image directory some) (sym (in_there layout image directory name some) ∙ e)
    ]

-- a place where the name is wrong is none of these
pub directory_misnamed : (layout : Layout) (image : List ℕ) (directory : ℕ) (name : List ℕ) (place : ℕ) → in_directory layout image directory name ≡ Misnamed place → ⊥
unfolding was_looked
directory_misnamed layout image directory name place e = go (directory_looked layout image directory name (Misnamed place) e)
  where
    go : InDirectory layout image directory name (Misnamed place) → ⊥
    go (in_index i is indexed looked) = absurd_test (sym (find_looks image i name) ∙ ap was_looked looked)
    go (nowhere none is) = let z : ◌≡◌ {A = ℕ} 0 1 = cc in omega arith

-- and a number is that of an unsound volume, or 8
pub directory_refused : (layout : Layout) (image : List ℕ) (directory : ℕ) (name : List ℕ) (number : ℕ) → in_directory layout image directory name ≡ Refused number → Bare number number
unfolding was_looked
directory_refused layout image directory name number e = go (directory_looked layout image directory name (Refused number) e)
  where
    go : InDirectory layout image directory name (Refused number) → Bare number number
    go (in_index i is indexed looked) = absurd_test (sym (find_looks image i name) ∙ ap was_looked looked)
    go (nowhere none is) = let eight : number ≡ 8 = cc in (refl, λ z. omega (arith, eight, z), λ z. omega (arith, eight, z))

pub under_refused : (name : List ℕ) (looked : Opened) (number : ℕ) → (looked ≡ Refused number → Bare number number) → under_name name looked ≡ Refused number → Bare number number
under_refused name looked number carries e = go (name_looked name looked (Refused number) e)
  where
    go : UnderName name looked (Refused number) → Bare number number
    go (ruled kept is) = carries is
    go (unruled place there is) = absurd (let z : ◌≡◌ {A = ℕ} 0 1 = cc in omega arith)

pub refused_bare : (layout : Layout) (image : List ℕ) (looked : Opened) → ((number : ℕ) → looked ≡ Refused number → Bare number number) → (number : ℕ) → on_sound layout image looked ≡ Refused number → Bare number number
refused_bare layout image looked carries number e = go (sound_looked layout image looked (Refused number) e)
  where
    go : OnSound layout image looked (Refused number) → Bare number number
    go (whole is same) = carries number same
    go (broken some is) =
        let same : number ≡ verdict layout image = cc in
        (refl, λ z. some (sym same ∙ z), λ z. omega (arith, same, z, verdict_small layout image))

-- what was found is a file of that name
pub found_is : (layout : Layout) (image name : List ℕ) (i h p k : ℕ) → Sound layout image → IsIndexed layout image i → wrong_place name ≡ None → find_in image i name ≡ At h p k → (i ≡ h) × IsOpened layout image name i p k
unfolding find_in
found_is layout image name i h p k is indexed none e =
    let f = found image i name 0 (files_in image i) h p k e in
    (f.same_index, opened_facts layout image name i h p k is indexed (none_rule name none) f)

-- a name that keeps the rule and is no file's of an index, on a sound volume
pub record IsAbsent (layout : Layout) (image name : List ℕ) (i : ℕ) : Type 0 where
  pub whole : Sound layout image
  pub indexed : IsIndexed layout image i
  pub rule : name_rule name ≡ true
  pub absent : find_in image i name ≡ Absent i

-- in a directory: it is there, and the file is or is not
pub directory_found : (layout : Layout) (image : List ℕ) (directory : ℕ) (name : List ℕ) (i p k : ℕ) → Sound layout image → wrong_place name ≡ None → in_directory layout image directory name ≡ At i p k
    → (index_at layout image directory ≡ i) × IsOpened layout image name i p k
directory_found layout image directory name i p k is none e = go (directory_looked layout image directory name (At i p k) e)
  where
    go : InDirectory layout image directory name (At i p k) → (index_at layout image directory ≡ i) × IsOpened layout image name i p k
    go (in_index h at indexed looked) = let f = found_is layout image name h i p k is indexed none looked in (at ∙ f.0, rw f.0 at f.1)
    go (nowhere zero refused) = absurd (let z : ◌≡◌ {A = ℕ} 0 1 = cc in omega arith)

pub directory_absent : (layout : Layout) (image : List ℕ) (directory : ℕ) (name : List ℕ) (i : ℕ) → Sound layout image → wrong_place name ≡ None → in_directory layout image directory name ≡ Absent i
    → (index_at layout image directory ≡ i) × IsAbsent layout image name i
directory_absent layout image directory name i is none e = go (directory_looked layout image directory name (Absent i) e)
  where
    go : InDirectory layout image directory name (Absent i) → (index_at layout image directory ≡ i) × IsAbsent layout image name i
    go (in_index h at indexed looked) =
        let same = absent_index image h name i looked in
        (at ∙ same, record { whole = is; indexed = rw same at indexed; rule = none_rule name none; absent = rw same at looked })
    go (nowhere zero refused) = absurd (let z : ◌≡◌ {A = ℕ} 0 1 = cc in omega arith)

-- of a call that takes one name
module _ (layout : Layout) (image : List ℕ) (directory : ℕ) (name : List ℕ) where
  abbrev found_there : Opened
  found_there = in_directory layout image directory name

  pub open_unsound : (verdict layout image ≡ 0 → ⊥) → open_of layout image directory name ≡ Refused (verdict layout image)
  unfolding open_of
  open_unsound some = on_unsound layout image _ some

  pub open_wrong : (place : ℕ) → verdict layout image ≡ 0 → wrong_place name ≡ Some place → open_of layout image directory name ≡ Misnamed place
  unfolding open_of
  open_wrong place e there = on_sound_lem layout image _ e ∙ under_wrong name _ place there

  pub open_looked : verdict layout image ≡ 0 → wrong_place name ≡ None → open_of layout image directory name ≡ in_directory layout image directory name
  unfolding open_of
  open_looked e none = on_sound_lem layout image _ e ∙ under_kept name _ none

  open_passed : (opened : Opened) → was_looked opened ≡ true → open_of layout image directory name ≡ opened → Sound layout image × (wrong_place name ≡ None) × (found_there ≡ opened)
  unfolding open_of
  open_passed opened was e =
      let s = sound_passed layout image _ opened was e in
      let n = name_passed name _ opened was s.1 in
      (s.0, n.0, n.1)

  pub opened_at : (i p k : ℕ) → open_of layout image directory name ≡ At i p k → (index_at layout image directory ≡ i) × IsOpened layout image name i p k
  unfolding was_looked
  opened_at i p k e = let o = open_passed (At i p k) refl e in directory_found layout image directory name i p k o.0 o.1 o.2

  pub opened_is : (i p k : ℕ) → open_of layout image directory name ≡ At i p k → IsOpened layout image name i p k
  opened_is i p k e = (opened_at i p k e).1

  pub absent_at : (i : ℕ) → open_of layout image directory name ≡ Absent i → (index_at layout image directory ≡ i) × IsAbsent layout image name i
  unfolding was_looked
  absent_at i e = let o = open_passed (Absent i) refl e in directory_absent layout image directory name i o.0 o.1 o.2

  pub absent_is : (i : ℕ) → open_of layout image directory name ≡ Absent i → IsAbsent layout image name i
  absent_is i e = (absent_at i e).1

  -- a refusal carries the volume's number, or 8 where there is no such directory, or the place where the name is wrong
  pub open_refused : (number : ℕ) → open_of layout image directory name ≡ Refused number → Bare number number
  unfolding open_of
  open_refused = refused_bare layout image (under_name name found_there) (λ number e. under_refused name found_there number (directory_refused layout image directory name number) e)

  pub open_misnamed : (place : ℕ) → open_of layout image directory name ≡ Misnamed place → wrong_place name ≡ Some place
  unfolding open_of
  open_misnamed place e = go (sound_looked layout image _ (Misnamed place) e)
    where
      looks : UnderName name found_there (Misnamed place) → wrong_place name ≡ Some place
      looks (ruled none is) = absurd (directory_misnamed layout image directory name place is)
      looks (unruled found there is) = let same : found ≡ place = cc in there ∙ ap Some same

      go : OnSound layout image (under_name name found_there) (Misnamed place) → wrong_place name ≡ Some place
      go (whole is same) = looks (name_looked name _ (Misnamed place) same)
      go (broken some is) = absurd (let z : ◌≡◌ {A = ℕ} 0 1 = cc in omega arith)

-- a name that the search does not find is no file's
unfound_from : (image : List ℕ) (i : ℕ) (name : List ℕ) (p : ℕ) (ks : List ℕ) → find_from image i name p ks ≡ Absent i → (j : ℕ) → 1 ≤ count j ks → name_in image j ≡ name → ⊥
unfolding find_from
unfound_from image i name p [] e j some is = omega (arith, some, count_none j)
unfound_from image i name p (k ∷ ks) e j some is = go (same name (name_in image k)) refl e (unfound_from image i name (p + 1) ks)
  where
    go : (t : Bool) → same name (name_in image k) ≡ t → cond t (At i p k) (find_from image i name (p + 1) ks) ≡ Absent i
        → (find_from image i name (p + 1) ks ≡ Absent i → (j : ℕ) → 1 ≤ count j ks → name_in image j ≡ name → ⊥) → ⊥
    go true s e more = let z : ◌≡◌ {A = ℕ} 0 1 = cc in omega (arith, z)
    go false s e more =
        elim (ℕ_discrete k j) [
          | yes here ↦ absurd_test (sym (rw (here, is) (is_same name)) ∙ s)
          | no there ↦ more e j (omega (arith, some, count_other j k ks there)) is
        ]

pub unfound : (image : List ℕ) (i : ℕ) (name : List ℕ) → find_in image i name ≡ Absent i → (j : ℕ) → 1 ≤ count j (files_in image i) → name_in image j ≡ name → ⊥
unfolding find_in
unfound image i name = unfound_from image i name 0 (files_in image i)

-- what a call makes of what was opened
module _ (opened : Opened) where
  on_refused : (reading : ℕ → Report) (number : ℕ) → opened ≡ Refused number → on_file opened reading ≡ refuses number
  unfolding on_file
  on_refused reading number e = rw e

  on_misnamed : (reading : ℕ → Report) (place : ℕ) → opened ≡ Misnamed place → on_file opened reading ≡ refuses 7
  unfolding on_file
  on_misnamed reading place e = rw e

  on_absent : (reading : ℕ → Report) (i : ℕ) → opened ≡ Absent i → on_file opened reading ≡ refuses 8
  unfolding on_file
  on_absent reading i e = rw e

  pub changing_refused : (change : ℕ → ℕ → Outcome) (number : ℕ) → opened ≡ Refused number → changing opened change ≡ refusal number
  unfolding changing
  changing_refused change number e = rw e

  pub changing_misnamed : (change : ℕ → ℕ → Outcome) (place : ℕ) → opened ≡ Misnamed place → changing opened change ≡ refusal 7
  unfolding changing
  changing_misnamed change place e = rw e

  pub changing_absent : (change : ℕ → ℕ → Outcome) (i : ℕ) → opened ≡ Absent i → changing opened change ≡ refusal 8
  unfolding changing
  changing_absent change i e = rw e

  pub changing_found : (change : ℕ → ℕ → Outcome) (i p k : ℕ) → opened ≡ At i p k → changing opened change ≡ change i k
  unfolding changing
  changing_found change i p k e = rw e

  adding_refused : (addition : ℕ → Outcome) (number : ℕ) → opened ≡ Refused number → adding opened addition ≡ refusal number
  unfolding adding
  adding_refused addition number e = rw e

  adding_misnamed : (addition : ℕ → Outcome) (place : ℕ) → opened ≡ Misnamed place → adding opened addition ≡ refusal 7
  unfolding adding
  adding_misnamed addition place e = rw e

  pub adding_present : (addition : ℕ → Outcome) (i p k : ℕ) → opened ≡ At i p k → adding opened addition ≡ refusal 9
  unfolding adding
  adding_present addition i p k e = rw e

  pub adding_absent : (addition : ℕ → Outcome) (i : ℕ) → opened ≡ Absent i → adding opened addition ≡ addition i
  unfolding adding
  adding_absent addition i e = rw e

-- what it promises: a reading call on the file of that name
module _ (layout : Layout) (image : List ℕ) (directory : ℕ) (name before : List ℕ) (reading : ℕ → Report) where
  abbrev report : Report
  report = on_file (open_of layout image directory name) reading

  pub load_refused : (number : ℕ) → open_of layout image directory name ≡ Refused number → Gives (NamedAmountSays (wrong_place name)) report (loaded.Refused number) before before
  unfolding NamedAmountSays
  load_refused number e = gives_refusal (NamedAmountSays (wrong_place name)) (loaded.Refused number) before report number (open_refused layout image directory name number e) (on_refused _ reading number e)

  pub load_misnamed : (place : ℕ) → open_of layout image directory name ≡ Misnamed place → Gives (NamedAmountSays (wrong_place name)) report (loaded.Misnamed place) before before
  unfolding NamedAmountSays
  load_misnamed place e = gives_refusal (NamedAmountSays (wrong_place name)) (loaded.Misnamed place) before report 7 (refl, open_misnamed layout image directory name place e) (on_misnamed _ reading place e)

  -- a refusal of the opening that is passed on
  pub load_passed : (r : Refusal) → refused Misnamed Refused r ≡ open_of layout image directory name → Gives (NamedAmountSays (wrong_place name)) report (refused loaded.Misnamed loaded.Refused r) before before
  load_passed =
      refused_cases (λ opened given. opened ≡ open_of layout image directory name → Gives (NamedAmountSays (wrong_place name)) report given before before) Misnamed Refused loaded.Misnamed loaded.Refused
      (λ place e. load_misnamed place (sym e)) (λ number e. load_refused number (sym e))

  pub load_absent : (i : ℕ) → open_of layout image directory name ≡ Absent i → Gives (NamedAmountSays (wrong_place name)) report (loaded.Refused 8) before before
  unfolding NamedAmountSays
  load_absent i e = gives_refusal (NamedAmountSays (wrong_place name)) (loaded.Refused 8) before report 8 (bare 8 refl) (on_absent _ reading i e)

  pub file_refused : (number : ℕ) → open_of layout image directory name ≡ Refused number → Gives (ReadSays (wrong_place name)) report (named.Refused number) before before
  unfolding NamedSays
  file_refused number e = gives_refusal (ReadSays (wrong_place name)) (named.Refused number) before report number (open_refused layout image directory name number e) (on_refused _ reading number e)

  pub file_misnamed : (place : ℕ) → open_of layout image directory name ≡ Misnamed place → Gives (ReadSays (wrong_place name)) report (named.Misnamed place) before before
  unfolding NamedSays
  file_misnamed place e = gives_refusal (ReadSays (wrong_place name)) (named.Misnamed place) before report 7 (refl, open_misnamed layout image directory name place e) (on_misnamed _ reading place e)

  pub file_passed : (r : Refusal) → refused Misnamed Refused r ≡ open_of layout image directory name → Gives (ReadSays (wrong_place name)) report (refused named.Misnamed named.Refused r) before before
  file_passed =
      refused_cases (λ opened given. opened ≡ open_of layout image directory name → Gives (ReadSays (wrong_place name)) report given before before) Misnamed Refused named.Misnamed named.Refused
      (λ place e. file_misnamed place (sym e)) (λ number e. file_refused number (sym e))

  pub file_absent : (i : ℕ) → open_of layout image directory name ≡ Absent i → Gives (ReadSays (wrong_place name)) report (named.Refused 8) before before
  unfolding NamedSays
  file_absent i e = gives_refusal (ReadSays (wrong_place name)) (named.Refused 8) before report 8 (bare 8 refl) (on_absent _ reading i e)

  pub on_found : {Given : Type 0} (Says : Option ℕ → Given → Report → Type 0) (i p k : ℕ) → open_of layout image directory name ≡ At i p k → (given : Given) (after : List ℕ)
      → Gives (Says None) (reading k) given before after → Gives (Says (wrong_place name)) report given before after
  unfolding on_file
  on_found Says i p k e given after gives = rw (rule_none name (opened_is layout image directory name i p k e).rule, e) gives

-- a change of it, with the order of its writes
module _ (layout : Layout) (image changes : List ℕ) (directory : ℕ) (name : List ℕ) (change : ℕ → ℕ → Outcome) where
  abbrev outcome : Outcome
  outcome = changing (open_of layout image directory name) change

  pub change_refused : (number : ℕ) → open_of layout image directory name ≡ Refused number → MeetsInOrder (NamedSays (wrong_place name)) outcome (named.Refused number) image image changes changes
  unfolding NamedSays
  change_refused number e = meets_refusal (NamedSays (wrong_place name)) (named.Refused number) image changes outcome number (open_refused layout image directory name number e) (changing_refused _ change number e)

  pub change_misnamed : (place : ℕ) → open_of layout image directory name ≡ Misnamed place → MeetsInOrder (NamedSays (wrong_place name)) outcome (named.Misnamed place) image image changes changes
  unfolding NamedSays
  change_misnamed place e = meets_refusal (NamedSays (wrong_place name)) (named.Misnamed place) image changes outcome 7 (refl, open_misnamed layout image directory name place e) (changing_misnamed _ change place e)

  pub change_passed : (r : Refusal) → refused Misnamed Refused r ≡ open_of layout image directory name
      → MeetsInOrder (NamedSays (wrong_place name)) outcome (refused named.Misnamed named.Refused r) image image changes changes
  change_passed =
      refused_cases (λ opened given. opened ≡ open_of layout image directory name → MeetsInOrder (NamedSays (wrong_place name)) outcome given image image changes changes) Misnamed Refused named.Misnamed named.Refused
      (λ place e. change_misnamed place (sym e)) (λ number e. change_refused number (sym e))

  pub change_absent : (i : ℕ) → open_of layout image directory name ≡ Absent i → MeetsInOrder (NamedSays (wrong_place name)) outcome (named.Refused 8) image image changes changes
  unfolding NamedSays
  change_absent i e = meets_refusal (NamedSays (wrong_place name)) (named.Refused 8) image changes outcome 8 (bare 8 refl) (changing_absent _ change i e)

  pub change_found : (i p k : ℕ) → open_of layout image directory name ≡ At i p k → (given : NamedAnswer) (after order : List ℕ) → MeetsInOrder (NamedSays None) (change i k) given image after changes order
      → MeetsInOrder (NamedSays (wrong_place name)) outcome given image after changes order
  unfolding changing
  change_found i p k e given after order meets = rw (rule_none name (opened_is layout image directory name i p k e).rule, e) meets

-- an addition under its name, likewise
module _ (layout : Layout) (image changes : List ℕ) (directory : ℕ) (name : List ℕ) (addition : ℕ → Outcome) where
  abbrev added : Outcome
  added = adding (open_of layout image directory name) addition

  pub add_refused : (number : ℕ) → open_of layout image directory name ≡ Refused number → MeetsInOrder (NamedSays (wrong_place name)) added (named.Refused number) image image changes changes
  unfolding NamedSays
  add_refused number e = meets_refusal (NamedSays (wrong_place name)) (named.Refused number) image changes added number (open_refused layout image directory name number e) (adding_refused _ addition number e)

  pub add_misnamed : (place : ℕ) → open_of layout image directory name ≡ Misnamed place → MeetsInOrder (NamedSays (wrong_place name)) added (named.Misnamed place) image image changes changes
  unfolding NamedSays
  add_misnamed place e = meets_refusal (NamedSays (wrong_place name)) (named.Misnamed place) image changes added 7 (refl, open_misnamed layout image directory name place e) (adding_misnamed _ addition place e)

  pub add_passed : (r : Refusal) → refused Misnamed Refused r ≡ open_of layout image directory name
      → MeetsInOrder (NamedSays (wrong_place name)) added (refused named.Misnamed named.Refused r) image image changes changes
  add_passed =
      refused_cases (λ opened given. opened ≡ open_of layout image directory name → MeetsInOrder (NamedSays (wrong_place name)) added given image image changes changes) Misnamed Refused named.Misnamed named.Refused
      (λ place e. add_misnamed place (sym e)) (λ number e. add_refused number (sym e))

  pub add_present : (i p k : ℕ) → open_of layout image directory name ≡ At i p k → MeetsInOrder (NamedSays (wrong_place name)) added (named.Refused 9) image image changes changes
  unfolding NamedSays
  add_present i p k e = meets_refusal (NamedSays (wrong_place name)) (named.Refused 9) image changes added 9 (bare 9 refl) (adding_present _ addition i p k e)

  pub add_absent : (i : ℕ) → open_of layout image directory name ≡ Absent i → (given : NamedAnswer) (after order : List ℕ) → MeetsInOrder (NamedSays None) (addition i) given image after changes order
      → MeetsInOrder (NamedSays (wrong_place name)) added given image after changes order
  unfolding adding
  add_absent i e given after order meets = rw (rule_none name (absent_is layout image directory name i e).rule, e) meets

-- the file at a place of the catalogue, by the two bytes of the index there
module _ (layout : Layout) (image : List ℕ) (i p : ℕ) (is : SoundIndex layout image i) where
  pub place_none : word_at (sector_of image i) (2 * p) ≡ 0 → length (files_in image i) ≤ p
  unfolding files_in
  place_none z =
      elim (dec_lt p (length (numbers (sector_of image i)))) [
        | yes h ↦ absurd ((number_at (sector_of image i) p h).1 z)
        | no h ↦ omega arith
      ]

  pub place_some : (word_at (sector_of image i) (2 * p) ≡ 0 → ⊥) → (p < length (files_in image i)) × (file_at image i p ≡ word_at (sector_of image i) (2 * p))
  unfolding files_in
  place_some some =
      elim (dec_lt p (length (numbers (sector_of image i)))) [
        | yes h ↦ (h, (number_at (sector_of image i) p h).0)
        | no h ↦ absurd (some (number_past (sector_count image) (sector_of image i) is.index p (omega arith)))
      ]

  -- a file's descriptor is a sector of the volume
  pub file_low : p < length (files_in image i) → file_at image i p < sector_count image
  unfolding files_in
  file_low h = (is.index.range p h).1

pub place_many : (layout : Layout) (image : List ℕ) (i : ℕ) → SoundIndex layout image i → length (files_in image i) ≤ 127
unfolding files_in
place_many layout image i is = is.index.few

pub file_long : (layout : Layout) (image : List ℕ) (k : ℕ) → Sound layout image → k < sector_count image → length (sector_of image k) ≡ 256
file_long layout image k is h = sector_length image k (omega (arith, is.whole))

-- a file that a call names
pub opened_file : (layout : Layout) (image name : List ℕ) (i p k : ℕ) → IsOpened layout image name i p k → IsFile layout image i k
opened_file layout image name i p k o = record { sound = o.whole; indexed = o.indexed; place = p; inside = o.inside; is = o.is }

pub is_file : (layout : Layout) (image : List ℕ) (directory : ℕ) (name : List ℕ) (i p k : ℕ) → open_of layout image directory name ≡ At i p k → IsFile layout image i k
is_file layout image directory name i p k e = opened_file layout image name i p k (opened_is layout image directory name i p k e)

-- what is known of a file
module _ (layout : Layout) (image : List ℕ) (i k : ℕ) (file : IsFile layout image i k) where
  pub in_volume : k < sector_count image
  in_volume = rw (← file.is) (file_low layout image i file.place (file.sound.each i file.indexed) file.inside)

  pub has_rules : IsDescriptor layout (sector_count image) (sector_of image k)
  has_rules = rw (← file.is) ((file.sound.each i file.indexed).descriptors file.place file.inside)

  pub is_sector : length (sector_of image k) ≡ 256
  is_sector = file_long layout image k file.sound in_volume

  pub place_in_image : (offset : ℕ) → offset < sectors_of (sector_of image k) → 256 * get_or (places_in image k) offset 0 + 256 ≤ length image
  place_in_image offset h = omega (arith, (place_inside layout (sector_count image) image k offset has_rules h).1, file.sound.whole)

-- a change that was done: the file was found, and the change of it was done
pub record Changed (opened : Opened) (change : ℕ → ℕ → Outcome) : Type 0 where
  pub index : ℕ
  pub place : ℕ
  pub sector : ℕ
  pub found_at : opened ≡ At index place sector
  pub is : changing opened change ≡ change index sector
  pub number : (change index sector).number ≡ 0

pub changed_done : (opened : Opened) (change : ℕ → ℕ → Outcome) → ((number : ℕ) → opened ≡ Refused number → Bare number number) → (changing opened change).number ≡ 0 → Changed opened change
unfolding changing
changed_done (At i p k) change some e = record { index = i; place = p; sector = k; found_at = refl; is = refl; number = e }
changed_done (Absent i) change some e = absurd (omega (arith, e))
changed_done (Refused number) change some e = absurd ((some number refl).1 e)
changed_done (Misnamed place) change some e = absurd (omega (arith, e))

-- an addition that was done: the name was not there
pub record Added (opened : Opened) (addition : ℕ → Outcome) : Type 0 where
  pub index : ℕ
  pub absent : opened ≡ Absent index
  pub is : adding opened addition ≡ addition index
  pub number : (addition index).number ≡ 0

pub added_done : (opened : Opened) (addition : ℕ → Outcome) → ((number : ℕ) → opened ≡ Refused number → Bare number number) → (adding opened addition).number ≡ 0 → Added opened addition
unfolding adding
added_done (At i p k) addition some e = absurd (omega (arith, e))
added_done (Absent i) addition some e = record { index = i; absent = refl; is = refl; number = e }
added_done (Refused number) addition some e = absurd ((some number refl).1 e)
added_done (Misnamed place) addition some e = absurd (omega (arith, e))
