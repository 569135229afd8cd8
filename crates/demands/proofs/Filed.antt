-- The file of a name, in the catalogue and in its index. No other file has its name, so a number put in, taken out or found among the files is that file put in, taken out or found in the
-- catalogue; and where one file is changed, the catalogue has that one changed.
use mathlib.Core.Path.{◌≡◌, refl, ap, sym, ◌∙◌}
use mathlib.Core.Bool.{Bool, true, false, cond}
use mathlib.Core.List.{List, [], ◌∷◌, map}
use Prim.Native.Nat.{ℕ, ◌≤◌, ◌<◌}
use lib.ListN.{length}
use native.Mathlib.Omega.{arith}
use native.Mathlib.Decide.{ℕ_discrete}
use Rattle.rules.specs.Name.{precedes}
use Rattle.rules.specs.Map.{count}
use Rattle.rules.specs.Descriptor.{name_of}
use Rattle.rules.specs.Volume.{File, name_in, file_in, placed, files_in, catalogue}
use Rattle.rules.specs.Bytes.{same}
use Rattle.rules.specs.Index.{without}
use Rattle.rules.specs.Sound.{file_at, IsIndexed, Sound}
use Rattle.rules.specs.declared.Layout.{Layout}
use Rattle.rules.proofs.Map.{count_here, count_more, count_none, count_other}
use Rattle.rules.proofs.Volume.{get_mapped, header_name}
use Rattle.rules.proofs.Bytes.{is_same, not_same}
use Rattle.rules.proofs.Indexed.{without_none, without_here, without_later}
use Rattle.rules.proofs.Staying.{files_kept}
use Rattle.rules.proofs.Listed.{listed_name}
use Rattle.demands.specs.Catalogue.{file_name, no_file, file_of, put_in, taken_out, changed, named}

-- the file at a place of the catalogue
pub file_of_lem : (image : List ℕ) (i p : ℕ) → p < length (files_in image i) → file_of image i p ≡ file_in image (file_at image i p)
unfolding catalogue
file_of_lem image i p h = get_mapped (file_in image) (files_in image i) p 0 no_file h

-- the name in the catalogue is the descriptor's: both are its first ten bytes
pub file_name_lem : (image : List ℕ) (k : ℕ) → file_name (file_in image k) ≡ name_in image k
unfolding file_in name_of
file_name_lem image k = header_name image k

-- the catalogue is read of the image afterwards, where k has the new name and the others have theirs
module _ (image after name : List ℕ) (k : ℕ) (named : file_name (file_in after k) ≡ name) where
  pub placed_files : (ks : List ℕ) → ((j : ℕ) → 1 ≤ count j ks → file_name (file_in after j) ≡ name_in image j)
      → map (file_in after) (placed image name k ks) ≡ put_in (file_in after k) (map (file_in after) ks)
  unfolding placed put_in
  placed_files [] kept = refl
  placed_files (j ∷ js) kept =
      rw (named, kept j (omega (arith, count_here j js)))
      (go (precedes name (name_in image j)) (placed_files js (λ i h. kept i (omega (arith, h, count_more i j js)))))
    where
      go : (t : Bool) → map (file_in after) (placed image name k js) ≡ put_in (file_in after k) (map (file_in after) js)
          → map (file_in after) (cond t (k ∷ (j ∷ js)) (j ∷ placed image name k js))
          ≡ cond t (file_in after k ∷ (file_in after j ∷ map (file_in after) js)) (file_in after j ∷ put_in (file_in after k) (map (file_in after) js))
      go true more = refl
      go false more = ap (λ (l : List File). file_in after j ∷ l) more

-- the file at k has the name, and no other
module _ (image name : List ℕ) (k : ℕ) (is : name ≡ name_in image k) where
  same_here : same name (file_name (file_in image k)) ≡ true
  same_here = rw (file_name_lem image k, ← is) (is_same name)

  same_other : (j : ℕ) → (name_in image j ≡ name_in image k → j ≡ k) → (j ≡ k → ⊥) → same name (file_name (file_in image j)) ≡ false
  same_other j only other = rw (file_name_lem image j) (not_same name (name_in image j) (λ e. other (only (sym e ∙ is))))

  -- k taken out of the numbers
  pub taken_out_lem : (ks : List ℕ) → ((j : ℕ) → 1 ≤ count j ks → name_in image j ≡ name_in image k → j ≡ k) → map (file_in image) (without k ks) ≡ taken_out name (map (file_in image) ks)
  unfolding taken_out
  taken_out_lem [] only = rw (without_none k)
  taken_out_lem (j ∷ js) only =
      elim (ℕ_discrete j k) [
        | yes here ↦ rw (without_here k j js here, here, same_here)
        | no there ↦
            rw (without_later k j js there, same_other j (only j (omega (arith, count_here j js))) there, taken_out_lem js (λ i h. only i (omega (arith, count_more i j js))))
      ]

  -- k found by its name
  named_is : (ks : List ℕ) → 1 ≤ count k ks → ((j : ℕ) → 1 ≤ count j ks → name_in image j ≡ name_in image k → j ≡ k) → named name (map (file_in image) ks) ≡ file_in image k
  unfolding named
  named_is [] some only = absurd (omega (arith, count_none k))
  named_is (j ∷ js) some only =
      elim (ℕ_discrete j k) [
        | yes here ↦ rw (here, same_here)
        | no there ↦
            rw (same_other j (only j (omega (arith, count_here j js))) there)
            (named_is js (omega (arith, count_other k j js there)) (λ i h. only i (omega (arith, count_more i j js))))
      ]

  -- k changed, and the others as they stood
  pub changed_files : (after : List ℕ) (change : File → File) → change (file_in image k) ≡ file_in after k → (ks : List ℕ) → 1 ≤ count k ks
      → ((j : ℕ) → 1 ≤ count j ks → name_in image j ≡ name_in image k → j ≡ k) → ((j : ℕ) → 1 ≤ count j (without k ks) → file_in after j ≡ file_in image j)
      → map (file_in after) ks ≡ changed name change (map (file_in image) ks)
  unfolding changed
  changed_files after change e [] some only others = absurd (omega (arith, count_none k))
  changed_files after change e (j ∷ js) some only others =
      elim (ℕ_discrete j k) [
        | yes here ↦ rw (here, same_here, e) (ap (λ (l : List File). file_in after k ∷ l) (files_kept image after js (λ i h. others i (rw (without_here k j js here) h))))
        | no there ↦
            let left = without_later k j js there in
            rw (same_other j (only j (omega (arith, count_here j js))) there, others j (rw left (omega (arith, count_here j (without k js)))))
            (ap (λ (l : List File). file_in image j ∷ l)
            (changed_files after change e js (omega (arith, count_other k j js there)) (λ i h. only i (omega (arith, count_more i j js))) (λ i h. others i (rw left (omega (arith, h, count_more i j (without k js)))))))
      ]

  -- and where the catalogue has one changed, that is k
  pub changed_at : (after : List ℕ) (change : File → File) (ks : List ℕ) → 1 ≤ count k ks → ((j : ℕ) → 1 ≤ count j ks → name_in image j ≡ name_in image k → j ≡ k)
      → map (file_in after) ks ≡ changed name change (map (file_in image) ks) → file_in after k ≡ change (file_in image k)
  unfolding changed
  changed_at after change [] some only e = absurd (omega (arith, some, count_none k))
  changed_at after change (j ∷ js) some only e =
      elim (ℕ_discrete j k) [
        | yes here ↦
            let one : file_in after k ∷ map (file_in after) js ≡ change (file_in image k) ∷ map (file_in image) js = rw (here, same_here) at e in
            cc one
        | no there ↦
            let later : file_in after j ∷ map (file_in after) js ≡ file_in image j ∷ changed name change (map (file_in image) js) = rw (same_other j (only j (omega (arith, count_here j js))) there) at e in
            changed_at after change js (omega (arith, some, count_other k j js there)) (λ i h. only i (omega (arith, h, count_more i j js))) (cc later)
      ]

-- the file of that name in the catalogue of a sound volume
pub named_file : (layout : Layout) (image : List ℕ) (i : ℕ) (name : List ℕ) (k : ℕ) → Sound layout image → IsIndexed layout image i → 1 ≤ count k (files_in image i) → name ≡ name_in image k → named name (catalogue image i) ≡ file_in image k
unfolding catalogue
named_file layout image i name k sound indexed there is = named_is image name k is (files_in image i) there (λ j listed. listed_name layout image sound i indexed j k listed there)
