-- Claims, some neighbours at a time, in the order in which the two loops meet them: what is left to claim comes to what the whole comes to.
use mathlib.Core.Path.{◌≡◌, refl, sym, ap, subst, ◌∙◌}
use mathlib.Core.Bool.{Bool, true, false, cond, not, ◌&&◌, ◌||◌}
use mathlib.Core.List.{List, [], ◌∷◌, ◌++◌, append_assoc}
use Prim.Native.Nat.{ℕ, ◌+◌, ◌≤◌, ◌<◌}
use native.Mathlib.Omega.{arith}
use lib.Dec.{eqb}
use lib.ListN.{length, length-append}
use borrow.Author.Tests.{not-true, not-false}
use Rattle.rules.specs.Sectors.{sector_of}
use Rattle.rules.specs.Chain.{run, places}
use Rattle.rules.specs.Descriptor.{chain_of}
use Rattle.rules.specs.Map.{map_bit, count, marked, marked_all}
use Rattle.rules.specs.Volume.{files_in, places_in, file_holders}
use Rattle.rules.proofs.Tests.{absurd_test, both}
use Rattle.rules.proofs.Chain.{run_length, run_none, run_step, run_counts, run_once}
use Rattle.rules.proofs.Map.{count_here, count_more, count_append, count_apart}
use Rattle.rules.proofs.Marking.{marked_other, all_append}
use Rattle.judge.specs.Claim.{as_map, all_free, clashes, Below, claims}
use Rattle.descriptor.specs.Ahead.{places_left, past}
use Rattle.descriptor.specs.declared.chain.Places.{Places}
use Rattle.descriptor.proofs.Ahead.{in_block_past}

-- a sector that is marked changes nothing for others
free_marked : (sector0 : List ℕ) (k : ℕ) (ks : List ℕ) → count k ks ≡ 0 → all_free (marked 1 sector0 k) ks ≡ all_free sector0 ks
unfolding all_free
free_marked sector0 k [] none = refl
free_marked sector0 k (j ∷ js) none =
    let apart = count_apart k j js none in
    rw (marked_other 1 (omega arith) sector0 k j (λ e. apart.0 (sym e)), free_marked sector0 k js apart.1)

-- Sectors that are each named once, tested at once: where all are free they are marked and the rest is left; where one is not, that is a clash.
clash_free : (sector0 js rest : List ℕ) → ((k : ℕ) → count k js ≤ 1) → all_free sector0 js ≡ true → clashes sector0 (js ++ rest) ≡ clashes (marked_all 1 sector0 js) rest
unfolding all_free clashes marked_all
clash_free sector0 [] rest once free = refl
clash_free sector0 (j ∷ js) rest once free =
    let parts = both (eqb (map_bit sector0 j) 0) (all_free sector0 js) free in
    let gone : count j js ≡ 0 = omega (arith, once j, count_here j js) in
    rw parts.0 (clash_free (marked 1 sector0 j) js rest (λ k. omega (arith, once k, count_more k j js)) (free_marked sector0 j js gone ∙ parts.1))

clash_taken : (sector0 js rest : List ℕ) → ((k : ℕ) → count k js ≤ 1) → all_free sector0 js ≡ false → clashes sector0 (js ++ rest) ≡ true
unfolding all_free clashes
clash_taken sector0 [] rest once taken = absurd_test taken
clash_taken sector0 (j ∷ js) rest once taken =
    let gone : count j js ≡ 0 = omega (arith, once j, count_here j js) in
    go (eqb (map_bit sector0 j) 0) taken
    (λ later. clash_taken (marked 1 sector0 j) js rest (λ k. omega (arith, once k, count_more k j js)) (free_marked sector0 j js gone ∙ later))
  where
    go : (t : Bool) → (t && all_free sector0 js) ≡ false → (all_free sector0 js ≡ false → clashes (marked 1 sector0 j) (js ++ rest) ≡ true)
        → cond t (clashes (marked 1 sector0 j) (js ++ rest)) true ≡ true
    go true taken more = more taken
    go false taken more = refl

-- claims one after another: those behind come to what they come to on the map that the first leave, unless these clash
clash_append : (sector0 js rest : List ℕ) → clashes sector0 (js ++ rest) ≡ (clashes sector0 js || clashes (marked_all 1 sector0 js) rest)
unfolding clashes marked_all
clash_append sector0 [] rest = refl
clash_append sector0 (j ∷ js) rest = go (eqb (map_bit sector0 j) 0) (clash_append (marked 1 sector0 j) js rest)
  where
    go : (t : Bool) → clashes (marked 1 sector0 j) (js ++ rest) ≡ (clashes (marked 1 sector0 j) js || clashes (marked_all 1 (marked 1 sector0 j) js) rest)
        → cond t (clashes (marked 1 sector0 j) (js ++ rest)) true ≡ (cond t (clashes (marked 1 sector0 j) js) true || clashes (marked_all 1 (marked 1 sector0 j) js) rest)
    go true e = e
    go false e = refl

-- What is left to claim on the marks as they are, of sectors below n: it comes to what the whole comes to on the marks as they were.
pub record Left (n : ℕ) (marks₀ whole marks rest : List ℕ) : Type 0 where
  pub clash : clashes (as_map marks) rest ≡ clashes (as_map marks₀) whole
  pub left : marked_all 1 (as_map marks) rest ≡ marked_all 1 (as_map marks₀) whole
  pub below : Below n rest

module _ (n : ℕ) (marks₀ whole : List ℕ) where
  pub left_start : Below n whole → Left n marks₀ whole marks₀ whole
  left_start below = record { clash = refl; left = refl; below = below }

  -- the same sectors in other words
  pub left_as : (marks : List ℕ) {rest rest' : List ℕ} → rest ≡ rest' → Left n marks₀ whole marks rest → Left n marks₀ whole marks rest'
  left_as marks e is = subst (Left n marks₀ whole marks) e is

  -- from an earlier place on
  pub left_from : {marks₁ rest₁ marks rest : List ℕ} → Left n marks₀ whole marks₁ rest₁ → Left n marks₁ rest₁ marks rest → Left n marks₀ whole marks rest
  left_from earlier is = record { clash = is.clash ∙ earlier.clash; left = is.left ∙ earlier.left; below = is.below }

  pub left_none : (marks : List ℕ) {rest : List ℕ} → rest ≡ [] → Left n marks₀ whole marks rest → (false ≡ clashes (as_map marks₀) whole) × (as_map marks ≡ marked_all 1 (as_map marks₀) whole)
  unfolding clashes marked_all
  left_none marks e is = let none = left_as marks e is in (none.clash, none.left)

  -- neighbours that are taken, for whatever is still to be claimed
  module _ (marks : List ℕ) (k many : ℕ) (rest : List ℕ) (is : Left n marks₀ whole marks (run k many ++ rest)) where
    pub left_below : (j : ℕ) → j < many → k + j < n
    left_below j h = is.below (k + j) (omega (arith, count_append (k + j) (run k many) rest, run_counts (k + j) k many (omega arith) (omega arith)))

    module _ (after : List ℕ) (free : Bool) (free_is : free ≡ all_free (as_map marks) (run k many)) (left_is : as_map after ≡ cond free (marked_all 1 (as_map marks) (run k many)) (as_map marks)) where
      pub left_taken : not free ≡ false → Left n marks₀ whole after rest
      left_taken e =
          let yes-free = not-false free e in
          let after_is : as_map after ≡ marked_all 1 (as_map marks) (run k many) = left_is ∙ rw yes-free in
          record {
            clash = ap (λ (s : List ℕ). clashes s rest) after_is ∙ sym (clash_free (as_map marks) (run k many) rest (λ j. run_once j k many) (sym free_is ∙ yes-free)) ∙ is.clash;
            left = ap (λ (s : List ℕ). marked_all 1 s rest) after_is ∙ sym (all_append 1 (as_map marks) (run k many) rest) ∙ is.left;
            below = λ j some. is.below j (omega (arith, some, count_append j (run k many) rest));
          }

      pub left_clash : not free ≡ true → true ≡ clashes (as_map marks₀) whole
      left_clash e =
          sym (clash_taken (as_map marks) (run k many) rest (λ j. run_once j k many) (sym free_is ∙ not-true free e)) ∙ is.clash

  -- several that were claimed at once, and whatever is behind them
  module _ (marks js rest : List ℕ) (is : Left n marks₀ whole marks (js ++ rest)) (twice : Bool) (clash_is : twice ≡ clashes (as_map marks) js) where
    pub left_behind : twice ≡ false → (after : List ℕ) → as_map after ≡ marked_all 1 (as_map marks) js → Left n marks₀ whole after rest
    left_behind e after after_is =
        record {
          clash = ap (λ (s : List ℕ). clashes s rest) after_is ∙ sym (clash_append (as_map marks) js rest ∙ rw (← clash_is, e)) ∙ is.clash;
          left = ap (λ (s : List ℕ). marked_all 1 s rest) after_is ∙ sym (all_append 1 (as_map marks) js rest) ∙ is.left;
          below = λ j some. is.below j (omega (arith, some, count_append j js rest));
        }

    pub left_twice : twice ≡ true → true ≡ clashes (as_map marks₀) whole
    left_twice e = sym (clash_append (as_map marks) js rest ∙ rw (← clash_is, e)) ∙ is.clash

-- the indexes that are left
module _ (image is : List ℕ) where
  pub claims_step : (i : ℕ) (more : List ℕ) → is ≡ i ∷ more → claims image is ≡ i ∷ (file_holders image (files_in image i) ++ claims image more)
  unfolding claims
  claims_step i more here = rw here

  pub claims_past : is ≡ [] → claims image is ≡ []
  unfolding claims
  claims_past none = rw none

-- the files that are left
module _ (image ks : List ℕ) where
  pub files_step : (k : ℕ) (more : List ℕ) → ks ≡ k ∷ more → file_holders image ks ≡ k ∷ (places_in image k ++ file_holders image more)
  unfolding file_holders
  files_step k more here = rw here

  pub files_past : ks ≡ [] → file_holders image ks ≡ []
  unfolding file_holders
  files_past none = rw none

-- a file's places are those of its chain
pub places_ahead : (image chain descriptor : List ℕ) (k : ℕ) → descriptor ≡ sector_of image k → chain ≡ chain_of descriptor → places_in image k ≡ places chain
unfolding places_in
places_ahead image chain descriptor k ed ec = rw (ec, ed)

-- a sector alone is a run of one
pub run_alone : (k : ℕ) (rest : List ℕ) → k ∷ rest ≡ run k (0 + 1) ++ rest
run_alone k rest = rw (run_step k 0, run_none (k + 1))

-- A place with `more` of what is left of its block behind it is a run, and the iterator passes them.
module _ (left next : Places) (place more : ℕ) (step : places_left left ≡ place ∷ places_left next) (follows : next.place ≡ place + 1) (inside : more ≤ next.left) where
  stretched : places_left left ≡ run place (more + 1) ++ places_left (past next more)
  stretched =
      step ∙ ap (λ (ps : List ℕ). place ∷ ps) (in_block_past next.place next.left next.next next.blocks.chain.now more inside ∙ ap (λ (p : ℕ). run p more ++ places_left (past next more)) follows)
      ∙ sym (ap (λ (ps : List ℕ). ps ++ places_left (past next more)) (run_step place more))

  pub stretch_ahead : (rest : List ℕ) → places_left left ++ rest ≡ run place (more + 1) ++ (places_left (past next more) ++ rest)
  stretch_ahead rest = ap (λ (ps : List ℕ). ps ++ rest) stretched ∙ append_assoc (run place (more + 1)) (places_left (past next more)) rest

  pub stretch_less : length (places_left (past next more)) < length (places_left left)
  stretch_less =
      omega (arith, ap length stretched, length-append (run place (more + 1)) (places_left (past next more)), run_length place (more + 1))
