-- `formatting::format::new_label` meets its contract: the name and the ten bytes behind it are laid over zeros, one behind the other. Assumes nothing.
use mathlib.Core.Path.{◌≡◌, refl, ◌∙◌}
use mathlib.Core.List.{List, [], ◌∷◌, ◌++◌, append_assoc}
use Prim.Native.Nat.{ℕ, ◌/◌, ◌%◌, ◌≤◌}
use native.Mathlib.Omega.{arith}
use lib.ListN.{length, get_or, drop, replicate, length-append}
use Rattle.rules.specs.Bytes.{splice}
use Rattle.rules.specs.Calls.Format.{Geometry, new_label}
use Rattle.rules.proofs.Formatted.{laid_front, laid_next}
use Rattle.formatting.specs.Geometry.{geometry_of}
use Rattle.formatting.proofs.format.new_label.Goals as goal

-- what the two calls leave in a label of zeros
laid : (name behind : List ℕ) → length name ≡ 10 → length behind ≡ 10
    → splice (splice (replicate 56 0) 0 name) 10 behind ≡ name ++ (behind ++ replicate 36 0)
laid name behind ten ten' =
    let long : length (name ++ behind) ≡ 20 = length-append name behind ∙ omega arith in
    laid_next (replicate 56 0) name behind 10 ten
    ∙ laid_front (replicate 56 0) (name ++ behind) (omega (arith, long))
    ∙ rw (long, append_assoc name behind (drop 20 (replicate 56 0)))

-- the two bytes of n, taken from an array of both
labelled : (n : ℕ) (name word : List ℕ) (g : Geometry) → n ≤ 1600 → length name ≡ 10 → word ≡ (n / 256 % 256) ∷ ((n % 256) ∷ [])
    → splice (splice (replicate 56 0) 0 name) 10 (get_or word 0 0 ∷ (get_or word 1 0 ∷ (g.sectors_per_track ∷ (68 ∷ (83 ∷ (75 ∷ (32 ∷ (g.tracks ∷ (g.sides ∷ (g.density ∷ [])))))))))) ≡ new_label n name g
unfolding new_label
labelled n name word g few ten word_is =
    let high : n / 256 % 256 ≡ n / 256 = omega arith in
    laid name _ ten refl ∙ rw (word_is, high) refl

pub returns : goal.returns
returns c =
    let first = c.lay.ensures in
    rw first at c.lay-2.ensures ∙ labelled c.args.n c.args.name.now c.to_be_bytes.result (geometry_of c.args.geometry) c.requires.0 c.requires.1 c.to_be_bytes.ensures
