-- The map made a byte at a time, from the front: at the start, a byte further, and whole.
use mathlib.Core.Path.{◌≡◌, refl, sym, ap, ◌∙◌}
use mathlib.Core.List.{List}
use Prim.Native.Nat.{ℕ, ◌+◌, ◌*◌, ◌≤◌, ◌<◌}
use native.Mathlib.Omega.{arith}
use native.Mathlib.Numerals.{add-one}
use lib.ListN.{length, take, set, length-set}
use lib.Seq.{take_all, take-suc, take-suc-set}
use Rattle.rules.specs.Map.{taken, byte_of, map_of}
use Rattle.rules.proofs.Map.{bytes_at}
use Rattle.rules.proofs.Formatted.{map_length}

-- the first i bytes are those of the map in which these sectors are held
pub record MapMade (n : ℕ) (holders map : List ℕ) (i : ℕ) : Type 0 where
  pub size : length map ≡ 200
  pub inside : i ≤ 200
  pub front : take i map ≡ take i (map_of n holders)

pub made_none : (n : ℕ) (holders : List ℕ) {map : List ℕ} → length map ≡ 200 → MapMade n holders map 0
made_none n holders long = record { size = long; inside = omega arith; front = refl }

pub made_byte : {n : ℕ} {holders map : List ℕ} {i byte : ℕ} → MapMade n holders map i → i < 200 → byte ≡ byte_of (taken n holders) (8 * i) → MapMade n holders (set map i byte) (i + 1)
unfolding map_of
made_byte {n} {holders} {map} {i} {byte} made here is =
    let inside : i < length map = omega (arith, made.size) in
    let beside : i < length (map_of n holders) = omega (arith, map_length n holders) in
    let next = is ∙ sym (bytes_at (taken n holders) 200 0 i here ∙ ap (byte_of (taken n holders)) (omega arith)) in
    record {
      size = simp length-set made.size;
      inside = omega arith;
      front = rw (add-one, take-suc-set map i byte inside, take-suc (map_of n holders) i 0 beside, made.front, next);
    }

pub map_made : {n : ℕ} {holders map : List ℕ} {i : ℕ} → MapMade n holders map i → 200 ≤ i → map ≡ map_of n holders
map_made {n} {holders} {map} {i} made whole =
    sym (take_all i map (omega (arith, made.size))) ∙ made.front ∙ take_all i (map_of n holders) (omega (arith, map_length n holders))
