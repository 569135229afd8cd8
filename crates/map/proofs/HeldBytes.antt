-- The bytes of a map: 255 shifted up has the bits past an end, and the sectors below `used` are those that are not past it. A byte in which neither `used`
-- nor the end lies has eight bits alike.
use mathlib.Core.Path.{◌≡◌, refl, sym, ◌∙◌}
use mathlib.Core.Bool.{Bool, true, cond, ◌&&◌}
use mathlib.Core.List.{[]}
use Prim.Native.Nat.{ℕ, zero, suc, ◌+◌, ◌*◌, ◌^◌, ◌%◌, ◌≤◌, ◌<◌}
use native.Mathlib.Omega.{arith}
use native.Mathlib.Nat.{mod-lt}
use native.Mathlib.Decide.{dec_lt, ℕ_discrete}
use lib.Dec.{eqb, ltb}
use borrow.Author.Tests.{eqb-true, lt-ltb, le-ltb}
use Rattle.rules.specs.Bytes.{bit_of}
use Rattle.rules.specs.Map.{count, taken, byte_of}
use Rattle.rules.specs.Chain.{run}
use Rattle.rules.proofs.Tests.{both}
use Rattle.rules.proofs.Map.{count_none, taken_below, taken_past, byte_of_bits}
use Rattle.rules.proofs.Chain.{run_holds, run_counts, run_once}

-- a test of every number below m, and what it says of one
every : (ℕ → Bool) → ℕ → Bool
every test zero = true
every test (suc m) = test m && every test m

every_at : (test : ℕ → Bool) (m : ℕ) → every test m ≡ true → (i : ℕ) → i < m → test i ≡ true
unfolding every
every_at test zero e i h = absurd (omega arith)
every_at test (suc m) e i h =
    let parts = both (test m) (every test m) e in
    elim (ℕ_discrete i m) [
      | yes here ↦ rw here parts.0
      | no there ↦ every_at test m parts.1 i (omega (arith, there))
    ]

-- 255 shifted up by m: the bits from m on are one; computed for all m and j
shifted : ℕ → ℕ → Bool
shifted m j = eqb (bit_of (255 * 2 ^ m % 256) j) (cond (ltb j m) 0 1)

shifted_bit : (m j : ℕ) → m < 9 → j < 8 → bit_of (255 * 2 ^ m % 256) j ≡ cond (ltb j m) 0 1
unfolding every shifted
shifted_bit m j h k = eqb-true _ _ (every_at (shifted m) 8 (every_at (λ (i : ℕ). every (shifted i) 8) 9 refl m h) j k)

-- the byte from sector k on of a volume of n sectors, of which the first m of the eight are below the end
pub past_byte : (n k m : ℕ) → m ≤ 8 → ((j : ℕ) → j < m → k + j < n) → ((j : ℕ) → j < 8 → m ≤ j → n ≤ k + j) → 255 * 2 ^ m % 256 ≡ byte_of (taken n []) k
past_byte n k m few below past =
    byte_of_bits (taken n []) (255 * 2 ^ m % 256) k (mod-lt (255 * 2 ^ m) (omega arith)) (λ j h. shifted_bit m j (omega arith) h ∙ sym (bit j h))
  where
    bit : (j : ℕ) → j < 8 → taken n [] (k + j) ≡ cond (ltb j m) 0 1
    bit j h =
        elim (dec_lt j m) [
          | yes l ↦ rw (taken_below n [] (k + j) (below j l), count_none (k + j), lt-ltb j m l)
          | no l ↦ rw (taken_past n [] (k + j) (past j h (omega arith)), le-ltb j m (omega arith))
        ]

-- all eight past the end, or none
pub all_past : (n k : ℕ) → n ≤ k → 255 ≡ byte_of (taken n []) k
all_past n k h = past_byte n k 0 (omega arith) (λ j l. absurd (omega arith)) (λ j l m. omega arith)

pub none_past : (n k : ℕ) → k + 8 ≤ n → 0 ≡ byte_of (taken n []) k
none_past n k h = past_byte n k 8 (omega arith) (λ j l. omega arith) (λ j l m. absurd (omega arith))

-- a run counts each of its sectors once and no other
run_outside : (k s many : ℕ) → (s ≤ k → s + many ≤ k) → count k (run s many) ≡ 0
run_outside k s many out =
    elim (dec_lt 0 (count k (run s many))) [
      | yes some ↦ let in-run = run_holds k s many some in absurd (omega (arith, out in-run.0, in-run.1))
      | no none ↦ omega arith
    ]

run_inside : (k s many : ℕ) → s ≤ k → k < s + many → count k (run s many) ≡ 1
run_inside k s many low high = omega (arith, run_counts k s many low high, run_once k s many)

-- a sector is held exactly if it is below `used`; none is, where it is not past the end
beside_past : (n used : ℕ) → used ≤ n → (k : ℕ) → (taken n (run 0 used) k + taken used [] k ≡ 1 + taken n [] k) × (taken n (run 0 used) k ≤ 1)
beside_past n used few k =
    elim (dec_lt k n) [
      | yes below ↦
          let free = taken_below n [] k below in
          let here = taken_below n (run 0 used) k below in
          elim (dec_lt k used) [
            | yes held ↦
                let h = run_inside k 0 used (omega arith) (omega arith) in
                let u = taken_below used [] k held in
                (omega (arith, count_none k), omega arith)
            | no other ↦
                let h = run_outside k 0 used (λ l. omega arith) in
                let u = taken_past used [] k (omega arith) in
                (omega (arith, count_none k), omega arith)
          ]
      | no past ↦ (omega (arith, taken_past n (run 0 used) k (omega arith), taken_past used [] k (omega arith), taken_past n [] k (omega arith)), omega (arith, taken_past n (run 0 used) k (omega arith)))
    ]

-- so a byte of the map with that past `used` is one with that past the end and all eight bits
pub byte_beside : (n used k : ℕ) → used ≤ n → (byte_of (taken n (run 0 used)) k + byte_of (taken used []) k ≡ 255 + byte_of (taken n []) k) × (byte_of (taken n (run 0 used)) k ≤ 255)
unfolding byte_of
byte_beside n used k few =
    let bit = beside_past n used few in (
      omega (arith, (bit k).0, (bit (k + 1)).0, (bit (k + 2)).0, (bit (k + 3)).0, (bit (k + 4)).0, (bit (k + 5)).0, (bit (k + 6)).0, (bit (k + 7)).0),
      omega (arith, (bit k).1, (bit (k + 1)).1, (bit (k + 2)).1, (bit (k + 3)).1, (bit (k + 4)).1, (bit (k + 5)).1, (bit (k + 6)).1, (bit (k + 7)).1),
    )

-- a byte with all eight below `used`, with all from there to the end, and with all past the end
module _ (n used k : ℕ) (few : used ≤ n) where
  pub byte_held : k + 8 ≤ used → 255 ≡ byte_of (taken n (run 0 used)) k
  byte_held below = omega (arith, (byte_beside n used k few).0, none_past used k below, none_past n k (omega arith))

  pub byte_free : used ≤ k → k + 8 ≤ n → 0 ≡ byte_of (taken n (run 0 used)) k
  byte_free from below = omega (arith, (byte_beside n used k few).0, all_past used k from, none_past n k below)

  pub byte_past : n ≤ k → 255 ≡ byte_of (taken n (run 0 used)) k
  byte_past past = omega (arith, (byte_beside n used k few).0, all_past used k (omega arith), all_past n k past)
