-- On a sound volume the zero bits of the map are n less the holders.
use mathlib.Core.Path.{◌≡◌}
use mathlib.Core.Bool.{cond}
use mathlib.Core.List.{List, [], ◌∷◌}
use Prim.Native.Nat.{ℕ, zero, suc, ◌+◌, ◌-◌, ◌≤◌, ◌<◌}
use native.Mathlib.Omega.{arith}
use native.Mathlib.Decide.{dec_lt}
use lib.Dec.{eqb}
use lib.ListN.{length}
use borrow.Author.Tests.{eq-eqb, ne_eqb}
use Rattle.rules.specs.Sectors.{sector_of, sector_count}
use Rattle.rules.specs.Map.{map_bit, count, zero_bits, free_count}
use Rattle.rules.specs.Volume.{holders}
use Rattle.rules.specs.Sound.{Sound}
use Rattle.rules.specs.declared.Layout.{Layout}
use Rattle.rules.proofs.Map.{count_none, count_here, count_more}
use Rattle.rules.proofs.Indexes.{holders_inside}

-- how many holders stand in the sectors from k on, `many` of them
unfoldable counted : List ℕ → ℕ → ℕ → ℕ
counted hs zero k = 0
counted hs (suc many) k = count k hs + counted hs many (k + 1)

-- where each has one holder at most and the map marks it, the zero bits are the sectors that are left
pub one_or_none : (marks : ℕ) → marks ≤ 1 → cond (eqb marks 0) 1 0 + marks ≡ 1
one_or_none zero h = omega arith
one_or_none (suc zero) h = omega arith
one_or_none (suc (suc marks)) h = absurd (omega arith)

module _ (sector0 hs : List ℕ) (single : (k : ℕ) → count k hs ≤ 1) where
  zeros_below : (many k : ℕ) → ((j : ℕ) → k ≤ j → j < k + many → map_bit sector0 j ≡ count j hs) → zero_bits sector0 many k + counted hs many k ≡ many
  unfolding zero_bits counted
  zeros_below zero k marked = omega arith
  zeros_below (suc many) k marked =
      let here = marked k (omega arith) (omega arith) in
      let one = one_or_none (count k hs) (single k) in
      let more = zeros_below many (k + 1) (λ j low high. marked j (omega arith) (omega arith)) in
      rw here (omega (arith, one, more))

pub zeros_past : (sector0 : List ℕ) (many k : ℕ) → ((j : ℕ) → k ≤ j → j < k + many → map_bit sector0 j ≡ 1) → zero_bits sector0 many k ≡ 0
unfolding zero_bits
zeros_past sector0 zero k filled = omega arith
zeros_past sector0 (suc many) k filled =
    rw (filled k (omega arith) (omega arith)) (omega (arith, zeros_past sector0 many (k + 1) (λ j low high. filled j (omega arith) (omega arith))))

pub zeros_split : (sector0 : List ℕ) (first second k : ℕ) → zero_bits sector0 (first + second) k ≡ zero_bits sector0 first k + zero_bits sector0 second (k + first)
unfolding zero_bits
zeros_split sector0 zero second k =
    let same : 0 + second ≡ second = omega arith in
    let e : k + 0 ≡ k = omega arith in
    rw (e, same) (omega arith)
zeros_split sector0 (suc first) second k =
    let one : suc first + second ≡ suc (first + second) = omega arith in
    let e : k + 1 + first ≡ k + suc first = omega arith in
    let more = rw e at (zeros_split sector0 first second (k + 1)) in
    rw one (omega (arith, more))

-- a holder stands in one sector
unfoldable hits : ℕ → ℕ → ℕ → ℕ
hits h zero k = 0
hits h (suc many) k = cond (eqb h k) 1 0 + hits h many (k + 1)

hits_before : (h many k : ℕ) → h < k → hits h many k ≡ 0
unfolding hits
hits_before h zero k low = omega arith
hits_before h (suc many) k low = rw (ne_eqb h k (λ e. omega arith)) (omega (arith, hits_before h many (k + 1) (omega arith)))

hits_one : (h many k : ℕ) → k ≤ h → h < k + many → hits h many k ≡ 1
unfolding hits
hits_one h zero k low high = absurd (omega arith)
hits_one h (suc many) k low high =
    elim (dec_lt k h) [
      | yes later ↦ rw (ne_eqb h k (λ e. omega arith)) (omega (arith, hits_one h many (k + 1) (omega arith) (omega arith)))
      | no here ↦ rw (eq-eqb h k (omega arith)) (omega (arith, hits_before h many (k + 1) (omega arith)))
    ]

counted_one : (h : ℕ) (hs : List ℕ) (many k : ℕ) → counted (h ∷ hs) many k ≡ hits h many k + counted hs many k
unfolding count counted hits
counted_one h hs zero k = omega arith
counted_one h hs (suc many) k = omega (arith, counted_one h hs many (k + 1))

counted_none : (many k : ℕ) → counted [] many k ≡ 0
unfolding counted
counted_none zero k = omega arith
counted_none (suc many) k = omega (arith, count_none k, counted_none many (k + 1))

counted_all : (n : ℕ) (hs : List ℕ) → ((k : ℕ) → 1 ≤ count k hs → k < n) → counted hs n 0 ≡ length hs
counted_all n [] inside = counted_none n 0
counted_all n (h ∷ hs) inside =
    let low = inside h (omega (arith, count_here h hs)) in
    let more = counted_all n hs (λ k some. inside k (omega (arith, count_more k h hs))) in
    omega (arith, counted_one h hs n 0, hits_one h n 0 (omega arith) (omega (arith, low)), more)

pub free_holders : (layout : Layout) (image : List ℕ) → Sound layout image → free_count (sector_of image 0) + length (holders layout image) ≡ sector_count image
unfolding free_count
free_holders layout image is =
    let n = sector_count image in
    let below = zeros_below (sector_of image 0) (holders layout image) is.single n 0 (λ j low high. is.marked j (omega arith)) in
    let past = zeros_past (sector_of image 0) (1600 - n) (0 + n) (λ j low high. is.filled j (omega arith) (omega (arith, is.size))) in
    let all = counted_all n (holders layout image) (holders_inside layout image is) in
    let e : n + (1600 - n) ≡ 1600 = omega (arith, is.size) in
    let split = rw e at (zeros_split (sector_of image 0) n (1600 - n) 0) in
    omega (arith, below, past, all, split)
