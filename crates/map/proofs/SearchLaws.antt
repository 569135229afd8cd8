-- The search for a free sector passes over those that are taken. The search for data goes on where it came to: what lies behind it is taken, and stays so when
-- more sectors are marked.
use mathlib.Core.Path.{◌≡◌, sym, ap, ◌∙◌}
use mathlib.Core.List.{List}
use Prim.Native.Nat.{ℕ, zero, suc, ◌+◌, ◌-◌, ◌*◌, ◌/◌, ◌%◌, ◌≤◌, ◌<◌}
use native.Mathlib.Omega.{arith}
use native.Mathlib.Nat.{mod-lt}
use native.Mathlib.Decide.{dec_lt, ℕ_discrete}
use lib.ListN.{length}
use Rattle.rules.specs.Bytes.{byte_at, bit_of}
use Rattle.rules.specs.Map.{map_bit, marked}
use Rattle.rules.specs.Choice.{lowest_free}
use Rattle.rules.proofs.Map.{by_eight}
use Rattle.rules.proofs.Marking.{marked_here, marked_other}
use Rattle.rules.proofs.Choice.{lowest_step, lowest_from, lowest_to, lowest_first}
use Rattle.map.specs.Search.{Searched}
use Rattle.map.specs.declared.choice.Search.{Search}

-- all sectors from `from` up to `to` are taken
abbrev pub Full : List ℕ → ℕ → ℕ → Type 0
Full sector0 from to = (i : ℕ) → from ≤ i → i < to → map_bit sector0 i ≡ 0 → ⊥

pub full_on : (sector0 : List ℕ) (from at to : ℕ) → Full sector0 from at → Full sector0 at to → Full sector0 from to
full_on sector0 from at to first second i low high =
    elim (dec_lt i at) [
      | yes before ↦ first i low before
      | no behind ↦ second i (omega arith) high
    ]

-- one sector, and those from it to the end of a full byte
pub full_sector : (sector0 : List ℕ) (k : ℕ) → map_bit sector0 k ≡ 1 → Full sector0 k (k + 1)
full_sector sector0 k one i low high free =
    let same : i ≡ k = omega arith in
    omega (arith, one, ap (map_bit sector0) same, free)

pub full_byte : (sector0 : List ℕ) (k : ℕ) → byte_at sector0 (56 + k / 8) ≡ 255 → Full sector0 k (8 * (k / 8) + 8)
unfolding map_bit
full_byte sector0 k full i low high =
    let same : i / 8 ≡ k / 8 = omega arith in
    rw (same, full)
    (by_eight (λ (j : ℕ). bit_of 255 j ≡ 0 → ⊥) (λ z. omega arith) (λ z. omega arith) (λ z. omega arith) (λ z. omega arith) (λ z. omega arith) (λ z. omega arith) (λ z. omega arith) (λ z. omega arith) (i % 8) (mod-lt i (omega arith)))

-- `past` taken sectors from k on are passed over
lowest_past : (sector0 : List ℕ) (past many k : ℕ) → Full sector0 k (k + past) → lowest_free sector0 (past + many) k ≡ lowest_free sector0 many (k + past)
lowest_past sector0 zero many k full =
    let e : 0 + many ≡ many = omega arith in
    let f : k + 0 ≡ k = omega arith in
    rw (e, f)
lowest_past sector0 (suc past) many k full =
    let e : suc past + many ≡ suc (past + many) = omega arith in
    let f : k + suc past ≡ k + 1 + past = omega arith in
    rw (e, f) (lowest_step sector0 (past + many) k (full k (omega arith) (omega arith)) ∙ lowest_past sector0 past many (k + 1) (λ i low high. full i (omega arith) (omega arith)))

-- from sector `from` up to `end`, all being taken up to `at`
pub lowest_on : (sector0 : List ℕ) (from at end : ℕ) → from ≤ at → at ≤ end → Full sector0 from at → lowest_free sector0 (end - at) at ≡ lowest_free sector0 (end - from) from
lowest_on sector0 from at end low high full =
    let e : end - from ≡ (at - from) + (end - at) = omega arith in
    let f : from + (at - from) ≡ at = omega arith in
    rw e (sym (rw f at (lowest_past sector0 (at - from) (end - at) from (λ i l h. full i l (omega (arith, f))))))

-- a sector taken meanwhile leaves what was passed
pub searched_marked : (sector0 : List ℕ) (search : Search) (k : ℕ) → length sector0 ≡ 256 → Searched sector0 search → Searched (marked 1 sector0 k) search
searched_marked sector0 search k long is =
    let kept : (i : ℕ) → i < 1600 → map_bit (marked 1 sector0 k) i ≡ 0 → map_bit sector0 i ≡ 0 = still in
    record {
      high = is.high;
      low = is.low;
      above = λ i l h free. is.above i l h (kept i (omega (arith, is.high)) free);
      below = λ i l h free. is.below i l h (kept i (omega (arith, is.low)) free);
    }
  where
    still : (i : ℕ) → i < 1600 → map_bit (marked 1 sector0 k) i ≡ 0 → map_bit sector0 i ≡ 0
    still i small free =
        elim (ℕ_discrete i k) [
          | yes same ↦ absurd (omega (arith, marked_here 1 (omega arith) sector0 k (omega (arith, same)) long, ap (map_bit (marked 1 sector0 k)) same, free))
          | no other ↦ sym (marked_other 1 (omega arith) sector0 k i other) ∙ free
        ]

-- a step of the search, from 34 up and from 2 up
module _ (sector0 : List ℕ) (search : Search) (is : Searched sector0 search) where
  pub high_is : lowest_free sector0 (1600 - search.high) search.high ≡ lowest_free sector0 1566 34
  high_is = lowest_on sector0 34 search.high 1600 is.high.0 is.high.1 is.above

  pub low_is : lowest_free sector0 (34 - search.low) search.low ≡ lowest_free sector0 32 2
  low_is = lowest_on sector0 2 search.low 34 is.low.0 is.low.1 is.below

  pub searched_high : (high sector : ℕ) → high ≡ lowest_free sector0 (1600 - search.high) search.high → Searched sector0 (record { sector = sector; high = high; low = search.low })
  searched_high high sector e =
      let found : high ≡ lowest_free sector0 1566 34 = e ∙ high_is in
      record {
        high = (omega (arith, lowest_from sector0 1566 34, found), omega (arith, lowest_to sector0 1566 34, found));
        low = is.low;
        above = λ k l h. lowest_first sector0 1566 34 k l (omega (arith, found));
        below = is.below;
      }

  pub searched_low : (low sector : ℕ) → low ≡ lowest_free sector0 (34 - search.low) search.low → Searched sector0 (record { sector = sector; high = search.high; low = low })
  searched_low low sector e =
      let found : low ≡ lowest_free sector0 32 2 = e ∙ low_is in
      record {
        high = is.high;
        low = (omega (arith, lowest_from sector0 32 2, found), omega (arith, lowest_to sector0 32 2, found));
        above = is.above;
        below = λ k l h. lowest_first sector0 32 2 k l (omega (arith, found));
      }
