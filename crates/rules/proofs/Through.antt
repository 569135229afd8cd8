-- Writes as a host makes them, from the image that a call leaves: the order of a call's writes and that image are the writes; and what the medium holds when some of its sectors have been written through.
use mathlib.Core.Path.{◌≡◌, refl, ap, ◌∙◌}
use mathlib.Core.List.{List, [], ◌∷◌, ◌++◌}
use Prim.Native.Nat.{ℕ, ◌*◌, ◌≤◌, ◌<◌}
use native.Mathlib.Omega.{arith}
use native.Mathlib.Decide.{dec_lt, ℕ_discrete}
use lib.ListN.{length, drop}
use Rattle.rules.specs.Bytes.{splice}
use Rattle.rules.specs.Sectors.{sector_of, sector_count, Write, sectors_in, through, written, Whole}
use Rattle.rules.specs.Map.{count}
use Rattle.rules.specs.Calls.Store.{data_writes}
use Rattle.rules.proofs.Splice.{splice-length, splice_past}
use Rattle.rules.proofs.Sectors.{sector_length}
use Rattle.rules.proofs.Map.{count_none, count_here, count_other, count_more, count_apart}
use Rattle.rules.proofs.Written.{sector_same, sector_other, Apart, written_apart}

-- a sector that no write names
pub none_named : (j : ℕ) (writes : List Write) → count j (sectors_in writes) ≡ 0 → Apart j writes
unfolding sectors_in Apart
none_named j [] none = tt
none_named j (write ∷ writes) none = let parts = count_apart j write.sector (sectors_in writes) none in (parts.0, none_named j writes parts.1)

-- the data of a program, and what is written behind it
pub data_order : (bytes ks : List ℕ) (behind : List Write) → sectors_in (data_writes bytes ks ++ behind) ≡ ks ++ sectors_in behind
unfolding sectors_in data_writes
data_order bytes [] behind = refl
data_order bytes (k ∷ ks) behind = ap (λ (l : List ℕ). k ∷ l) (data_order (drop 256 bytes) ks behind)

-- whole sectors, each named once: those of the image afterwards are the writes' bytes
pub through_writes : (image : List ℕ) (writes : List Write) → Whole (length image) writes → ((k : ℕ) → count k (sectors_in writes) ≤ 1) → through (written image writes) (sectors_in writes) ≡ writes
unfolding through sectors_in written Whole
through_writes image [] whole once = refl
through_writes image (write ∷ writes) whole once =
    let k = write.sector in
    let now = splice image (256 * k) write.bytes in
    let rest : Whole (length now) writes = rw (splice-length image (256 * k) write.bytes) whole.2 in
    let here : sector_of (written now writes) k ≡ write.bytes =
    written_apart now writes k rest (none_named k writes (omega (arith, once k, count_here k (sectors_in writes)))) ∙ sector_same image k write.bytes whole.0 whole.1
    in
    rw (here, through_writes now writes rest (λ j. omega (arith, once j, count_more j k (sectors_in writes))))

-- the medium, which held a volume: some sectors of another image of that size are written through
module _ (image after : List ℕ) (whole : length image ≡ 256 * sector_count image) (size : length after ≡ length image) where
  -- one sector of it, in the volume or past its end
  abbrev put : List ℕ → ℕ → List ℕ
  put medium k = splice medium (256 * k) (sector_of after k)

  put_other : (medium : List ℕ) → length medium ≡ length image → (k j : ℕ) → (j ≡ k → ⊥) → sector_of (put medium k) j ≡ sector_of medium j
  put_other medium same k j other =
      elim (dec_lt k (sector_count image)) [
        | yes inside ↦ sector_other medium k (sector_of after k) (sector_length after k (omega (arith, inside, size, whole))) j other
        | no past ↦ ap (λ (l : List ℕ). sector_of l j) (splice_past medium (256 * k) (sector_of after k) (omega (arith, past, same, whole)))
      ]

  put_here : (medium : List ℕ) → length medium ≡ length image → (k : ℕ) → k < sector_count image → sector_of (put medium k) k ≡ sector_of after k
  put_here medium same k inside = sector_same medium k (sector_of after k) (sector_length after k (omega (arith, inside, size, whole))) (omega (arith, inside, same, whole))

  none_through : (medium : List ℕ) → length medium ≡ length image → (ks : List ℕ) (j : ℕ) → count j ks ≡ 0 → sector_of (written medium (through after ks)) j ≡ sector_of medium j
  unfolding through written
  none_through medium same [] j none = refl
  none_through medium same (k ∷ ks) j none =
      let parts = count_apart j k ks none in
      none_through (put medium k) (splice-length medium (256 * k) (sector_of after k) ∙ same) ks j parts.1 ∙ put_other medium same k j parts.0

  some_through : (medium : List ℕ) → length medium ≡ length image → (ks : List ℕ) (j : ℕ) → j < sector_count image → 1 ≤ count j ks → sector_of (written medium (through after ks)) j ≡ sector_of after j
  unfolding through written
  some_through medium same [] j inside some = absurd (omega (arith, some, count_none j))
  some_through medium same (k ∷ ks) j inside some =
      let same' = splice-length medium (256 * k) (sector_of after k) ∙ same in
      elim (dec_lt 0 (count j ks)) [
        | yes later ↦ some_through (put medium k) same' ks j inside later
        | no last ↦
            elim (ℕ_discrete k j) [
              | yes here ↦ none_through (put medium k) same' ks j (omega arith) ∙ rw here (put_here medium same j inside)
              | no other ↦ absurd (omega (arith, some, last, count_other j k ks other))
            ]
      ]

  -- a sector of the volume that was written, and one that was not
  pub sector_through : (ks : List ℕ) (j : ℕ) → j < sector_count image → 1 ≤ count j ks → sector_of (written image (through after ks)) j ≡ sector_of after j
  sector_through = some_through image refl

  pub sector_stood : (ks : List ℕ) (j : ℕ) → count j ks ≡ 0 → sector_of (written image (through after ks)) j ≡ sector_of image j
  sector_stood = none_through image refl
