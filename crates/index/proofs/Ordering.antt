-- The numbers of an index put in order one after another: those in front are in order, the others stand as they stood, and what is made of all of them is what is made of those with the others put in.
use mathlib.Core.Path.{◌≡◌, refl, sym, ap, ◌∙◌}
use mathlib.Core.Bool.{Bool, true, false, cond, ◌||◌}
use mathlib.Core.List.{List, [], ◌∷◌, ◌++◌}
use Prim.Native.Nat.{ℕ, zero, suc, ◌+◌, ◌*◌, ◌≤◌, ◌<◌}
use native.Mathlib.Omega.{arith}
use lib.ListN.{length, take, drop, get_or, replicate, length-drop, take-append-drop}
use lib.Seq.{take_at, drop_at, drop-drop}
use Rattle.rules.specs.Bytes.{byte_at, same}
use Rattle.rules.specs.Sectors.{sector_of, sector_count}
use Rattle.rules.specs.Name.{precedes}
use Rattle.rules.specs.Descriptor.{name_of}
use Rattle.rules.specs.Index.{numbers, numbers_bytes, index_of, IsIndex}
use Rattle.rules.specs.Volume.{name_in, placed}
use Rattle.rules.specs.Calls.Repair.{named_in, distinct_rule, ordered_onto, ordered}
use Rattle.rules.proofs.Bytes.{part_length, at_replicate}
use Rattle.rules.proofs.Sectors.{sector_length}
use Rattle.rules.proofs.Map.{count_at}
use Rattle.rules.proofs.Indexed.{placed-length, placed_all, placed_ascending, laid_index, numbers_bytes-length}
use Rattle.rules.proofs.Formatted.{laid_front}
use Rattle.rules.proofs.Repair.{named_none}
use Rattle.index.specs.Front.{InFront}

-- a name of a file that lies in the image
name_ten : (image : List ℕ) (k : ℕ) → length image ≡ 256 * sector_count image → k < sector_count image → length (name_in image k) ≡ 10
unfolding name_in name_of
name_ten image k whole low = let long = sector_length image k (omega (arith, whole, low)) in part_length (sector_of image k) 0 10 (omega (arith, long))

-- zeros from a byte on; and an index whose numbers they follow
zeros_behind : (bytes : List ℕ) (from : ℕ) → ((i : ℕ) → from ≤ i → byte_at bytes i ≡ 0) → drop from bytes ≡ drop from (replicate (length bytes) 0)
zeros_behind bytes zero none = at_replicate 0 bytes (λ i h. none i (omega arith))
zeros_behind [] (suc from) none = refl
zeros_behind (b ∷ bytes) (suc from) none = zeros_behind bytes from (λ i h. none (suc i) (omega arith))

index_front : (ks : List ℕ) → length ks ≤ 128 → (at : ℕ) → at ≡ 2 * length ks → numbers_bytes ks ++ drop at (replicate 256 0) ≡ index_of ks
index_front ks few at e =
    let zeros : List ℕ = replicate 256 0 in
    let size : at ≡ length (numbers_bytes ks) = omega (arith, numbers_bytes-length ks, e) in
    let fits : length (numbers_bytes ks) ≤ length zeros = omega (arith, numbers_bytes-length ks, few) in
    ap (λ (n : ℕ). numbers_bytes ks ++ drop n zeros) size ∙ sym (laid_front zeros (numbers_bytes ks) fits) ∙ laid_index ks

-- whether a name is among numbers, one of which was put in; and that all that the rule asks of the earlier ones is their names
module _ (image : List ℕ) where
  placed_named : (other name : List ℕ) (k : ℕ) (ks : List ℕ) → named_in image other (placed image name k ks) ≡ named_in image other (k ∷ ks)
  unfolding placed named_in
  placed_named other name k [] = refl
  placed_named other name k (j ∷ js) = go (precedes name (name_in image j)) (placed_named other name k js)
    where
      swap : (a b c : Bool) → (a || (b || c)) ≡ (b || (a || c))
      swap true true c = refl
      swap true false c = refl
      swap false b c = refl

      go : (t : Bool) → named_in image other (placed image name k js) ≡ named_in image other (k ∷ js)
          → named_in image other (cond t (k ∷ (j ∷ js)) (j ∷ placed image name k js)) ≡ named_in image other (k ∷ (j ∷ js))
      go true e = refl
      go false e = rw e (swap (same other (name_in image j)) (same other (name_in image k)) (named_in image other js))

  distinct_same : (first second ks : List ℕ) → ((name : List ℕ) → named_in image name first ≡ named_in image name second) → distinct_rule image first ks ≡ distinct_rule image second ks
  unfolding distinct_rule named_in
  distinct_same first second [] alike = refl
  distinct_same first second (k ∷ ks) alike =
      rw (alike (name_in image k), distinct_same (k ∷ first) (k ∷ second) ks (λ name. ap (λ (t : Bool). same name (name_in image k) || t) (alike name)))

  distinct_next : (earlier : List ℕ) (k : ℕ) (ks : List ℕ) → named_in image (name_in image k) earlier ≡ false → distinct_rule image earlier (k ∷ ks) ≡ distinct_rule image (k ∷ earlier) ks
  unfolding distinct_rule
  distinct_next earlier k ks other = rw other

-- The first `at` bytes are done.
pub record Ordering (image index₀ : List ℕ) (at : ℕ) (index : List ℕ) : Type 0 where
  pub front : List ℕ
  pub ordered-front : InFront image index at front
  pub behind : drop at index ≡ drop at index₀
  pub range : (p : ℕ) → p < length (numbers (drop at index₀)) → get_or (numbers (drop at index₀)) p 0 < sector_count image
  pub many : length front + length (numbers (drop at index₀)) ≡ length (numbers index₀)
  pub whole : ordered_onto image front (numbers (drop at index₀)) ≡ ordered image (numbers index₀)
  pub distinct : distinct_rule image front (numbers (drop at index₀)) ≡ distinct_rule image [] (numbers index₀)

pub nothing_ordered : (image index₀ : List ℕ) → IsIndex (sector_count image) index₀ → Ordering image index₀ 0 index₀
unfolding numbers_bytes ordered
nothing_ordered image index₀ is =
    record {
      front = [];
      ordered-front = record { many = refl; stand = refl; ascending = λ p q h l. absurd (omega arith); ten = λ p h. absurd (omega arith) };
      behind = refl;
      range = λ p h. (is.range p h).1;
      many = omega arith;
      whole = refl;
      distinct = refl;
    }

module _ (image index₀ : List ℕ) (at : ℕ) (index : List ℕ) (so_far : Ordering image index₀ at index) where
  -- no number is left
  pub all_distinct : numbers (drop at index) ≡ [] → distinct_rule image [] (numbers index₀) ≡ true
  unfolding distinct_rule
  all_distinct none = sym so_far.distinct ∙ ap (λ (l : List ℕ). distinct_rule image so_far.front (numbers l)) (sym so_far.behind) ∙ rw none

  pub all_ordered : length index ≡ 256 → IsIndex (sector_count image) index₀ → numbers (drop at index) ≡ [] → index ≡ index_of (ordered image (numbers index₀))
  unfolding ordered_onto
  all_ordered sector is none =
      let f = so_far.ordered-front in
      let ks = so_far.front in
      let left : numbers (drop at index₀) ≡ [] = ap numbers (sym so_far.behind) ∙ none in
      let all : ks ≡ ordered image (numbers index₀) = rw left at so_far.whole in
      let each : length ks ≡ length (numbers index₀) = let m = rw left at so_far.many in omega (arith, m) in
      let few = is.few in
      let long : length index₀ ≡ 256 = omega (arith, ap length so_far.behind, length-drop at index, length-drop at index₀, sector, each, few, f.many) in
      let zeros = zeros_behind index₀ at (λ i h. is.rest i (omega (arith, h, each, f.many))) in
      sym (take-append-drop at index)
      ∙ rw (f.stand, so_far.behind, zeros, long) (index_front ks (omega (arith, each, few)) at f.many ∙ ap index_of all)

  -- k is the next
  module _ (k : ℕ) (next : numbers (drop at index) ≡ k ∷ numbers (drop (at + 2) index)) where
    kept : drop (at + 2) index ≡ drop (at + 2) index₀
    kept = sym (drop-drop 2 at index) ∙ ap (drop 2) so_far.behind ∙ drop-drop 2 at index₀

    left : numbers (drop at index₀) ≡ k ∷ numbers (drop (at + 2) index₀)
    left = ap numbers (sym so_far.behind) ∙ next ∙ ap (λ (l : List ℕ). k ∷ numbers l) kept

    pub next_ten : length image ≡ 256 * sector_count image → length (name_in image k) ≡ 10
    next_ten whole = name_ten image k whole (let low = rw left at so_far.range in low 0 (omega arith))

    rule : distinct_rule image so_far.front (k ∷ numbers (drop (at + 2) index₀)) ≡ distinct_rule image [] (numbers index₀)
    rule = ap (distinct_rule image so_far.front) (sym left) ∙ so_far.distinct

    pub not_distinct : named_in image (name_in image k) so_far.front ≡ true → distinct_rule image [] (numbers index₀) ≡ false
    unfolding distinct_rule
    not_distinct found = sym rule ∙ rw found

    pub one_ordered : (after : List ℕ) → length image ≡ 256 * sector_count image → named_in image (name_in image k) so_far.front ≡ false
        → after ≡ numbers_bytes (placed image (name_in image k) k so_far.front) ++ drop (at + 2) index → Ordering image index₀ (at + 2) after
    unfolding ordered_onto
    one_ordered after whole other e =
        let f = so_far.ordered-front in
        let ks = placed image (name_in image k) k so_far.front in
        let ten = next_ten whole in
        let more = placed-length k image (name_in image k) so_far.front in
        let size : length (numbers_bytes ks) ≡ at + 2 = omega (arith, numbers_bytes-length ks, f.many, more) in
        record {
          front = ks;
          ordered-front = record {
            many = omega (arith, f.many, more);
            stand = ap (take (at + 2)) e ∙ take_at (numbers_bytes ks) (drop (at + 2) index) (at + 2) size;
            ascending =
                placed_ascending image image (name_in image k) k refl so_far.front f.ascending (λ p h. f.ten p h ∙ sym ten)
                (λ p h same. named_none image (name_in image k) so_far.front other (get_or so_far.front p 0) (count_at so_far.front p h) (sym same)) (λ j h. refl);
            ten = placed_all (λ (i : ℕ). length (name_in image i) ≡ 10) k image (name_in image k) so_far.front ten f.ten;
          };
          behind = ap (drop (at + 2)) e ∙ drop_at (numbers_bytes ks) (drop (at + 2) index) (at + 2) size ∙ kept;
          range = λ p h. let low = rw left at so_far.range in low (suc p) (omega arith);
          many = let m = rw left at so_far.many in omega (arith, m, more);
          whole = let w = rw left at so_far.whole in w;
          distinct =
              distinct_same image ks (k ∷ so_far.front) (numbers (drop (at + 2) index₀)) (λ name. placed_named image name (name_in image k) k so_far.front)
              ∙ sym (distinct_next image so_far.front k (numbers (drop (at + 2) index₀)) other)
              ∙ rule;
        }
