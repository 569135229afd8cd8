-- A place entered under a sum. Chains lead down, so those that begin below the new place do not meet it; the new one begins with it and goes on as the bucket's chain did before.
use mathlib.Core.Path.{◌≡◌, refl, sym, ap, ◌∙◌}
use mathlib.Core.Bool.{true, false, true≢false}
use mathlib.Core.List.{List, ◌∷◌}
use Prim.Native.Nat.{ℕ, zero, suc, ◌+◌, ◌%◌, ◌<◌}
use native.Mathlib.Omega.{arith}
use native.Mathlib.Nat.{mod-lt}
use native.Mathlib.Decide.{ℕ_discrete}
use lib.ListN.{length, get_or, set, length-set}
use lib.Seq.{get_or-set_same, get_or-set_other}
use borrow.Author.Tests.{lt-ltb}
use Rattle.sums.specs.Table.{link_of, chain, under, fits, Table, Entered}
use Rattle.sums.proofs.ChainSteps.{link_down, link_falls, chain_here, chain_on, walk_on}

-- what is kept of the place: its link and its sum
module _ (place link sum : ℕ) (earlier sums : List ℕ) where
  abbrev earlier' : List ℕ
  earlier' = set earlier place link

  abbrev sums' : List ℕ
  sums' = set sums place sum

  -- chains from below
  link_same : (p : ℕ) → p < place → link_of earlier' p ≡ link_of earlier p
  unfolding link_of
  link_same p h = rw (get_or-set_other earlier place p link 0 (λ e. omega arith))

  chain_same : (other steps p : ℕ) → p < place → chain other earlier' sums' steps p ≡ chain other earlier sums steps p
  unfolding chain
  chain_same other zero p h = refl
  chain_same other (suc steps) zero h = refl
  chain_same other (suc steps) (suc p) h =
      let falls = link_falls earlier p in
      rw (get_or-set_other sums place (suc p) sum 0 (λ e. omega arith), link_same (suc p) h, chain_same other steps (link_of earlier (suc p)) (omega arith))

  -- the chain that begins with the place
  module _ (some : 0 < place) (in-earlier : place < length earlier) (in-sums : place < length sums) (low : link < place) where
    link_is : link_of earlier' place ≡ link
    link_is =
        let is : get_or earlier' place 0 ≡ link = get_or-set_same earlier place link 0 in-earlier in
        link_down earlier' place (omega arith) ∙ is

    chain_own : chain sum earlier' sums' place place ≡ place ∷ chain sum earlier sums link link
    chain_own =
        chain_here sum earlier' sums' place some (get_or-set_same sums place sum 0 in-sums)
        ∙ walk_on sum earlier' sums' place some
        ∙ rw link_is (ap (λ (l : List ℕ). place ∷ l) (chain_same sum link link low))

    chain_other : (other : ℕ) → (other ≡ sum → ⊥) → chain other earlier' sums' place place ≡ chain other earlier sums link link
    chain_other other e =
        let is : get_or sums' place 0 ≡ sum = get_or-set_same sums place sum 0 in-sums in
        chain_on other earlier' sums' place some (λ q. e (sym q ∙ is)) ∙ rw link_is (chain_same other link link low)

-- the table with the place entered in the bucket of its sum
module _ (place sum : ℕ) (last earlier sums : List ℕ) (table : Table last place) where
  abbrev bucket : ℕ
  bucket = sum % length last

  abbrev top : ℕ
  top = get_or last bucket 0

  abbrev last' : List ℕ
  last' = set last bucket place

  abbrev after : ℕ → List ℕ
  after other = under other last' (set earlier place top) (set sums place sum)

  some : 0 < place
  some = omega (arith, table.below 0)

  module _ (in-earlier : place < length earlier) (in-sums : place < length sums) (buckets : 0 < length last) where
    top_is : get_or last' bucket 0 ≡ place
    top_is = get_or-set_same last bucket place 0 (mod-lt sum buckets)

    under_own : after sum ≡ place ∷ under sum last earlier sums
    unfolding under
    under_own = rw (length-set last bucket place, top_is) (chain_own place top sum earlier sums some in-earlier in-sums (table.below bucket))

    under_other : (other : ℕ) → (other ≡ sum → ⊥) → after other ≡ under other last earlier sums
    unfolding under
    under_other other e =
        elim (ℕ_discrete (other % length last) bucket) [
          | yes h ↦ rw (length-set last bucket place, h, top_is) (chain_other place top sum earlier sums some in-earlier in-sums (table.below bucket) other e)
          | no h ↦
              rw (length-set last bucket place, get_or-set_other last bucket (other % length last) place 0 h)
              (chain_same place top sum earlier sums other _ (get_or last (other % length last) 0) (table.below (other % length last)))
        ]

    table_after : Table last' (place + 1)
    table_after =
        record {
          below = λ b. elim (ℕ_discrete b bucket) [
            | yes h ↦ rw (h, top_is) (omega arith)
            | no h ↦ rw (get_or-set_other last bucket b place 0 h) (omega (arith, table.below b))
          ];
        }

    entered_in_bucket : fits place last earlier sums ≡ true → Entered place sum true last earlier sums last' (set earlier place top) (set sums place sum)
    entered_in_bucket room = record { said = sym room; own = λ e. under_own; others = under_other; refused = λ e. absurd (true≢false e); table = table_after }

  pub entered : {bucket' kept : ℕ} → bucket' ≡ bucket → kept ≡ place → place < length earlier → place < length sums → 0 < length last → place < 4294967296
      → Entered place sum true last earlier sums (set last bucket' kept) (set earlier place (get_or last bucket' 0)) (set sums place sum)
  unfolding fits
  entered is kept_is in-earlier in-sums buckets narrow =
      rw (is, kept_is) (entered_in_bucket in-earlier in-sums buckets (rw (lt-ltb _ _ in-earlier, lt-ltb _ _ in-sums, lt-ltb _ _ buckets, lt-ltb place 4294967296 narrow)))

  pub not_entered : fits place last earlier sums ≡ false → Entered place sum false last earlier sums last earlier sums
  not_entered room =
      record {
        said = sym room;
        own = λ e. absurd (true≢false (sym e));
        others = λ other e. refl;
        refused = λ e. (refl, refl, refl);
        table = record { below = λ b. omega (arith, table.below b) };
      }
