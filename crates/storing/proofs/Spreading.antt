-- Sectors for data taken one after another: what stands in the map and in the chain on the way, a sector more, and the two ways out.
use mathlib.Core.Path.{◌≡◌, refl, sym, ap, ◌∙◌}
use mathlib.Core.Bool.{true, false}
use mathlib.Core.List.{List, [], ◌∷◌}
use Prim.Native.Nat.{ℕ, suc, ◌+◌, ◌-◌, ◌≤◌, ◌<◌}
use native.Mathlib.Omega.{arith}
use lib.ListN.{length, replicate}
use borrow.Author.Tests.{le-leb, lt-leb}
use Rattle.rules.specs.Bytes.{byte_at}
use Rattle.rules.specs.Map.{marked, marked_all}
use Rattle.rules.specs.Chain.{blocks, extended, extended_all, places_from, places, Linked}
use Rattle.rules.specs.Choice.{data_choice, data_choices}
use Rattle.rules.specs.declared.Block.{Block}
use Rattle.rules.proofs.Tests.{absurd_test}
use Rattle.rules.proofs.Choice.{choices_none, choices_step, choices_range, data_choice_range}
use Rattle.rules.proofs.Marking.{marked-length}
use Rattle.rules.proofs.Extended.{extended_all_places, extended_all-length}
use Rattle.map.specs.Search.{Searched}
use Rattle.map.specs.declared.choice.Search.{Search}
use Rattle.map.proofs.SearchLaws.{searched_marked}
use Rattle.extension.specs.declared.Tip.{Tip}
use Rattle.extension.specs.Tip.{no_tip, tip_with}
use Rattle.extension.specs.Built.{Built, Extendable, Extends}
use Rattle.extension.proofs.Tips.{tip_used}
use Rattle.extension.proofs.Building.{no_blocks, built_none, built_laid, longer_used}
use Rattle.storing.specs.Spread.{Spread}

-- With `left` sectors still to take, those that will be taken give, with what is there, what all of them give.
pub record Spreading (many : ℕ) (sector0₀ sector0 chain : List ℕ) (search : Search) (tip : Tip) (left : ℕ) : Type 0 where
  pub size : length sector0 ≡ 256
  pub small : (i : ℕ) → byte_at chain i < 256
  pub built : Built chain tip
  pub searched : Searched sector0 search
  pub number : tip.next + left ≡ many
  pub map : marked_all 1 sector0 (data_choices left sector0) ≡ marked_all 1 sector0₀ (data_choices many sector0₀)
  pub blocks_are : extended_all (blocks chain) (data_choices left sector0) ≡ extended_all [] (data_choices many sector0₀)

pub spreading_first : {many : ℕ} {sector0 : List ℕ} (chain : List ℕ) {search : Search} → length sector0 ≡ 256 → ((i : ℕ) → byte_at chain i < 256) → chain ≡ replicate 228 0
    → Searched sector0 search → Spreading many sector0 sector0 chain search no_tip many
spreading_first {many} {sector0} chain size small zeros first =
    record {
      size = size;
      small = small;
      built = rw zeros (built_none 228 refl);
      searched = first;
      number = omega arith;
      map = refl;
      blocks_are = ap (λ (bs : List Block). extended_all bs (data_choices many sector0)) (ap blocks zeros ∙ no_blocks 228);
    }

module _ {many : ℕ} {sector0₀ sector0 chain : List ℕ} {search : Search} {tip : Tip} {left : ℕ} (is : Spreading many sector0₀ sector0 chain search tip left) where
  -- Another sector k.
  module _ (more : 0 < left) {k : ℕ} (chosen : k ≡ data_choice sector0) where
    next_choices : data_choices left sector0 ≡ k ∷ data_choices (left - 1) (marked 1 sector0 k)
    next_choices =
        let e : left ≡ suc (left - 1) = omega arith in
        ap (λ (m : ℕ). data_choices m sector0) e
        ∙ choices_step (left - 1) sector0
        ∙ ap (λ (j : ℕ). j ∷ data_choices (left - 1) (marked 1 sector0 j)) (sym chosen)

    -- the blocks with it are among those of all
    blocks_with : extended_all (extended 0 (blocks chain) k) (data_choices (left - 1) (marked 1 sector0 k)) ≡ extended_all [] (data_choices many sector0₀)
    unfolding extended_all
    blocks_with = sym (ap (extended_all (blocks chain)) next_choices) ∙ is.blocks_are

    pub too_many_blocks : {longer : Tip} → longer ≡ tip_with tip k → 76 < longer.used → {after now : List ℕ} → Spread many sector0₀ false after now
    too_many_blocks {longer} e past =
        let used = longer_used chain tip k is.built.tip_is longer e in
        let all = extended_all-length (data_choices (left - 1) (marked 1 sector0 k)) (extended 0 (blocks chain) k) in
        let long = ap length blocks_with in
        record {
          enough_is = sym (lt-leb (length (extended_all [] (data_choices many sector0₀))) 76 (omega arith));
          taken = λ z. absurd_test (sym z);
        }

    pub room_for : many ≤ 128 → {longer : Tip} → longer ≡ tip_with tip k → longer.used ≤ 76 → Extendable chain tip k
    room_for few e fits =
        let range = data_choice_range sector0 in
        record {
          built = is.built;
          low = omega (arith, range.0);
          high = omega (arith, range.1);
          next = omega (arith, is.number);
          room = rw e at fits;
        }

    pub spreading_on : {found : Search} → Searched sector0 found → {after : List ℕ} {longer : Tip} → Extends chain tip k after longer → ((i : ℕ) → byte_at after i < 256)
        → Spreading many sector0₀ (marked 1 sector0 k) after found longer (left - 1)
    unfolding marked_all
    spreading_on {found} searched extends small =
        record {
          size = marked-length 1 sector0 k ∙ is.size;
          small = small;
          built = extends.built;
          searched = searched_marked sector0 found k is.size searched;
          number = omega (arith, extends.next, is.number);
          map = sym (ap (marked_all 1 sector0) next_choices) ∙ is.map;
          blocks_are = ap (λ (bs : List Block). extended_all bs (data_choices (left - 1) (marked 1 sector0 k))) extends.blocks_are ∙ blocks_with;
        }

  -- None left.
  module _ (none : left ≡ 0) where
    no_choices : data_choices left sector0 ≡ []
    no_choices = ap (λ (m : ℕ). data_choices m sector0) none ∙ choices_none sector0

    all_blocks : blocks chain ≡ extended_all [] (data_choices many sector0₀)
    unfolding extended_all
    all_blocks = sym (ap (extended_all (blocks chain)) no_choices) ∙ is.blocks_are

    all_places : places chain ≡ data_choices many sector0₀
    unfolding places places_from Linked
    all_places =
        ap (places_from 0) all_blocks
        ∙ extended_all_places 4096 (data_choices many sector0₀)
        (λ k some. let range = choices_range many sector0₀ k some in (range.0, omega (arith, range.1)))
        0 [] refl

    all_map : sector0 ≡ marked_all 1 sector0₀ (data_choices many sector0₀)
    unfolding marked_all
    all_map = sym (ap (marked_all 1 sector0) no_choices) ∙ is.map

    -- a block takes three bytes, and there are 228
    few_blocks : length (extended_all [] (data_choices many sector0₀)) ≤ 76
    few_blocks =
        omega (arith, ap length all_blocks, is.built.tip_is.used, is.built.size, ap (λ (t : Tip). t.used) is.built.tip_is.is, tip_used (blocks chain))

    pub all_taken : Spread many sector0₀ true sector0 chain
    all_taken =
        record {
          enough_is = sym (le-leb (length (extended_all [] (data_choices many sector0₀))) 76 few_blocks);
          taken = λ _.
              record {
                map = all_map;
                blocks_are = all_blocks;
                places_are = all_places;
                spread = record { size = is.built.size; laid = built_laid 228 chain tip refl is.built is.small };
              };
        }
