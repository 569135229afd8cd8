-- Repair's number by its tests, in the table's order: the tests before having passed, the one that fails gives its number, and 0 is given where all pass.
use mathlib.Core.Path.{◌≡◌}
use mathlib.Core.Bool.{Bool, true, false, ◌&&◌}
use mathlib.Core.List.{List, []}
use Prim.Native.Nat.{ℕ}
use Rattle.rules.specs.Sectors.{sector_of, sector_count}
use Rattle.rules.specs.Label.{label_rule}
use Rattle.rules.specs.Volume.{indexes, every, files_in, holders}
use Rattle.rules.specs.Tests.{first_of}
use Rattle.rules.specs.Verdict.{size_rule, held_twice}
use Rattle.rules.specs.Calls.Repair.{each_rule, distinct_rule, repair_tests}
use Rattle.rules.specs.declared.Layout.{Layout}
use Rattle.judge.proofs.VerdictSteps.{Entered, Indexed}

-- 4, as repair has it
abbrev pub Catalogued : Layout → List ℕ → Bool → Type 0
Catalogued layout image t = every (λ i. each_rule layout (sector_count image) image (files_in image i) && distinct_rule image [] (files_in image i)) (indexes layout image) ≡ t

pub record Examined (layout : Layout) (image : List ℕ) : Type 0 where
  pub sized : size_rule image ≡ true
  pub labelled : label_rule (sector_count image) (sector_of image 0) ≡ true
  pub entered : Entered layout image true
  pub indexed : Indexed layout image true
  pub catalogued : Catalogued layout image true

module _ (layout : Layout) (image : List ℕ) where
  abbrev number : ℕ
  number = first_of (repair_tests layout image)

  pub other_size : size_rule image ≡ false → number ≡ 1
  unfolding repair_tests first_of
  other_size e = rw e

  module _ (sized : size_rule image ≡ true) where
    pub other_label : label_rule (sector_count image) (sector_of image 0) ≡ false → number ≡ 2
    unfolding repair_tests first_of
    other_label e = rw (sized, e)

    module _ (labelled : label_rule (sector_count image) (sector_of image 0) ≡ true) where
      pub other_entry : Entered layout image false → number ≡ 3
      unfolding repair_tests first_of
      other_entry e = rw (sized, labelled, e)

      module _ (entered : Entered layout image true) where
        pub other_index : Indexed layout image false → number ≡ 3
        unfolding repair_tests first_of
        other_index e = rw (sized, labelled, entered, e)

        pub other_catalogue : Indexed layout image true → Catalogued layout image false → number ≡ 4
        unfolding repair_tests first_of
        other_catalogue indexed e = rw (sized, labelled, entered, indexed, e)

  module _ (passed : Examined layout image) where
    pub two_holders : held_twice (holders layout image) ≡ true → number ≡ 5
    unfolding repair_tests first_of
    two_holders e = rw (passed.sized, passed.labelled, passed.entered, passed.indexed, passed.catalogued, e)

    pub can_mend : held_twice (holders layout image) ≡ false → number ≡ 0
    unfolding repair_tests first_of
    can_mend e = rw (passed.sized, passed.labelled, passed.entered, passed.indexed, passed.catalogued, e)
