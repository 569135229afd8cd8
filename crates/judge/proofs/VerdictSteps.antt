-- The verdict by its tests, in the table's order: the tests before having passed, the one that fails gives its number, and 0 is given where all pass.
use mathlib.Core.Path.{◌≡◌}
use mathlib.Core.Bool.{Bool, true, false}
use mathlib.Core.List.{List, []}
use Prim.Native.Nat.{ℕ}
use Rattle.rules.specs.Sectors.{sector_of, sector_count}
use Rattle.rules.specs.Label.{label_rule}
use Rattle.rules.specs.Index.{index_rule}
use Rattle.rules.specs.Map.{map_rule}
use Rattle.rules.specs.Directory.{entries, entries_rule}
use Rattle.rules.specs.Volume.{indexes, every, files_in, holders}
use Rattle.rules.specs.Tests.{first_of}
use Rattle.rules.specs.Verdict.{size_rule, descriptors_rule, held_twice, volume_tests, verdict}
use Rattle.rules.specs.declared.Layout.{Layout}

-- the tests of the entries, of the indexes and of the descriptors that these lead to
module _ (layout : Layout) (image : List ℕ) where
  abbrev pub Entered : Bool → Type 0
  Entered t = entries_rule (sector_count image) (entries layout (sector_of image 0)) ≡ t

  abbrev pub Indexed : Bool → Type 0
  Indexed t = every (λ i. index_rule (sector_count image) (sector_of image i)) (indexes layout image) ≡ t

  abbrev pub Described : Bool → Type 0
  Described t = every (λ i. descriptors_rule layout (sector_count image) image [] (files_in image i)) (indexes layout image) ≡ t

-- tests 1 to 4 have passed
pub record FourPassed (layout : Layout) (image : List ℕ) : Type 0 where
  pub sized : size_rule image ≡ true
  pub labelled : label_rule (sector_count image) (sector_of image 0) ≡ true
  pub entered : Entered layout image true
  pub indexed : Indexed layout image true
  pub described : Described layout image true

module _ (layout : Layout) (image : List ℕ) where
  pub wrong_size : size_rule image ≡ false → verdict layout image ≡ 1
  unfolding verdict volume_tests first_of
  wrong_size e = rw e

  module _ (sized : size_rule image ≡ true) where
    pub wrong_label : label_rule (sector_count image) (sector_of image 0) ≡ false → verdict layout image ≡ 2
    unfolding verdict volume_tests first_of
    wrong_label e = rw (sized, e)

    module _ (labelled : label_rule (sector_count image) (sector_of image 0) ≡ true) where
      pub wrong_entry : Entered layout image false → verdict layout image ≡ 3
      unfolding verdict volume_tests first_of
      wrong_entry e = rw (sized, labelled, e)

      module _ (entered : Entered layout image true) where
        pub wrong_index : Indexed layout image false → verdict layout image ≡ 3
        unfolding verdict volume_tests first_of
        wrong_index e = rw (sized, labelled, entered, e)

        pub wrong_descriptor : Indexed layout image true → Described layout image false → verdict layout image ≡ 4
        unfolding verdict volume_tests first_of
        wrong_descriptor indexed e = rw (sized, labelled, entered, indexed, e)

  module _ (passed : FourPassed layout image) where
    pub wrong_holders : held_twice (holders layout image) ≡ true → verdict layout image ≡ 5
    unfolding verdict volume_tests first_of
    wrong_holders e = rw (passed.sized, passed.labelled, passed.entered, passed.indexed, passed.described, e)

    module _ (once : held_twice (holders layout image) ≡ false) where
      pub wrong_map_lem : map_rule (sector_count image) (holders layout image) (sector_of image 0) ≡ false → verdict layout image ≡ 6
      unfolding verdict volume_tests first_of
      wrong_map_lem e = rw (passed.sized, passed.labelled, passed.entered, passed.indexed, passed.described, once, e)

      pub nothing_wrong : map_rule (sector_count image) (holders layout image) (sector_of image 0) ≡ true → verdict layout image ≡ 0
      unfolding verdict volume_tests first_of
      nothing_wrong e = rw (passed.sized, passed.labelled, passed.entered, passed.indexed, passed.described, once, e)
