-- Two images that a change leaves are one. Both have the catalogue that the change asks for, so the file of a name that lies in the same sector with the same chain is the same sector by
-- sector; sector 0 is said; the index is fixed by the names of the numbers that it lists; and all else stands as it stood.
use mathlib.Core.Path.{◌≡◌, refl, sym, ap, ◌∙◌}
use mathlib.Core.Bool.{Bool, true, false, cond}
use mathlib.Core.List.{List, [], ◌∷◌, ◌++◌}
use mathlib.Core.Logic.{inl, inr}
use Prim.Native.Nat.{ℕ, ◌/◌, ◌≤◌, ◌<◌}
use native.Mathlib.Omega.{arith}
use native.Mathlib.Decide.{dec_lt, ℕ_discrete}
use lib.Dec.{eqb}
use lib.ListN.{length, get_or}
use borrow.Author.Tests.{eqb-false}
use Rattle.rules.specs.Sectors.{sector_of, sector_count}
use Rattle.rules.specs.Map.{count}
use Rattle.rules.specs.Chain.{blocks, chain_with}
use Rattle.rules.specs.Descriptor.{name_of, chain_of}
use Rattle.rules.specs.Index.{index_of}
use Rattle.rules.specs.Volume.{File, index_at, files_in, name_in, places_in, header_in, contents_in, file_in}
use Rattle.rules.specs.Name.{IsName}
use Rattle.rules.specs.Sound.{IsIndexed, Sound}
use Rattle.rules.specs.declared.Layout.{Layout}
use Rattle.rules.specs.declared.Block.{Block}
use Rattle.rules.proofs.Bytes.{halves}
use Rattle.rules.proofs.Sectors.{sector_length, image_same}
use Rattle.rules.proofs.Map.{count_none, count_here, count_other, only_one, count_at, count_append}
use Rattle.rules.proofs.Staying.{map_each, indexes_kept}
use Rattle.rules.proofs.Indexes.{directory_indexed}
use Rattle.rules.proofs.Written.{entries_stand}
use Rattle.rules.proofs.Altered.{own_other}
use Rattle.rules.proofs.Listed.{sector_inside, listed_range, listed_name, one_order}
use Rattle.demands.specs.Call as call
use Rattle.demands.specs.Call.{Names, Change, names_of}
use Rattle.demands.specs.Catalogue.{named}
use Rattle.demands.specs.Effects.{Effect, Done}
use Rattle.demands.specs.Grounds.{Ground, ground, First, faults, nowhere, change_grounds, name_grounds, grounds, Has}
use Rattle.demands.specs.Touches.{Others, Numbers, Lies, Stays, Gains, Enters, Leaves, overwrite_touches, TouchesIn}
use Rattle.demands.proofs.Filed.{named_file}
use Rattle.demands.proofs.Taking.{lowest_one, takes_one}

-- one of a list of numbers: its first, or one of the rest
among : (P : ℕ → Type 0) (k : ℕ) (ks : List ℕ) → P k → ((j : ℕ) → 1 ≤ count j ks → P j) → (j : ℕ) → 1 ≤ count j (k ∷ ks) → P j
among P k ks here later j some =
    elim (ℕ_discrete k j) [
      | yes is ↦ rw (← is) here
      | no other ↦ later j (omega (arith, some, count_other j k ks other))
    ]

none : (P : ℕ → Type 0) (j : ℕ) → 1 ≤ count j [] → P j
none P j some = absurd (omega (arith, some, count_none j))

-- one of those that overwriting touches
overwrite_among : (layout : Layout) (P : ℕ → Type 0) (k place : ℕ) → P k → P place → (j : ℕ) → 1 ≤ count j (overwrite_touches layout k place) → P j
overwrite_among layout P k place own written = go layout.marks
  where
    go : (t : Bool) (j : ℕ) → 1 ≤ count j (cond t (k ∷ (place ∷ [])) (place ∷ [])) → P j
    go true = among P k (place ∷ []) own (among P place [] written (none P))
    go false = among P place [] written (none P)

-- besides sector 0 and the index the two system sectors do not count
pub behind_system : (i j : ℕ) (ks : List ℕ) → (j ≡ 0 → ⊥) → (j ≡ i → ⊥) → count j (0 ∷ (i ∷ ks)) ≡ count j ks
behind_system i j ks some apart = count_other j 0 (i ∷ ks) (λ e. some (sym e)) ∙ count_other j i ks (λ e. apart (sym e))

-- no ground has the number 0, so where the number is 0 those in front are not there, and the directory is
unfoldable Numbered : List {1} Ground → Type 0
Numbered [] = Unit {0}
Numbered (g ∷ gs) = (eqb g.number 0 ≡ false) × Numbered gs

first_past : (n : ℕ) (front more : List {1} Ground) → n ≡ 0 → Numbered front → First n (front ++ more) → First n more
unfolding Numbered First
first_past n [] more zero numbered first = first
first_past n (g ∷ front) more zero numbered (inl here) = absurd (eqb-false g.number 0 numbered.0 (sym here.1 ∙ zero))
first_past n (g ∷ front) more zero numbered (inr later) = first_past n front more zero numbered.1 later.1

names_past : (n : ℕ) (names : Names) (more : List {1} Ground) → n ≡ 0 → First n (name_grounds names more) → First n more
unfolding Numbered
names_past n (call.one name) more zero first = first_past n (ground 7 (IsName name → ⊥) ∷ []) more zero (refl, tt) first
names_past n (call.both old new) more zero first = first_past n (ground 7 (IsName old → ⊥) ∷ (ground 7 (IsName new → ⊥) ∷ [])) more zero (refl, (refl, tt)) first

pub directory_there : (layout : Layout) (directory : ℕ) (name : List ℕ) (change : Change) (image : List ℕ) (n : ℕ) → n ≡ 0 → First n (grounds layout (call.change directory name change) image)
    → IsIndexed layout image (index_at layout image directory)
unfolding grounds faults Numbered First
directory_there layout directory name change image n zero first =
    let more = change_grounds change image (index_at layout image directory) name in
    let behind = names_past n (names_of name change) (nowhere layout image directory ∷ more) zero (first_past n (faults layout image) (name_grounds (names_of name change) (nowhere layout image directory ∷ more)) zero (refl, (refl, (refl, (refl, (refl, (refl, tt)))))) first) in
    directory_indexed layout image directory (there more behind)
  where
    there : (more : List {1} Ground) → First n (nowhere layout image directory ∷ more) → index_at layout image directory ≡ 0 → ⊥
    there more (inl here) none = omega (arith, zero, here.1)
    there more (inr later) none = later.0 none

-- the file of a name is one, so what holds of it holds where it was found first
pub of_first : (layout : Layout) (image : List ℕ) (i : ℕ) (name : List ℕ) → Sound layout image → IsIndexed layout image i → {P Q : ℕ → Type 0} → (first : Has image i name P) → Has image i name Q → Q first.sector
of_first layout image i name is indexed first second =
    rw (listed_name layout image is i indexed second.sector first.sector second.listed first.listed (second.named ∙ sym first.named)) at second.so

module _ (layout : Layout) (image a b : List ℕ) (i : ℕ) (name : List ℕ) (effect : Effect) (done : Done layout image a i name effect) (done' : Done layout image b i name effect) (is : Sound layout image) (indexed : IsIndexed layout image i) where
  abbrev Same : ℕ → Type 0
  Same j = sector_of a j ≡ sector_of b j

  many : sector_count a ≡ sector_count image
  many = ap (λ (m : ℕ). m / 256) done.size

  -- the index is one of each
  indexed_a : IsIndexed layout a i
  indexed_a = rw (indexes_kept layout image a (entries_stand layout image a is done.size done.kept.label)) indexed

  indexed_b : IsIndexed layout b i
  indexed_b = rw (indexes_kept layout image b (entries_stand layout image b is done'.size done'.kept.label)) indexed

  -- a file that lies alike
  module _ (own : List ℕ) (k : ℕ) (places chain : List ℕ) (lies : Lies a i own k places chain) (lies' : Lies b i own k places chain) where
    file_one : file_in a k ≡ file_in b k
    file_one =
        sym (named_file layout a i own k done.sound indexed_a lies.listed (sym lies.named))
        ∙ ap (named own) (done.catalogue_is ∙ sym done'.catalogue_is)
        ∙ named_file layout b i own k done'.sound indexed_b lies'.listed (sym lies'.named)

    descriptor_one : Same k
    unfolding file_in header_in chain_of
    descriptor_one =
        let long = sector_length a k (sector_inside layout a done.sound k (listed_range layout a done.sound i indexed_a k lies.listed).1) in
        let long' = sector_length b k (sector_inside layout b done'.sound k (listed_range layout b done'.sound i indexed_b k lies'.listed).1) in
        halves 28 228 (sector_of a k) (sector_of b k) long long' (ap (λ (file : File). file.header) file_one) (lies.chain_is ∙ sym lies'.chain_is)

    place_one : (j : ℕ) → 1 ≤ count j places → Same j
    unfolding file_in contents_in
    place_one = map_each (sector_of a) (sector_of b) places (rw (lies.places_are, lies'.places_are) at (ap (λ (file : File). file.contents) file_one))

  -- what is said of the sectors touched is enough
  module _ (touched : List ℕ) (others : Others image a touched) (others' : Others image b touched) where
    stand_one : (j : ℕ) → j < sector_count image → count j touched ≡ 0 → Same j
    stand_one j low apart = others j low apart ∙ sym (others' j low apart)

    image_one : ((j : ℕ) → 1 ≤ count j touched → Same j) → a ≡ b
    image_one here =
        image_same a b (done.size ∙ sym done'.size) done.sound.whole
        (λ j low.
        elim (dec_lt 0 (count j touched)) [
          | yes some ↦ here j some
          | no apart ↦ stand_one j (omega (arith, low, many)) (omega arith)
        ])

    -- the index, where all but sector 0 and itself are the same
    module _ (goes comes : List ℕ) (numbers : Numbers image a i goes comes) (numbers' : Numbers image b i goes comes) (here : (j : ℕ) → (j ≡ 0 → ⊥) → (j ≡ i → ⊥) → 1 ≤ count j touched → Same j) where
      listed_one : (j : ℕ) → 1 ≤ count j (files_in a i) → Same j
      listed_one j there =
          let range = listed_range layout a done.sound i indexed_a j there in
          elim (dec_lt 0 (count j touched)) [
            | yes some ↦ here j (λ e. omega (arith, e, range.0)) (own_other layout a i j done.sound indexed_a there j (omega (arith, count_here j (places_in a j)))) some
            | no apart ↦ stand_one j (omega (arith, range.1, many)) (omega arith)
          ]

      name_one : (p : ℕ) → p < length (files_in a i) → name_in a (get_or (files_in a i) p 0) ≡ name_in b (get_or (files_in a i) p 0)
      unfolding name_in
      name_one p h = ap name_of (listed_one (get_or (files_in a i) p 0) (count_at (files_in a i) p h))

      index_one : Same i
      index_one =
          let files-one : files_in a i ≡ files_in b i =
          one_order b (files_in a i) (files_in b i) (λ p q h l. rw (← name_one p (omega (arith, h, l)), ← name_one q l) ((done.sound.each i indexed_a).ascending p q h l)) (done'.sound.each i indexed_b).ascending
          (λ j. omega (arith, numbers.lists j, numbers'.lists j))
          in
          numbers.laid ∙ ap index_of files-one ∙ sym numbers'.laid

  -- a file that keeps its places and its chain, of which only its own sectors are touched
  stays_one : (own : List ℕ) (k : ℕ) (touched : List ℕ) (stays : Stays image a i own k touched) (stays' : Stays image b i own k touched)
      → ((j : ℕ) → 1 ≤ count j touched → Same k → ((h : ℕ) → 1 ≤ count h (places_in image k) → Same h) → Same j) → a ≡ b
  stays_one own k touched stays stays' here =
      let places = places_in image k in
      let chain = chain_of (sector_of image k) in
      image_one touched stays.others stays'.others
      (λ j some. here j some (descriptor_one own k places chain stays.lies stays'.lies) (place_one own k places chain stays.lies stays'.lies))

  -- a bit of its status
  bit_one : (order order' : List ℕ) → Has image i name (λ k. Stays image a i name k (k ∷ []) × (order ≡ k ∷ [])) → Has image i name (λ k. Stays image b i name k (k ∷ []) × (order' ≡ k ∷ [])) → a ≡ b
  bit_one order order' t t' = stays_one name t.sector _ t.so.0 (of_first layout image i name is indexed t t').0 (λ j some same places. rw (only_one _ j some) at same)

  renamed_one : (own : List ℕ) (k : ℕ) → Stays image a i own k (k ∷ (i ∷ [])) → Stays image b i own k (k ∷ (i ∷ [])) → Numbers image a i [] [] → Numbers image b i [] [] → a ≡ b
  renamed_one own k stays stays' numbers numbers' =
      stays_one own k (k ∷ (i ∷ [])) stays stays'
      (λ j some same places.
      among Same k (i ∷ []) same
      (among Same i []
      (index_one (k ∷ (i ∷ [])) stays.others stays'.others [] [] numbers numbers' (λ h more apart some. among (λ g. (g ≡ i → ⊥) → Same g) k (i ∷ []) (λ away. same) (λ g other away. absurd (away (sym (only_one i g other)))) h some apart))
      (none Same)) j some)

  -- a file that goes
  leaves_one : (k : ℕ) → Leaves image a i k → Leaves image b i k → a ≡ b
  leaves_one k leaves leaves' =
      let touched : List ℕ = 0 ∷ (i ∷ []) in
      image_one touched leaves.others leaves'.others
      (among Same 0 (i ∷ []) (leaves.map ∙ sym leaves'.map)
      (among Same i []
      (index_one touched leaves.others leaves'.others (k ∷ []) [] leaves.numbers leaves'.numbers
      (λ j more apart some. absurd (omega (arith, some, behind_system i j [] more apart, count_none j))))
      (none Same)))

  -- a file that gains sectors: they are the same, and so are its chain and what it holds
  module _ (own : List ℕ) (k : ℕ) (first places : List ℕ) (before : List Block) (m : ℕ) (system : List ℕ)
      (gains : Gains image a i own k first places before m system) (gains' : Gains image b i own k first places before m system) where
    abbrev ks : List ℕ
    ks = gains.taken.ks

    taken_one : (ks ≡ gains'.taken.ks) × (gains.taken.chain ≡ gains'.taken.chain)
    taken_one = takes_one image first places before ks gains'.taken.ks gains.taken.chain gains'.taken.chain (gains.taken.so_many ∙ sym gains'.taken.so_many) gains.taken.takes gains'.taken.takes

    lies_second : Lies b i own k (places ++ ks) (chain_with gains.taken.chain)
    lies_second = rw (taken_one.0, taken_one.1) gains'.lies

    others_second : Others image b (system ++ (k ∷ ks))
    others_second = rw taken_one.0 gains'.others

    map_one : Same 0
    map_one = gains.map ∙ rw taken_one.0 (sym gains'.map)

    own_one : (j : ℕ) → 1 ≤ count j (k ∷ ks) → Same j
    own_one =
        among Same k ks (descriptor_one own k (places ++ ks) (chain_with gains.taken.chain) gains.lies lies_second)
        (λ j some. place_one own k (places ++ ks) (chain_with gains.taken.chain) gains.lies lies_second j (omega (arith, some, count_append j places ks)))

  grown_one : (k : ℕ) (places : List ℕ) (before : List Block) → Gains image a i name k [] places before 1 (0 ∷ []) → Gains image b i name k [] places before 1 (0 ∷ []) → a ≡ b
  grown_one k places before gains gains' =
      image_one (0 ∷ (k ∷ gains.taken.ks)) gains.others (others_second name k [] places before 1 (0 ∷ []) gains gains')
      (among Same 0 (k ∷ gains.taken.ks) (map_one name k [] places before 1 (0 ∷ []) gains gains') (own_one name k [] places before 1 (0 ∷ []) gains gains'))

  entered_one : (m k : ℕ) → Gains image a i name k (k ∷ []) [] [] m (0 ∷ (i ∷ [])) → Gains image b i name k (k ∷ []) [] [] m (0 ∷ (i ∷ [])) → Numbers image a i [] (k ∷ []) → Numbers image b i [] (k ∷ []) → a ≡ b
  entered_one m k gains gains' numbers numbers' =
      let system : List ℕ = 0 ∷ (i ∷ []) in
      let touched : List ℕ = 0 ∷ (i ∷ (k ∷ gains.taken.ks)) in
      let others' = others_second name k (k ∷ []) [] [] m system gains gains' in
      let held = own_one name k (k ∷ []) [] [] m system gains gains' in
      image_one touched gains.others others'
      (among Same 0 (i ∷ (k ∷ gains.taken.ks)) (map_one name k (k ∷ []) [] [] m system gains gains')
      (among Same i (k ∷ gains.taken.ks)
      (index_one touched gains.others others' [] (k ∷ []) numbers numbers' (λ j more apart some. held j (omega (arith, some, behind_system i j (k ∷ gains.taken.ks) more apart))))
      held))

  enters_one : (m : ℕ) (order order' : List ℕ) → Enters image a i name m order → Enters image b i name m order' → a ≡ b
  enters_one m order order' enters enters' =
      let e = lowest_one image [] 2 enters'.k enters.k enters'.chosen enters.chosen in
      entered_one m enters.k enters.gains (rw e at enters'.gains) enters.numbers (rw e at enters'.numbers)

  pub touches_one : (change : Change) (order order' : List ℕ) → TouchesIn layout change image a i name order → TouchesIn layout change image b i name order' → a ≡ b
  unfolding TouchesIn
  touches_one (call.create status record_length records_per_sector) o o' t t' = enters_one 0 o o' t t'
  touches_one (call.store bytes) o o' t t' = enters_one _ o o' t t'
  touches_one (call.append bytes) o o' t t' = grown_one t.sector _ _ t.so.gains (of_first layout image i name is indexed t t').gains
  touches_one (call.overwrite offset bytes) o o' t t' =
      stays_one name t.sector _ t.so.1 (of_first layout image i name is indexed t t').1
      (λ j some same places. overwrite_among layout Same t.sector (get_or (places_in image t.sector) offset 0) same (places _ (count_at (places_in image t.sector) offset t.so.0)) j some)
  touches_one call.protect o o' t t' = bit_one o o' t t'
  touches_one call.unprotect o o' t t' = bit_one o o' t t'
  touches_one call.clear o o' t t' = bit_one o o' t t'
  touches_one call.delete o o' t t' = leaves_one t.sector t.so.0 (of_first layout image i name is indexed t t').0
  touches_one (call.rename new) o o' t t' = let second = of_first layout image i name is indexed t t' in renamed_one new t.sector t.so.0 second.0 t.so.1 second.1

-- and the orders of their writes
module _ (layout : Layout) (image a b : List ℕ) (i : ℕ) (name : List ℕ) (is : Sound layout image) (indexed : IsIndexed layout image i) where
  chosen_order : (m : ℕ) (order order' : List ℕ) → Enters image a i name m order → Enters image b i name m order' → order ≡ order'
  chosen_order m order order' enters enters' =
      let e = lowest_one image [] 2 enters'.k enters.k enters'.chosen enters.chosen in
      let taken = enters.gains.taken in
      let taken' = enters'.gains.taken in
      let same = (takes_one image (enters.k ∷ []) [] [] taken.ks taken'.ks taken.chain taken'.chain (taken.so_many ∙ sym taken'.so_many) taken.takes (rw e at taken'.takes)).0 in
      enters.writes ∙ ap (λ (ks : List ℕ). ks ++ (enters.k ∷ (0 ∷ (i ∷ [])))) same ∙ ap (λ (k : ℕ). taken'.ks ++ (k ∷ (0 ∷ (i ∷ [])))) (sym e) ∙ sym enters'.writes

  pub orders_one : (change : Change) (order order' : List ℕ) → TouchesIn layout change image a i name order → TouchesIn layout change image b i name order' → order ≡ order'
  unfolding TouchesIn
  orders_one (call.create status record_length records_per_sector) o o' t t' = chosen_order 0 o o' t t'
  orders_one (call.store bytes) o o' t t' = chosen_order _ o o' t t'
  orders_one (call.append bytes) o o' t t' =
      let second = of_first layout image i name is indexed t t' in
      let taken = t.so.gains.taken in
      let taken' = second.gains.taken in
      let same = (takes_one image [] (places_in image t.sector) (blocks (chain_of (sector_of image t.sector))) taken.ks taken'.ks taken.chain taken'.chain (taken.so_many ∙ sym taken'.so_many) taken.takes taken'.takes).0 in
      t.so.writes ∙ ap (λ (ks : List ℕ). ks ++ (0 ∷ (t.sector ∷ []))) same ∙ sym second.writes
  orders_one (call.overwrite offset bytes) o o' t t' = t.so.2 ∙ sym (of_first layout image i name is indexed t t').2
  orders_one call.protect o o' t t' = t.so.1 ∙ sym (of_first layout image i name is indexed t t').1
  orders_one call.unprotect o o' t t' = t.so.1 ∙ sym (of_first layout image i name is indexed t t').1
  orders_one call.clear o o' t t' = t.so.1 ∙ sym (of_first layout image i name is indexed t t').1
  orders_one call.delete o o' t t' = t.so.1 ∙ sym t'.so.1
  orders_one (call.rename new) o o' t t' = t.so.2 ∙ sym (of_first layout image i name is indexed t t').2
