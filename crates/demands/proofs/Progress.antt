-- Every call gives the number of the first ground that is there, and 0 where none is: `progress`. The tests of the calls stand in the table's order; here each decides its ground.
use mathlib.Core.Path.{◌≡◌, refl, ap}
use mathlib.Core.Bool.{false}
use mathlib.Core.List.{List, [], ◌∷◌, ◌++◌}
use Prim.Native.Nat.{ℕ, ◌+◌}
use native.Mathlib.Omega.{arith}
use lib.Dec.{ltb}
use lib.ListN.{length}
use borrow.Author.Tests.{eqb-false, ltb-true, ltb-false}
use Rattle.rules.specs.Sectors.{sector_of}
use Rattle.rules.specs.Name.{wrong_place}
use Rattle.rules.specs.Map.{free_count, marked}
use Rattle.rules.specs.Chain.{blocks}
use Rattle.rules.specs.Descriptor.{chain_of}
use Rattle.rules.specs.Volume.{index_at, places_in}
use Rattle.rules.specs.Sound.{IsIndexed, Sound}
use Rattle.rules.specs.Choice.{descriptor_choice, data_choice}
use Rattle.rules.specs.declared.Layout.{Layout}
use Rattle.rules.specs.declared.Block.{Block}
use Rattle.rules.specs.Kind.{with_marks}
use Rattle.rules.specs.Tests.{Test, first_of}
use Rattle.rules.specs.Verdict.{volume_tests, verdict}
use Rattle.rules.specs.Outcome.{Report, Outcome}
use Rattle.rules.specs.Opening.{find_in, open_of, on_file, changing, adding}
use Rattle.rules.specs.Calls.Summary.{free_count_of}
use Rattle.rules.specs.Calls.Entry.{entry_tests, entry_of}
use Rattle.rules.specs.Calls.Read.{read_tests, reading, read_of}
use Rattle.rules.specs.Calls.Load.{length_in, load_tests, loading, load_of}
use Rattle.rules.specs.Calls.Listing.{listing_text, listing_tests, listing_of}
use Rattle.rules.specs.Calls.Repair.{repair_tests, repair_of}
use Rattle.rules.specs.Calls.Pack.{pack_tests}
use Rattle.rules.specs.Calls.Format.{format_tests}
use Rattle.rules.specs.Calls.Create.{create_tests, creating, create_of}
use Rattle.rules.specs.Calls.Append.{longer_blocks, append_tests, appending, append_of}
use Rattle.rules.specs.Calls.Overwrite.{overwrite_tests, overwriting, overwrite_of}
use Rattle.rules.specs.Calls.Protect.{setting_bit, set_bit_of}
use Rattle.rules.specs.Calls.Store.{new_sectors, new_blocks, store_tests, storing, store_of}
use Rattle.rules.specs.Calls.Delete.{delete_tests, deleting, delete_of}
use Rattle.rules.specs.Calls.Rename.{rename_tests, renaming_in, renaming, open_both, rename_of}
use Rattle.std.specs.Prelude.{None}
use Rattle.rules.specs.Answers.Opened.{Opened}
use Rattle.rules.specs.Answers.Opened.{At, Absent, Refused, Misnamed}
use Rattle.rules.proofs.Name.{name_is, is_name}
use Rattle.rules.proofs.Verdict.{sound}
use Rattle.rules.proofs.Indexes.{directory_indexed}
use Rattle.rules.proofs.Choice.{choices_length}
use Rattle.rules.proofs.Opening.{IsOpened}
use Rattle.rules.proofs.Listed.{opened_listed}
use Rattle.demands.specs.Call as call
use Rattle.demands.specs.Call.{Form, number_in, Look, Change, Call, names_of, change_rule, rule_of, number_of}
use Rattle.demands.specs.Ours.{seen, outcome, ours}
use Rattle.demands.specs.Grounds.{Ground, ground, First, faults, nowhere, look_grounds, change_grounds, grounds, IsProtected, Has, Present, Overfull, NewOverfull, TextOver, mending_faults}
use Rattle.demands.specs.Taking.{Takes}
use Rattle.demands.proofs.Carried.{answer_number_lem, amount_number_lem, summary_number_lem, named_number_lem, loaded_number_lem}
use Rattle.demands.proofs.Taking.{lowest_one, takes_one, descriptor_lowest, append_takes, new_takes}
use Rattle.demands.proofs.Lines.{listing_lists, lists_one}
use Rattle.demands.proofs.Deciding.{Decides, Decide, first_after, first_ground, decide_both, broken, equal, unequal, below, at_most}
use Rattle.demands.proofs.Faults.{sized_is, is_sized, faults_decided, mending_decided}
use Rattle.demands.proofs.Creates.{status_among, among_status}
use Rattle.demands.proofs.Opening.{of_file, unnamed, sound_first, name_first, directory_first, absent_first, present_first}

-- calls that name no file: the tests of the volume, and more behind them
volume_first : (layout : Layout) (image : List ℕ) (tests : List Test) (gs : List {1} Ground) → (Sound layout image → Decide tests gs) → First (first_of (volume_tests layout image ++ tests)) (faults layout image ++ gs)
unfolding verdict
volume_first layout image tests gs decided =
    first_ground (volume_tests layout image ++ tests) (faults layout image ++ gs) (decide_both (volume_tests layout image) tests (faults layout image) gs (faults_decided layout image) (λ zero. decided (sound layout image zero)))

-- calls on a file of a directory, by the number that they make of what was opened; and calls that take a new name
module _ (layout : Layout) (image : List ℕ) (directory : ℕ) (name : List ℕ) (result : Opened → ℕ) (refused : (number : ℕ) → result (Refused number) ≡ number) (misnamed : (place : ℕ) → result (Misnamed place) ≡ 7) where
  abbrev i : ℕ
  i = index_at layout image directory

  opened_first : (more : List {1} Ground) → (Sound layout image → IsIndexed layout image i → wrong_place name ≡ None → First (result (find_in image i name)) more)
      → First (result (open_of layout image directory name)) (faults layout image ++ (unnamed name ∷ (nowhere layout image directory ∷ more)))
  unfolding open_of
  opened_first more found =
      sound_first layout result image _ _ refused
      (λ is. name_first result name _ _ misnamed (λ kept. directory_first layout result image directory name more (refused 8) (λ indexed. found is indexed kept)))

  file_first : (more : List {1} Ground) → ((h : ℕ) → result (Absent h) ≡ 8) → ((p k : ℕ) → IsOpened layout image name i p k → First (result (At i p k)) more)
      → First (result (open_of layout image directory name)) (faults layout image ++ (unnamed name ∷ (nowhere layout image directory ∷ (ground 8 (Present image i name → ⊥) ∷ more))))
  file_first more eight found = opened_first _ (λ is indexed kept. absent_first layout result image i name is indexed kept more eight found)

module _ (layout : Layout) (image : List ℕ) (directory : ℕ) (name : List ℕ) (more : List {1} Ground) where
  abbrev at : ℕ
  at = index_at layout image directory

  changing_first : (act : ℕ → ℕ → Outcome) → ((p k : ℕ) → IsOpened layout image name at p k → First (act at k).number more)
      → First (changing (open_of layout image directory name) act).number (faults layout image ++ (unnamed name ∷ (nowhere layout image directory ∷ (ground 8 (Present image at name → ⊥) ∷ more))))
  unfolding changing
  changing_first act = file_first layout image directory name (λ (o : Opened). (changing o act).number) (λ number. refl) (λ place. refl) more (λ h. refl)

  reading_first : (act : ℕ → Report) → ((p k : ℕ) → IsOpened layout image name at p k → First (act k).number more)
      → First (on_file (open_of layout image directory name) act).number (faults layout image ++ (unnamed name ∷ (nowhere layout image directory ∷ (ground 8 (Present image at name → ⊥) ∷ more))))
  unfolding on_file
  reading_first act = file_first layout image directory name (λ (o : Opened). (on_file o act).number) (λ number. refl) (λ place. refl) more (λ h. refl)

  adding_first : (addition : ℕ → Outcome) → (Sound layout image → First (addition at).number more)
      → First (adding (open_of layout image directory name) addition).number (faults layout image ++ (unnamed name ∷ (nowhere layout image directory ∷ (ground 9 (Present image at name) ∷ more))))
  unfolding adding
  adding_first addition first =
      let result : Opened → ℕ = λ o. (adding o addition).number in
      opened_first layout image directory name result (λ number. refl) (λ place. refl) _
      (λ is indexed kept. present_first layout result image at name is indexed kept more (λ h p k. refl) (λ absent. first is))

-- 13: the blocks that the call makes are the only ones of the facts
overfull_decided : (image first places : List ℕ) (before : List Block) (ks : List ℕ) (chain : List Block) → Takes image first places before ks chain
    → Decides (ltb 76 (length chain)) (Overfull image first places before (length ks))
overfull_decided image first places before ks chain takes =
    record {
      yes_there = λ e. record { taken = record { ks = ks; so_many = refl; chain = chain; takes = takes }; over = ltb-true 76 (length chain) e };
      not_there = λ e o.
          let same = (takes_one image first places before o.taken.ks ks o.taken.chain chain o.taken.so_many o.taken.takes takes).1 in
          omega (arith, ltb-false 76 (length chain) e, o.over, ap length same);
    }

longer_decided : (layout : Layout) (image name : List ℕ) (i p k : ℕ) → IsOpened layout image name i p k → ltb (free_count (sector_of image 0)) 1 ≡ false
    → Decides (ltb 76 (length (longer_blocks image k))) (Overfull image [] (places_in image k) (blocks (chain_of (sector_of image k))) 1)
longer_decided layout image name i p k o room =
    overfull_decided image [] (places_in image k) (blocks (chain_of (sector_of image k))) (data_choice (sector_of image 0) ∷ []) (longer_blocks image k)
    (append_takes layout image i k o.whole o.indexed (opened_listed layout image name i p k o) (ltb-false (free_count (sector_of image 0)) 1 room))

new_decided : (layout : Layout) (image : List ℕ) → Sound layout image → (many : ℕ) → ltb (free_count (sector_of image 0)) (1 + many) ≡ false → Decides (ltb 76 (length (new_blocks image many))) (NewOverfull image many)
unfolding new_sectors
new_decided layout image is many room =
    let k = descriptor_choice (sector_of image 0) in
    let free = ltb-false (free_count (sector_of image 0)) (1 + many) room in
    let lowest = descriptor_lowest layout image is (omega (arith, free)) in
    let decided : Decides (ltb 76 (length (new_blocks image many))) (Overfull image (k ∷ []) [] [] many) =
    rw (choices_length many (marked 1 (sector_of image 0) k)) at (overfull_decided image (k ∷ []) [] [] (new_sectors image many) (new_blocks image many) (new_takes layout image many is free))
    in
    record {
      yes_there = λ e. record { k = k; chosen = lowest; overfull = decided.yes_there e };
      not_there = λ e o. decided.not_there e (rw (lowest_one image [] 2 o.k k o.chosen lowest) at o.overfull);
    }

-- 15: and so is the text of the listing
text_decided : (layout : Layout) (image : List ℕ) (i : ℕ) → Sound layout image → IsIndexed layout image i → {room : ℕ} → Decides (ltb room (length (listing_text layout image i))) (TextOver layout image i room)
text_decided layout image i is indexed {room} =
    let text = listing_text layout image i in
    let lists = listing_lists layout image is i indexed in
    record {
      yes_there = λ e. record { text = text; lists = lists; over = ltb-true room (length text) e };
      not_there = λ e o. omega (arith, ltb-false room (length text) e, o.over, ap length (lists_one layout image i o.text text o.lists lists));
    }

-- each look
judged_first : (layout : Layout) (image : List ℕ) → First (first_of (volume_tests layout image)) (faults layout image ++ [])
unfolding First
judged_first layout image = first_after (volume_tests layout image) (faults layout image) [] (first_of (volume_tests layout image)) (faults_decided layout image) (λ some. refl) (λ zero. zero)

look_first : (layout : Layout) {form : Form} (look : Look form) (buffer image : List ℕ) → First (number_in form (seen layout look buffer image).answer) (faults layout image ++ look_grounds layout look buffer image)
unfolding seen look_grounds Decide verdict free_count_of entry_tests entry_of read_tests reading read_of load_tests length_in loading load_of listing_tests listing_of pack_tests
look_first layout call.judge buffer image = judged_first layout image
look_first layout call.free_count buffer image = rw amount_number_lem (judged_first layout image)
look_first layout call.summarize buffer image = rw (summary_number_lem layout image) (judged_first layout image)
look_first layout (call.entry directory place) buffer image =
    rw (answer_number_lem (entry_of layout image directory place (length buffer)).number)
    (volume_first layout image _ _ (λ is. (refl, equal, λ _. (refl, at_most, λ _. (refl, below, λ _. tt)))))
look_first layout (call.read directory name offset) buffer image =
    let i = index_at layout image directory in
    rw (named_number_lem (call.one name) (read_of layout image directory name offset (length buffer)).number)
    (reading_first layout image directory name _ (reading image offset (length buffer))
    (λ p k o. first_ground (read_tests image offset (length buffer) k) _ (refl, of_file layout image name i p k o _ at_most, λ _. (refl, below, λ _. tt))))
look_first layout (call.load directory name) buffer image =
    let i = index_at layout image directory in
    rw (loaded_number_lem (wrong_place name) (load_of layout image directory name (length buffer)))
    (reading_first layout image directory name _ (loading image (length buffer))
    (λ p k o. first_ground (load_tests image (length buffer) k) _ (refl, of_file layout image name i p k o _ unequal, λ _. (refl, of_file layout image name i p k o _ below, λ _. tt))))
look_first layout (call.list directory) buffer image =
    rw (amount_number_lem (listing_of layout image directory (length buffer)))
    (volume_first layout image _ _
    (λ is. (refl, equal, λ there. (refl, text_decided layout image (index_at layout image directory) is (directory_indexed layout image directory (eqb-false _ 0 there)), λ _. tt))))
look_first layout call.pack buffer image = rw (answer_number_lem (first_of (pack_tests layout image buffer))) (volume_first layout image _ _ (λ is. (refl, unequal, λ _. tt)))

-- each change
no_ground : First 0 []
unfolding First
no_ground = refl

protected_first : (layout : Layout) (image name : List ℕ) (i p k : ℕ) → IsOpened layout image name i p k
    → First (first_of (rename_tests image k)) (ground 10 (Has image i name (IsProtected image)) ∷ [])
unfolding rename_tests Decide
protected_first layout image name i p k o = first_ground (rename_tests image k) _ (refl, of_file layout image name i p k o _ equal, λ _. tt)

rename_first : (layout : Layout) (image : List ℕ) (directory : ℕ) (old new : List ℕ) → First (rename_of layout image directory old new).number (grounds layout (call.change directory old (call.rename new)) image)
unfolding grounds change_grounds rename_of open_both renaming renaming_in changing adding
rename_first layout image directory old new =
    let i = index_at layout image directory in
    let result : Opened → ℕ = λ o. (changing o (renaming layout image new)).number in
    sound_first layout result image _ _ (λ number. refl)
    (λ is.
    name_first result old _ _ (λ place. refl)
    (λ kept.
    name_first result new _ _ (λ place. refl)
    (λ kept_new.
    directory_first layout result image directory old _ refl
    (λ indexed.
    absent_first layout result image i old is indexed kept _ (λ h. refl)
    (λ p k o.
    present_first layout (λ (o : Opened). (adding o (renaming_in layout image new k)).number) image i new is indexed kept_new _ (λ h p k. refl) (λ absent. protected_first layout image old i p k o))))))

change_first : (layout : Layout) (change : Change) (image : List ℕ) (directory : ℕ) (name : List ℕ)
    → First (outcome layout change image directory name).number (grounds (change_rule layout change) (call.change directory name change) image)
unfolding outcome grounds change_grounds Decide create_of creating create_tests append_of appending append_tests overwrite_of overwriting overwrite_tests set_bit_of setting_bit store_of storing store_tests delete_of deleting delete_tests
change_first layout (call.create status record_length records_per_sector) image directory name =
    adding_first layout image directory name _ (creating layout image name status record_length records_per_sector)
    (λ is. first_ground (create_tests image status (index_at layout image directory)) _ (refl, broken (status_among status) (among_status status), λ _. (refl, at_most, λ _. (refl, below, λ _. tt))))
change_first layout (call.append bytes) image directory name =
    let i = index_at layout image directory in
    changing_first layout image directory name _ (λ h k. appending layout image bytes k)
    (λ p k o.
    first_ground (append_tests image bytes k) _ (
      refl,
      of_file layout image name i p k o _ equal,
      λ _. (refl, of_file layout image name i p k o _ equal, λ _. (refl, unequal, λ _. (refl, below, λ room. (refl, of_file layout image name i p k o _ (longer_decided layout image name i p k o room), λ _. tt)))),
    ))
change_first layout (call.overwrite offset bytes) image directory name =
    let i = index_at layout image directory in
    changing_first layout image directory name _ (λ h k. overwriting layout image offset bytes k)
    (λ p k o.
    first_ground (overwrite_tests image offset bytes k) _
    (refl, of_file layout image name i p k o _ equal, λ _. (refl, of_file layout image name i p k o _ equal, λ _. (refl, of_file layout image name i p k o _ at_most, λ _. (refl, unequal, λ _. tt)))))
change_first layout call.protect image directory name = changing_first layout image directory name [] (λ i k. setting_bit 3 1 image k) (λ p k o. no_ground)
change_first layout call.unprotect image directory name = changing_first layout image directory name [] (λ i k. setting_bit 3 0 image k) (λ p k o. no_ground)
change_first layout call.clear image directory name = changing_first (with_marks layout) image directory name [] (λ i k. setting_bit 4 0 image k) (λ p k o. no_ground)
change_first layout (call.store bytes) image directory name =
    adding_first layout image directory name _ (storing layout image name bytes)
    (λ is. first_ground (store_tests image bytes (index_at layout image directory)) _ (refl, below, λ _. (refl, at_most, λ _. (refl, below, λ room. (refl, new_decided layout image is _ room, λ _. tt)))))
change_first layout call.delete image directory name =
    changing_first layout image directory name _ (deleting image) (λ p k o. first_ground (delete_tests image k) _ (refl, of_file layout image name (index_at layout image directory) p k o _ equal, λ _. tt))
change_first layout (call.rename new) image directory name = rename_first layout image directory name new

-- each call
pub progress : (layout : Layout) (c : Call) (image : List ℕ) → First (number_of (ours layout) c image) (grounds (rule_of layout c) c image)
unfolding ours grounds format_tests repair_of Decide
progress layout (call.look look buffer) image = look_first layout look buffer image
progress layout (call.change directory name change) image = rw (named_number_lem (names_of name change) (outcome layout change image directory name).number) (change_first layout change image directory name)
progress layout call.repair image = rw (answer_number_lem (first_of (repair_tests layout image))) (first_ground (repair_tests layout image) (mending_faults layout image) (mending_decided layout image))
progress layout (call.format n name g) image =
    rw (named_number_lem (call.one name) (first_of (format_tests image n name)))
    (first_ground (format_tests image n name) _
    (refl, broken (sized_is image) (is_sized image), λ _. (refl, unequal, λ _. (refl, broken (name_is name) (is_name name), λ _. tt))))
