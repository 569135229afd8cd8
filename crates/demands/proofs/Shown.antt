-- What a reading call that was done gives, said of the catalogue: an entry is that of the file at its place, a read and a load are those of the file of the name, a
-- listing is the whole text.
use mathlib.Core.Path.{◌≡◌, refl, sym, ap, ◌∙◌}
use mathlib.Core.List.{List, []}
use Prim.Native.Nat.{ℕ, ◌<◌}
use native.Mathlib.Omega.{arith}
use lib.ListN.{length, get_or, take, length-map}
use borrow.Author.Tests.{eqb-false, leb-false}
use Rattle.rules.specs.Sectors.{sector_of, sector_count, joined}
use Rattle.rules.specs.Descriptor.{name_of, sectors_of, IsDescriptor}
use Rattle.rules.specs.Volume.{index_at, indexes, files_in, files_of, name_in, places_in, file_in, catalogue, catalogues}
use Rattle.rules.specs.Sound.{Sound, file_at}
use Rattle.rules.specs.Tests.{Passed}
use Rattle.rules.specs.Verdict.{volume_tests}
use Rattle.rules.specs.Outcome.{Report, gives, answer_of}
use Rattle.rules.specs.Opening.{open_of, on_file}
use Rattle.rules.specs.Calls.Pack.{together}
use Rattle.rules.specs.Calls.Entry.{row_of, no_row, entry_tests, entry_of, entry_row}
use Rattle.rules.specs.Calls.Read.{read_tests, reading, read_of}
use Rattle.rules.specs.Calls.Load.{length_in, program_in, load_tests, loading, load_of}
use Rattle.rules.specs.Calls.Listing.{listing_text, listing_tests, listing_of}
use Rattle.rules.specs.declared.Layout.{Layout}
use Rattle.rules.specs.Answers.Entry.{Entry}
use Rattle.rules.specs.Answers.Answer.{Done}
use Rattle.rules.specs.Answers.Opened.{Opened}
use Rattle.rules.specs.Answers.Opened.{At, Absent, Refused, Misnamed}
use Rattle.rules.proofs.Tests.{all_passed, passed_both, unless_passed}
use Rattle.rules.proofs.Volume.{contents_count, content_at, header_at, header_name}
use Rattle.rules.proofs.Outcome.{reported_given}
use Rattle.rules.proofs.Indexes.{directory_indexed}
use Rattle.rules.proofs.Pack.{together_files}
use Rattle.rules.proofs.Opening.{IsOpened, opened_at, open_refused}
use Rattle.rules.proofs.Listed.{opened_listed}
use Rattle.demands.specs.Catalogue.{file_of, length_is, row_is, named}
use Rattle.demands.proofs.Lines.{kind_in}
use Rattle.demands.proofs.Filed.{file_of_lem, named_file}

-- what a row shows of a descriptor is that of its file
row_in : (layout : Layout) (image : List ℕ) → Sound layout image → (k : ℕ) → IsDescriptor layout (sector_count image) (sector_of image k) → row_of (sector_of image k) ≡ row_is (file_in image k)
unfolding row_of file_in name_in name_of
row_in layout image is k d = rw (kind_in layout image is k d, contents_count layout (sector_count image) image k d, header_name image k, header_at image k 12 (omega arith))

pub together-length : (layout : Layout) (image : List ℕ) → length (together (catalogues layout image)) ≡ length (files_of image (indexes layout image))
unfolding catalogues
together-length layout image = ap length (together_files image (indexes layout image)) ∙ length-map (files_of image (indexes layout image)) (file_in image)

-- the entry at a place
module _ (layout : Layout) (image : List ℕ) (is : Sound layout image) (directory place room : ℕ) (e : (entry_of layout image directory place room).number ≡ 0) where
  abbrev i : ℕ
  i = index_at layout image directory

  entry_passed : (index_at layout image directory ≡ 0 → ⊥) × (place < length (files_in image i))
  unfolding entry_of entry_tests Passed
  entry_passed =
      let passed = (passed_both (volume_tests layout image) _ (all_passed (entry_tests layout image directory place room) e)).1 in
      (eqb-false i 0 passed.0, leb-false (length (files_in image i)) place passed.1.0)

  pub entry_bytes : (entry_of layout image directory place room).bytes ≡ (file_of image i place).header
  unfolding entry_of file_in
  entry_bytes = unless_passed (entry_tests layout image directory place room) _ [] e ∙ rw (file_of_lem image i place entry_passed.1)

  pub entry_answers : ◌≡◌ {A = Entry} (record { answer = answer_of (entry_of layout image directory place room).number; row = entry_row layout image directory place room }) (record { answer = Done; row = row_is (file_of image i place) })
  unfolding entry_of entry_row answer_of
  entry_answers =
      let k = file_at image i place in
      rw (
        e,
        unless_passed (entry_tests layout image directory place room) (row_of (sector_of image k)) no_row e,
        file_of_lem image i place entry_passed.1,
        row_in layout image is k ((is.each i (directory_indexed layout image directory entry_passed.0)).descriptors place entry_passed.1),
      )

-- a reading of a named file that gave number 0: the file was found
record Read (layout : Layout) (image : List ℕ) (directory : ℕ) (name : List ℕ) (reading : ℕ → Report) : Type 0 where
  place : ℕ
  sector : ℕ
  opened : IsOpened layout image name (index_at layout image directory) place sector
  is : on_file (open_of layout image directory name) reading ≡ reading sector
  number : (reading sector).number ≡ 0

read_done : (layout : Layout) (image : List ℕ) (directory : ℕ) (name : List ℕ) (reading : ℕ → Report) → (on_file (open_of layout image directory name) reading).number ≡ 0 → Read layout image directory name reading
unfolding on_file
read_done layout image directory name reading = go (open_of layout image directory name) refl
  where
    go : (o : Opened) → open_of layout image directory name ≡ o → (on_file o reading).number ≡ 0 → Read layout image directory name reading
    go (At i p k) found e = let o = opened_at layout image directory name i p k found in record { place = p; sector = k; opened = rw o.0 o.1; is = rw found; number = e }
    go (Absent i) found e = absurd (omega (arith, e))
    go (Refused number) found e = absurd ((open_refused layout image directory name number found).1 e)
    go (Misnamed place) found e = absurd (omega (arith, e))

-- it is the file that the catalogue has under that name
opened_named : (layout : Layout) (image name : List ℕ) (i p k : ℕ) → IsOpened layout image name i p k → named name (catalogue image i) ≡ file_in image k
opened_named layout image name i p k o = named_file layout image i name k o.whole o.indexed (opened_listed layout image name i p k o) o.named

pub read_is : (layout : Layout) (image : List ℕ) (directory : ℕ) (name : List ℕ) (offset room : ℕ) → (read_of layout image directory name offset room).number ≡ 0
    → (read_of layout image directory name offset room).bytes ≡ get_or (named name (catalogue image (index_at layout image directory))).contents offset []
unfolding read_of reading read_tests Passed file_in
read_is layout image directory name offset room e =
    let r = read_done layout image directory name (reading image offset room) e in
    let k = r.sector in
    let tests = read_tests image offset room k in
    let inside = leb-false (sectors_of (sector_of image k)) offset (all_passed tests r.number).0 in
    rw (r.is, unless_passed tests (sector_of image (get_or (places_in image k) offset 0)) [] r.number, opened_named layout image name (index_at layout image directory) r.place k r.opened)
    (sym (content_at layout (sector_count image) image k r.opened.descriptor offset inside))

length_in_lem : (layout : Layout) (image : List ℕ) (k : ℕ) → IsDescriptor layout (sector_count image) (sector_of image k) → length_is (file_in image k) ≡ length_in image k
unfolding length_in file_in
length_in_lem layout image k is = rw (contents_count layout (sector_count image) image k is, header_at image k 16 (omega arith))

pub load_is : (layout : Layout) (image : List ℕ) (directory : ℕ) (name : List ℕ) (room : ℕ) → (load_of layout image directory name room).number ≡ 0 →
    let file = named name (catalogue image (index_at layout image directory)) in
    load_of layout image directory name room ≡ gives (length_is file) (take (length_is file) (joined file.contents))
unfolding load_of loading program_in file_in
load_is layout image directory name room e =
    let r = read_done layout image directory name (loading image room) e in
    let k = r.sector in
    rw (r.is, reported_given (load_tests image room k) (length_in image k) (program_in image k) r.number, opened_named layout image name (index_at layout image directory) r.place k r.opened, length_in_lem layout image k r.opened.descriptor)

pub listing_is : (layout : Layout) (image : List ℕ) (directory room : ℕ) → (listing_of layout image directory room).number ≡ 0 →
    let text = listing_text layout image (index_at layout image directory) in
    (index_at layout image directory ≡ 0 → ⊥) × (listing_of layout image directory room ≡ gives (length text) text)
unfolding listing_of listing_tests Passed
listing_is layout image directory room e =
    let text = listing_text layout image (index_at layout image directory) in
    let passed = (passed_both (volume_tests layout image) _ (all_passed (listing_tests layout image directory room) e)).1 in
    (eqb-false (index_at layout image directory) 0 passed.0, reported_given (listing_tests layout image directory room) (length text) text e)
