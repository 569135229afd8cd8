-- What a change that was done leaves: a sound volume, the label, every other index and all other files as they stood, the catalogue of the directory with just the change asked for, and the free count
-- less what was taken and more what was given back.
use Rattle.std.specs.Prelude.{◌≡◌, List, [], ◌∷◌, ◌++◌, ℕ, zero, suc, ◌+◌, ◌/◌, ◌%◌, ◌≤◌, ◌<◌, length, drop, set, replicate}
use Rattle.rules.specs.Bytes.{byte_at, word_bytes, with_bit, over, splice}
use Rattle.rules.specs.Sectors.{sector_of}
use Rattle.rules.specs.Map.{count, free_count}
use Rattle.rules.specs.Volume.{File, index_at, files_in, name_in, places_in, catalogue}
use Rattle.rules.specs.Sound.{IsIndexed, Sound}
use Rattle.rules.specs.Kind.{sectors_for, marking}
use Rattle.rules.specs.declared.Layout.{Layout}
use Rattle.demands.specs.Catalogue.{put_in, taken_out, changed, named, held}
use Rattle.demands.specs.Call as call
use Rattle.demands.specs.Call.{Change}

-- a file that index j lists, and that is not the one of that name in index i
pub record Another (layout : Layout) (image : List ℕ) (i : ℕ) (name : List ℕ) (j k : ℕ) : Type 0 where
  pub indexed : IsIndexed layout image j
  pub listed : 1 ≤ count k (files_in image j)
  pub other : j ≡ i → name_in image k ≡ name → ⊥

-- bytes 0 to 55 of sector 0, the entries of directories among them; every other index; and every other file, of this index and of the others: it is listed, its descriptor and the sectors of its data as they stood
pub record Kept (layout : Layout) (image after : List ℕ) (i : ℕ) (name : List ℕ) : Type 0 where
  pub label : (b : ℕ) → b < 56 → byte_at (sector_of after 0) b ≡ byte_at (sector_of image 0) b
  pub index : (j : ℕ) → IsIndexed layout image j → (j ≡ i → ⊥) → sector_of after j ≡ sector_of image j
  pub listed : (j k : ℕ) → Another layout image i name j k → 1 ≤ count k (files_in after j)
  pub descriptor : (j k : ℕ) → Another layout image i name j k → sector_of after k ≡ sector_of image k
  pub contents : (j k p : ℕ) → Another layout image i name j k → 1 ≤ count p (places_in image k) → sector_of after p ≡ sector_of image p

-- what a change asks for: the catalogue afterwards, how many sectors are taken, how many are given back
pub record Effect : Type 0 where
  pub expected : List File
  pub took : ℕ
  pub gave : ℕ

abbrev pub effect : (expected : List File) (took gave : ℕ) → Effect
effect expected took gave = record { expected = expected; took = took; gave = gave }

-- what a change of the file of that name in index i leaves where it was done
pub record Done (layout : Layout) (image after : List ℕ) (i : ℕ) (name : List ℕ) (effect : Effect) : Type 0 where
  pub sound : Sound layout after
  pub size : length after ≡ length image
  pub kept : Kept layout image after i name
  pub catalogue_is : catalogue after i ≡ effect.expected
  pub free : free_count (sector_of after 0) + effect.took ≡ free_count (sector_of image 0) + effect.gave

-- the 28 header bytes of a new file
unfoldable pub new_header : List ℕ → ℕ → ℕ → ℕ → ℕ → ℕ → List ℕ
new_header name status records_per_sector c end_offset record_length =
    name ++ (0 ∷ (0 ∷ (status ∷ (records_per_sector ∷ ((c / 256) ∷ ((c % 256) ∷ (end_offset ∷ (record_length ∷ replicate 10 0))))))))

-- `many` sectors of these bytes, and zeros where there are no more
unfoldable pub pieces : ℕ → List ℕ → List (List ℕ)
pieces zero bytes = []
pieces (suc many) bytes = over (replicate 256 0) bytes ∷ pieces many (drop 256 bytes)

abbrev pub new_program : Layout → List ℕ → List ℕ → File
new_program layout name bytes =
    let c = sectors_for (length bytes) in
    record { header = new_header name (marking layout 0x01) 0 c (length bytes % 256) 0; contents = pieces c bytes }

-- a file that a call changes: by the rule with marks it is marked
unfoldable pub marked_file : Layout → File → File
marked_file layout file = record { header = set file.header 12 (marking layout (byte_at file.header 12)); contents = file.contents }

-- a file with a sector more at its end
unfoldable pub longer : List ℕ → File → File
longer bytes file = record { header = splice file.header 14 (word_bytes (length file.contents + 1)); contents = file.contents ++ (bytes ∷ []) }

-- with other bytes in a sector
unfoldable pub overwritten : ℕ → List ℕ → File → File
overwritten offset bytes file = record { header = file.header; contents = set file.contents offset bytes }

-- with bit j of its status made `bit`: 3 is the protection, 4 the mark
unfoldable pub with_status : (j bit : ℕ) → File → File
with_status j bit file = record { header = set file.header 12 (with_bit (byte_at file.header 12) j bit); contents = file.contents }

-- under another name
unfoldable pub renamed : List ℕ → File → File
renamed name file = record { header = splice file.header 0 name; contents = file.contents }

-- on the files of a catalogue: create and store put a file in; append, overwrite, protect, unprotect and clear change the one of that name; delete takes it out; rename takes it out and puts it in anew. By the rule with marks create, store, append, overwrite and rename mark it
abbrev pub effect_of : Layout → Change → (name : List ℕ) → List File → Effect
effect_of layout (call.create status record_length records_per_sector) name files =
    effect (put_in (record { header = new_header name (marking layout status) records_per_sector 0 0 record_length; contents = [] }) files) 1 0
effect_of layout (call.store bytes) name files = effect (put_in (new_program layout name bytes) files) (1 + sectors_for (length bytes)) 0
effect_of layout (call.append bytes) name files = effect (changed name (λ file. longer bytes (marked_file layout file)) files) 1 0
effect_of layout (call.overwrite offset bytes) name files = effect (changed name (λ file. overwritten offset bytes (marked_file layout file)) files) 0 0
effect_of layout call.protect name files = effect (changed name (with_status 3 1) files) 0 0
effect_of layout call.unprotect name files = effect (changed name (with_status 3 0) files) 0 0
effect_of layout call.clear name files = effect (changed name (with_status 4 0) files) 0 0
effect_of layout call.delete name files = effect (taken_out name files) 0 (held (named name files))
effect_of layout (call.rename new) name files = effect (put_in (renamed new (marked_file layout (named name files))) (taken_out name files)) 0 0

-- in the directory of that number
abbrev pub Changed : Layout → Change → (image after : List ℕ) (directory : ℕ) (name : List ℕ) → Type 0
Changed layout change image after directory name =
    let i = index_at layout image directory in
    Done layout image after i name (effect_of layout change name (catalogue image i))
