-- Packing: the one laid down form, a function of n, the label area and the catalogues alone. Packing keeps sector 0 bytes 0-55, but for the index sectors of directories: these go from sector 2 on in the order of the entries, and their new numbers are put into the entries. Then come the descriptors, the root's first, in name order, with bytes 0-27 kept; data follows in the same order without a gap; a file with sectors has one block; unused blocks and index places are zero; free sectors are all E5 hex. With f files and no directories, descriptors go to sectors 2 to f + 1 and data follows from sector f + 2.
use Rattle.std.specs.Prelude.{cond, not, List, [], ◌∷◌, ◌++◌, ℕ, zero, suc, ◌+◌, ◌-◌, ◌*◌, eqb, length, replicate}
use Rattle.rules.specs.Bytes.{word_bytes, part, over, splice}
use Rattle.rules.specs.Sectors.{sector_of, sector_count, joined}
use Rattle.rules.specs.Map.{map_of}
use Rattle.rules.specs.Chain.{run, blocks_bytes}
use Rattle.rules.specs.Index.{index_of}
use Rattle.rules.specs.Directory.{entries, is_absent}
use Rattle.rules.specs.Volume.{File, catalogues}
use Rattle.rules.specs.Tests.{Test, refuse, first_of, unless_met}
use Rattle.rules.specs.Verdict.{volume_tests}
use Rattle.rules.specs.declared.Layout.{Layout}
use Rattle.rules.specs.declared.Block.{Block}

-- a label with those index sectors in its entries, the first from byte `at` on
unfoldable pub with_indexes : List ℕ → ℕ → List ℕ → List ℕ
with_indexes label at [] = label
with_indexes label at (i ∷ is) = with_indexes (splice label at (word_bytes i)) (at + 12) is

-- bytes 0 to 55 of sector 0, without the index sectors: zeros are in their places
unfoldable pub label_area : Layout → List ℕ → List ℕ
label_area layout image = with_indexes (part (sector_of image 0) 0 56) 30 (replicate (length (entries layout (sector_of image 0))) 0)

-- index sectors for entries, from sector i on; an absent entry has none
unfoldable pub new_indexes : ℕ → List (List ℕ) → List ℕ
new_indexes i [] = []
new_indexes i (entry ∷ more) = cond (is_absent entry) (0 ∷ new_indexes i more) (i ∷ new_indexes (i + 1) more)

unfoldable pub packed_label : Layout → List ℕ → List ℕ
packed_label layout label = with_indexes label 30 (new_indexes 2 (entries layout label))

-- one block for a file of c sectors, from sector s on
unfoldable pub one_block : ℕ → ℕ → List Block
one_block s zero = []
one_block s (suc c) = record { start = s; last = c } ∷ []

unfoldable pub packed_descriptor : ℕ → File → List ℕ
packed_descriptor s file = file.header ++ over (replicate 228 0) (blocks_bytes (one_block s (length file.contents)))

-- the descriptors one after another, the data of the first from sector s on
unfoldable pub packed_descriptors : ℕ → List File → List ℕ
packed_descriptors s [] = []
packed_descriptors s (file ∷ more) = packed_descriptor s file ++ packed_descriptors (s + length file.contents) more

-- the data of all files one after another, and its sectors
unfoldable pub packed_data : List File → List ℕ
packed_data [] = []
packed_data (file ∷ more) = joined file.contents ++ packed_data more

unfoldable pub data_sectors : List File → ℕ
data_sectors [] = 0
data_sectors (file ∷ more) = length file.contents + data_sectors more

-- the files of all catalogues, the root's first
unfoldable pub together : List (List File) → List File
together [] = []
together (files ∷ more) = files ++ together more

-- the indexes one after another, the descriptors of the first from sector s on
unfoldable pub packed_indexes : ℕ → List (List File) → List ℕ
packed_indexes s [] = []
packed_indexes s (files ∷ more) = index_of (run s (length files)) ++ packed_indexes (s + length files) more

-- how many sectors are held: sector 0, the indexes, the descriptors, the data
unfoldable pub packed_sectors : List (List File) → ℕ
packed_sectors all = 1 + length all + length (together all) + data_sectors (together all)

-- of the label area and the catalogues: sector 1 is the root's index, and those of the directories follow it
unfoldable pub packed : Layout → ℕ → List ℕ → List (List File) → List ℕ
packed layout n label all =
    let files = together all in
    let first = 1 + length all in
    packed_label layout label
    ++ (map_of n (run 0 (packed_sectors all))
    ++ (packed_indexes first all
    ++ (packed_descriptors (first + length files) files ++ (packed_data files ++ replicate (256 * (n - packed_sectors all)) 0xE5))))

-- the call: 1 to 6 of the source, then 15 for a target of another length; the target's old bytes do not matter
unfoldable pub pack_tests : Layout → List ℕ → List ℕ → List Test
pack_tests layout source target = volume_tests layout source ++ (refuse 15 (not (eqb (length target) (length source))) ∷ [])

abbrev pub pack_number : Layout → List ℕ → List ℕ → ℕ
pack_number layout source target = first_of (pack_tests layout source target)

-- the whole target afterwards
unfoldable pub after_pack : Layout → List ℕ → List ℕ → List ℕ
after_pack layout source target = unless_met (pack_tests layout source target) (packed layout (sector_count source) (label_area layout source) (catalogues layout source)) target
