-- The indexes of an image; the files of each, by the sectors of their descriptors and in the order of the index; and the holders.
use Rattle.std.specs.Prelude.{Bool, true, cond, ◌&&◌, List, [], ◌∷◌, ◌++◌, map, ℕ, eqb, get_or}
use Rattle.rules.specs.Bytes.{part}
use Rattle.rules.specs.Sectors.{sector_of}
use Rattle.rules.specs.Name.{precedes}
use Rattle.rules.specs.Chain.{places}
use Rattle.rules.specs.Descriptor.{name_of, chain_of}
use Rattle.rules.specs.Index.{numbers}
use Rattle.rules.specs.Directory.{entries, entry_index}
use Rattle.rules.specs.declared.Layout.{Layout}

-- the sectors of the indexes by the directories' numbers: the root, 0, has sector 1; an absent entry has 0
unfoldable pub directories : Layout → List ℕ → List ℕ
directories layout image = 1 ∷ map entry_index (entries layout (sector_of image 0))

-- the index of a directory, or 0 where there is none of that number
unfoldable pub index_at : Layout → List ℕ → ℕ → ℕ
index_at layout image directory = get_or (directories layout image) directory 0

-- those that are there
unfoldable pub present : List ℕ → List ℕ
present [] = []
present (i ∷ is) = cond (eqb i 0) (present is) (i ∷ present is)

-- the sectors of all indexes: the root's, then those of the entries that are there
unfoldable pub indexes : Layout → List ℕ → List ℕ
indexes layout image = present (directories layout image)

-- a test of every one of them
unfoldable pub every : (ℕ → Bool) → List ℕ → Bool
every test [] = true
every test (i ∷ is) = test i && every test is

-- the files of the index in sector i, and those of several indexes, one after the other
unfoldable pub files_in : List ℕ → ℕ → List ℕ
files_in image i = numbers (sector_of image i)

unfoldable pub files_of : List ℕ → List ℕ → List ℕ
files_of image [] = []
files_of image (i ∷ is) = files_in image i ++ files_of image is

-- the name, and the places, of the file whose descriptor is in sector k
unfoldable pub name_in : List ℕ → ℕ → List ℕ
name_in image k = name_of (sector_of image k)

unfoldable pub places_in : List ℕ → ℕ → List ℕ
places_in image k = places (chain_of (sector_of image k))

-- each number in an index holds its descriptor's sector, each place of a file holds its sector
unfoldable pub file_holders : List ℕ → List ℕ → List ℕ
file_holders image [] = []
file_holders image (k ∷ ks) = k ∷ (places_in image k ++ file_holders image ks)

-- the map's holders are sector 0, the indexes and these
unfoldable pub holders : Layout → List ℕ → List ℕ
holders layout image = 0 ∷ (indexes layout image ++ file_holders image (files_of image (indexes layout image)))

-- the number k put in among the files ks, so that a file of that name stands in name order
unfoldable pub placed : List ℕ → List ℕ → ℕ → List ℕ → List ℕ
placed image name k [] = k ∷ []
placed image name k (j ∷ js) = cond (precedes name (name_in image j)) (k ∷ (j ∷ js)) (j ∷ placed image name k js)

-- what the catalogue holds of a file: its 28 header bytes, and the contents of its sectors in order
pub record File : Type 0 where
  pub header : List ℕ
  pub contents : List (List ℕ)

unfoldable pub header_in : List ℕ → ℕ → List ℕ
header_in image k = part (sector_of image k) 0 28

unfoldable pub contents_in : List ℕ → ℕ → List (List ℕ)
contents_in image k = map (sector_of image) (places_in image k)

unfoldable pub file_in : List ℕ → ℕ → File
file_in image k = record { header = header_in image k; contents = contents_in image k }

-- the catalogue of the index in sector i, in name order; and the catalogues of the root and of each entry that is there
unfoldable pub catalogue : List ℕ → ℕ → List File
catalogue image i = map (file_in image) (files_in image i)

unfoldable pub catalogues : Layout → List ℕ → List (List File)
catalogues layout image = map (catalogue image) (indexes layout image)
