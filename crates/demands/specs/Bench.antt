-- The bench cases of the paper that are proved of the rules, one table under one statement: what the rules compute is what the paper prints.
use Rattle.std.specs.Prelude.{◌≡◌, List, [], ◌∷◌, ◌++◌, ℕ, ◌<◌, length, replicate, get_or}
use Rattle.rules.specs.Bytes.{byte_at, part}
use Rattle.rules.specs.Chain.{block_bytes}
use Rattle.rules.specs.Sectors.{sector_of, sector_count}
use Rattle.rules.specs.Calls.Pack.{label_area, packed}
use Rattle.rules.specs.Map.{free_count}
use Rattle.rules.specs.Descriptor.{sectors_of}
use Rattle.rules.specs.Volume.{files_in, name_in, places_in, catalogues}
use Rattle.rules.specs.Calls.Format.{Geometry, formatted}
use Rattle.rules.specs.declared.Layout.{Layout}
use Rattle.demands.specs.CaseM.{alpha, notes, case_m}

-- a case: its number in the paper, what the rules compute, and what the paper prints
pub record Case : Type 0 where
  pub number : ℕ
  pub computed : List ℕ
  pub printed : List ℕ

abbrev case : ℕ → List ℕ → List ℕ → Case
case number computed printed = record { number = number; computed = computed; printed = printed }

-- sector 0 of a volume of n sectors, just formatted, named X
abbrev pub disk_x : List ℕ
disk_x = 0x58 ∷ replicate 9 32

abbrev pub geometry : Geometry
geometry = record { sectors_per_track = 9; tracks = 40; sides = 1; density = 1 }

abbrev pub empty : ℕ → List ℕ
empty n = sector_of (formatted n disk_x geometry) 0

-- an image packed
abbrev packed_of : Layout → List ℕ → List ℕ
packed_of layout image = packed layout (sector_count image) (label_area layout image) (catalogues layout image)

-- the cases, with the sector 0 of an empty volume of 35 sectors and of one of 360, and case M
unfoldable pub table_of : Layout → List ℕ → List ℕ → List ℕ → List Case
table_of layout empty35 empty360 m =
    case 1 (block_bytes (record { start = 34; last = 0 })) (0x22 ∷ (0x00 ∷ (0x00 ∷ [])))
    ∷ (case 2 (block_bytes (record { start = 34; last = 19 })) (0x22 ∷ (0x30 ∷ (0x01 ∷ [])))
    ∷ (case 3 (block_bytes (record { start = 1599; last = 1597 })) (0x3F ∷ (0xD6 ∷ (0x63 ∷ [])))
    ∷ (case 4 (byte_at empty35 56 ∷ (byte_at empty35 60 ∷ (free_count empty35 ∷ []))) (0x03 ∷ (0xF8 ∷ (33 ∷ [])))
    ∷ (case 5 (part empty360 57 44 ++ part empty360 101 155) (replicate 44 0x00 ++ replicate 155 0xFF)
    ∷ (case 6 (files_in m 1 ++ (name_in m 2 ++ (part (sector_of m 2) 28 3 ++ (name_in m 3 ++ places_in m 3)))) (2 ∷ (3 ∷ (alpha ++ ((0x22 ∷ (0x10 ∷ (0x00 ∷ []))) ++ (notes ++ (36 ∷ []))))))
    ∷ (case 7 (byte_at (sector_of m 0) 56 ∷ (byte_at (sector_of m 0) 60 ∷ [])) (0x0F ∷ (0x1C ∷ []))
    ∷ (case 8 (part (sector_of (packed_of layout m) 2) 28 3 ++ (part (sector_of (packed_of layout m) 3) 28 3 ++ (byte_at (sector_of (packed_of layout m) 0) 56 ∷ []))) (0x04 ∷ (0x10 ∷ (0x00 ∷ (0x06 ∷ (0x00 ∷ (0x00 ∷ (0x7F ∷ [])))))))
    ∷ (case 9 (sectors_of (sector_of m 2) ∷ (byte_at (sector_of m 2) 16 ∷ [])) (2 ∷ (44 ∷ [])) ∷ []))))))))

unfoldable pub table : Layout → List Case
table layout = table_of layout (empty 35) (empty 360) (case_m layout)

-- the statement: each case of the table, by its place in it
unfoldable pub Bench : Layout → Type 0
Bench layout = (p : ℕ) → p < length (table layout) → (get_or (table layout) p (case 0 [] [])).computed ≡ (get_or (table layout) p (case 0 [] [])).printed
