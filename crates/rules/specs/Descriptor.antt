-- A descriptor: bytes 0-9 name, 12 status, 13 records per sector, 14-15 the number of sectors c, 16 end offset, 17 record length, 18-19 record count, 28-255 the chain. 10-11, 13 and 16-27 are carried and not judged, but for 16 where a program has no sectors.
use Rattle.std.specs.Prelude.{Bool, ◌&&◌, List, ◌∷◌, ◌++◌, ℕ, ◌+◌, ◌*◌, replicate, set}
use Rattle.rules.specs.Bytes.{byte_at, word_at, word_bytes, part, splice}
use Rattle.rules.specs.Name.{name_rule, IsName}
use Rattle.rules.specs.Chain.{chain_rule, blocks_bytes, IsChain}
use Rattle.rules.specs.Kind.{allowed_bits, status_rule, marking, kind_of, kind_rule, IsStatus, IsKind}
use Rattle.rules.specs.declared.Layout.{Layout}
use Rattle.rules.specs.declared.Block.{Block}
use Rattle.rules.specs.declared.Kind.{Kind}

unfoldable pub name_of : List ℕ → List ℕ
name_of descriptor = part descriptor 0 10

abbrev pub status_of : List ℕ → ℕ
status_of descriptor = byte_at descriptor 12

abbrev pub sectors_of : List ℕ → ℕ
sectors_of descriptor = word_at descriptor 14

-- the record count, low byte first
unfoldable pub record_count_of : List ℕ → ℕ
record_count_of descriptor = byte_at descriptor 18 + 256 * byte_at descriptor 19

-- the 228 bytes from byte 28 on are handed to the chain rules as they stand
unfoldable pub chain_of : List ℕ → List ℕ
chain_of descriptor = part descriptor 28 228

unfoldable pub file_kind : List ℕ → Kind
file_kind descriptor = kind_of (status_of descriptor) (sectors_of descriptor) (byte_at descriptor 16) (byte_at descriptor 17)

unfoldable pub descriptor_rule : Layout → ℕ → List ℕ → Bool
descriptor_rule layout n descriptor =
    name_rule (name_of descriptor)
    && (status_rule (allowed_bits layout) (status_of descriptor)
    && (kind_rule (file_kind descriptor) (sectors_of descriptor) (byte_at descriptor 16) && chain_rule n (sectors_of descriptor) (chain_of descriptor)))

-- a new descriptor, of a file without sectors: these fields are given, all other bytes are zero
unfoldable pub new_descriptor : List ℕ → ℕ → ℕ → ℕ → ℕ → List ℕ
new_descriptor name status records_per_sector end_offset record_length =
    name ++ (0 ∷ (0 ∷ (status ∷ (records_per_sector ∷ (0 ∷ (0 ∷ (end_offset ∷ (record_length ∷ replicate 238 0))))))))

-- a descriptor with its number of sectors and its chain changed
unfoldable pub with_chain : List ℕ → ℕ → List Block → List ℕ
with_chain descriptor c bs = splice (splice descriptor 14 (word_bytes c)) 28 (blocks_bytes bs)

-- a descriptor of a file that a call changes, with its status marked by the rule
unfoldable pub marked_by : Layout → List ℕ → List ℕ
marked_by layout descriptor = set descriptor 12 (marking layout (status_of descriptor))

-- The same as facts.
pub record IsDescriptor (layout : Layout) (n : ℕ) (descriptor : List ℕ) : Type 0 where
  pub name : IsName (name_of descriptor)
  pub status : IsStatus (allowed_bits layout) (status_of descriptor)
  pub kind : IsKind (file_kind descriptor) (sectors_of descriptor) (byte_at descriptor 16)
  pub chain : IsChain n (sectors_of descriptor) (chain_of descriptor)
