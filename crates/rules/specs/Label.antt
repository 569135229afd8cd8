-- Sector 0, bytes 0 to 55: the disk name, n, "DSK". Bytes 12 and 16 to 55 are carried and not judged.
use Rattle.std.specs.Prelude.{◌≡◌, Bool, ◌&&◌, List, ℕ, eqb}
use Rattle.rules.specs.Bytes.{byte_at, word_at, part}
use Rattle.rules.specs.Name.{name_rule, IsName}

unfoldable pub label_rule : ℕ → List ℕ → Bool
label_rule n sector0 =
    name_rule (part sector0 0 10)
    && (eqb (word_at sector0 10) n && (eqb (byte_at sector0 13) 0x44 && (eqb (byte_at sector0 14) 0x53 && eqb (byte_at sector0 15) 0x4B)))

-- The same as facts.
pub record IsLabel (n : ℕ) (sector0 : List ℕ) : Type 0 where
  pub name : IsName (part sector0 0 10)
  pub count : word_at sector0 10 ≡ n
  pub dsk : (byte_at sector0 13 ≡ 0x44) × (byte_at sector0 14 ≡ 0x53) × (byte_at sector0 15 ≡ 0x4B)
