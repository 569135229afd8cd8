-- Directories: sector 0, bytes 20 to 55, may carry three entries, each ten name bytes and the index sector's number; an absent one is twelve zeros. In the second edition each index sector is from 2 to n - 1, and directory names keep the name rule and differ. The first edition reads these bytes as carried: it has no entries.
use Rattle.std.specs.Prelude.{◌≡◌, ◌⊎◌, Bool, true, false, not, cond, ◌&&◌, ◌||◌, List, [], ◌∷◌, ℕ, ◌≤◌, ◌<◌, leb, ltb, length, get_or}
use Rattle.rules.specs.Bytes.{byte_at, word_at, part, all_are, same}
use Rattle.rules.specs.Name.{name_rule, IsName}
use Rattle.rules.specs.declared.Layout.{Layout}

unfoldable pub entries : Layout → List ℕ → List (List ℕ)
entries layout sector0 = cond layout.directories (part sector0 20 12 ∷ (part sector0 32 12 ∷ (part sector0 44 12 ∷ []))) []

unfoldable pub entry_name : List ℕ → List ℕ
entry_name entry = part entry 0 10

abbrev pub entry_index : List ℕ → ℕ
entry_index entry = word_at entry 10

unfoldable pub is_absent : List ℕ → Bool
is_absent entry = all_are 0 entry

-- whether one of the entries has that name
unfoldable pub is_named : List ℕ → List (List ℕ) → Bool
is_named name [] = false
is_named name (entry ∷ more) = same name (entry_name entry) || is_named name more

-- of an entry that is there: its name, its index sector, and that none of those after it has the name
unfoldable pub entry_rule : ℕ → List ℕ → List (List ℕ) → Bool
entry_rule n entry more =
    name_rule (entry_name entry) && (leb 2 (entry_index entry) && (ltb (entry_index entry) n && not (is_named (entry_name entry) more)))

unfoldable pub entries_rule : ℕ → List (List ℕ) → Bool
entries_rule n [] = true
entries_rule n (entry ∷ more) = (is_absent entry || entry_rule n entry more) && entries_rule n more

-- The same as facts.
pub record IsEntry (n : ℕ) (entry : List ℕ) : Type 0 where
  pub name : IsName (entry_name entry)
  pub range : (2 ≤ entry_index entry) × (entry_index entry < n)

abbrev pub IsAbsent : List ℕ → Type 0
IsAbsent entry = (i : ℕ) → byte_at entry i ≡ 0

pub record AreEntries (n : ℕ) (es : List (List ℕ)) : Type 0 where
  pub each : (d : ℕ) → d < length es → IsAbsent (get_or es d []) ⊎ IsEntry n (get_or es d [])
  pub differ : (d e : ℕ) → d < e → e < length es → IsEntry n (get_or es d []) → entry_name (get_or es d []) ≡ entry_name (get_or es e []) → ⊥
