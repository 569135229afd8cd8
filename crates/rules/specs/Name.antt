-- Names: 1 to 10 bytes, each 33 to 126 but not 46 (the dot), then spaces (32) to ten. They compare as ten unsigned bytes.
use Rattle.std.specs.Prelude.{◌≡◌, Bool, true, false, not, cond, ◌&&◌, List, [], ◌∷◌, ◌⊎◌, ℕ, ◌+◌, ◌≤◌, ◌<◌, eqb, leb, ltb, length, Option, None, Some}
use Rattle.rules.specs.Bytes.{byte_at, all_are}

unfoldable pub name_byte : ℕ → Bool
name_byte b = leb 33 b && (leb b 126 && not (eqb b 46))

-- bytes of a name, then spaces
unfoldable pub padded : List ℕ → Bool
padded [] = true
padded (b ∷ bytes) = cond (eqb b 32) (all_are 32 bytes) (name_byte b && padded bytes)

unfoldable pub name_rule : List ℕ → Bool
name_rule name = eqb (length name) 10 && (name_byte (byte_at name 0) && padded name)

-- the place of the first wrong byte among those from place i on; one that is no space is wrong where a space came before it
unfoldable pub wrong_from : Bool → ℕ → List ℕ → Option ℕ
wrong_from spaced i [] = None
wrong_from spaced i (b ∷ bytes) =
    cond (eqb b 32) (wrong_from true (i + 1) bytes) (cond (not spaced && name_byte b) (wrong_from false (i + 1) bytes) (Some i))

-- where a name breaks the rule: a blank one at 0; one that is not lent as ten bytes at 10
unfoldable pub wrong_place : List ℕ → Option ℕ
wrong_place name = cond (eqb (length name) 10) (cond (all_are 32 name) (Some 0) (wrong_from false 0 name)) (Some 10)

-- the order of names: by the first byte that differs
unfoldable pub precedes : List ℕ → List ℕ → Bool
precedes [] [] = false
precedes [] (b ∷ second) = true
precedes (a ∷ first) [] = false
precedes (a ∷ first) (b ∷ second) = cond (eqb a b) (precedes first second) (ltb a b)

-- The same as facts.
pub record IsNameByte (b : ℕ) : Type 0 where
  pub printable : (33 ≤ b) × (b ≤ 126)
  pub undotted : b ≡ 46 → ⊥

pub record IsName (name : List ℕ) : Type 0 where
  pub ten : length name ≡ 10
  pub used : ℕ
  pub some : (1 ≤ used) × (used ≤ 10)
  pub bytes : (i : ℕ) → i < used → IsNameByte (byte_at name i)
  pub spaces : (i : ℕ) → used ≤ i → i < 10 → byte_at name i ≡ 32

-- a space before a place
pub record SpaceBefore (name : List ℕ) (place : ℕ) : Type 0 where
  pub earlier : ℕ
  pub before : earlier < place
  pub space : byte_at name earlier ≡ 32

-- a wrong byte: it is no space, and it is no byte of a name or a space came before it
pub record WrongByte (name : List ℕ) (place : ℕ) : Type 0 where
  pub solid : byte_at name place ≡ 32 → ⊥
  pub wrong : (IsNameByte (byte_at name place) → ⊥) ⊎ SpaceBefore name place

-- a name is wrong at a place: it has the first wrong byte there, is blank, or is not lent as ten bytes
pub data WrongAt (name : List ℕ) (place : ℕ) : Type 0 where
  first : length name ≡ 10 → place < 10 → WrongByte name place → ((i : ℕ) → i < place → WrongByte name i → ⊥) → WrongAt name place
  blank : length name ≡ 10 → ((i : ℕ) → i < 10 → byte_at name i ≡ 32) → place ≡ 0 → WrongAt name place
  unlent : (length name ≡ 10 → ⊥) → place ≡ 10 → WrongAt name place

-- at some place the first name has the lower byte, and before it both are equal
pub record Before (first second : List ℕ) : Type 0 where
  pub place : ℕ
  pub inside : (place < length first) × (place < length second)
  pub equal : (i : ℕ) → i < place → byte_at first i ≡ byte_at second i
  pub lower : byte_at first place < byte_at second place
