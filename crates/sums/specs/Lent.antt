-- What the clauses say of a table in arrays that were lent: its places, by the lists that stand in them, and that the arrays are the same.
use Rattle.std.specs.Prelude.{◌≡◌, Bool, List, ℕ, Option, unwrap_or, length}
use Rattle.sums.specs.Table as lists
use Rattle.sums.specs.declared.table.Table.{Table}
use Rattle.sums.specs.declared.table.Places.{Places}

-- every place that was entered is below `next`
abbrev pub AllBelow : Table → ℕ → Type 0
AllBelow table next = lists.Table table.last.now next

-- all places under a sum
abbrev pub places_of : Table → (sum : ℕ) → List ℕ
places_of table sum = lists.under sum table.last.now table.earlier.now table.sums.now

-- the places with this sum, from one on by the links
abbrev pub places_on : Table → (sum : ℕ) → Option ℕ → List ℕ
places_on table sum start = let place = unwrap_or start 0 in lists.chain sum table.earlier.now table.sums.now place place

-- what a walk that has come to a place under the sum still meets: this place and those behind it
abbrev pub places_from : Table → (sum : ℕ) → Option ℕ → List ℕ
places_from table sum place = lists.walk (unwrap_or place 0) sum table.earlier.now table.sums.now

-- what is left of a walk: the places with its sum, from where it goes on
abbrev pub places_left : Places → List ℕ
places_left walk = places_on walk.table.now walk.sum walk.from

-- a place entered under a sum
abbrev pub EnteredInto : (old new : Table) (place sum : ℕ) (done : Bool) → Type 0
EnteredInto old new place sum done = lists.Entered place sum done old.last.now old.earlier.now old.sums.now new.last.now new.earlier.now new.sums.now

-- the arrays are those that were lent before, and as long
pub record SameArrays (old new : Table) : Type 0 where
  pub last : new.last.ghost_name ≡ old.last.ghost_name
  pub earlier : new.earlier.ghost_name ≡ old.earlier.ghost_name
  pub sums : new.sums.ghost_name ≡ old.sums.ghost_name
  pub buckets : length new.last.now ≡ length old.last.now
  pub links : length new.earlier.now ≡ length old.earlier.now
  pub places : length new.sums.now ≡ length old.sums.now
