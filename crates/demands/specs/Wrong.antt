-- The wrong versions that the paper names for demand 2, each for any version of its kind: one that refuses always, one that answers the same always, one that does nothing, a free count that is
-- invented, and one that marks the first appended sector and only reports the later ones. Besides three that keep the catalogue right: a delete that wipes, a rename that moves data, an
-- append that takes another sector than the lowest.
use Rattle.std.specs.Prelude.{◌≡◌, List, [], ◌∷◌, ℕ, ◌≤◌, ◌<◌, length}
use Rattle.rules.specs.Sectors.{sector_of}
use Rattle.rules.specs.Map.{map_bit, count}
use Rattle.rules.specs.Volume.{index_at, files_in, name_in, places_in, catalogue}
use Rattle.rules.specs.Sound.{Sound}
use Rattle.rules.specs.declared.Layout.{Layout}
use Rattle.demands.specs.Catalogue.{named}
use Rattle.demands.specs.Call as call
use Rattle.demands.specs.Call.{Change, Call, Version, lent, number_of, change_rule}
use Rattle.demands.specs.Taking.{Free}
use Rattle.demands.specs.Demand2.{Demand2}

-- no call is answered with 0
unfoldable pub NeverDone : Version → Type 0
NeverDone version = (c : Call) (image : List ℕ) → number_of version c image ≡ 0 → ⊥

-- every call is answered with one number, whatever is written
pub record OneNumber (version : Version) : Type 0 where
  pub number : ℕ
  pub is : (c : Call) (image : List ℕ) → number_of version c image ≡ number

-- image and buffer stay as they were, whatever is answered
unfoldable pub DoesNothing : Version → Type 0
DoesNothing version = (c : Call) (image : List ℕ) → ((version c image).image ≡ image) × ((version c image).buffer ≡ lent c)

-- the free count does not depend on the volume
unfoldable pub InventsFree : Layout → Version → Type 0
InventsFree layout version =
    let counting = call.look call.free_count [] in
    (first second : List ℕ) → Sound layout first → Sound layout second → (version counting first).answer ≡ (version counting second).answer

-- an append to a file that has a sector is only reported
unfoldable pub OnlyReports : Layout → Version → Type 0
OnlyReports layout version =
    (image : List ℕ) (directory : ℕ) (name bytes : List ℕ) → Sound layout image → 1 ≤ length (named name (catalogue image (index_at layout image directory))).contents
    → (version (call.change directory name (call.append bytes)) image).image ≡ image

-- a change that was done, of the file whose descriptor is in sector k of a sound volume
pub record Instance (layout : Layout) (version : Version) (change : Change) : Type 0 where
  pub image : List ℕ
  pub directory : ℕ
  pub name : List ℕ
  pub k : ℕ
  pub sound : Sound (change_rule layout change) image
  pub listed : 1 ≤ count k (files_in image (index_at (change_rule layout change) image directory))
  pub is_named : name_in image k ≡ name
  pub done : number_of version (call.change directory name change) image ≡ 0

abbrev pub after : {layout : Layout} {version : Version} {change : Change} → Instance layout version change → List ℕ
after {layout} {version} {change} i = (version (call.change i.directory i.name change) i.image).image

-- a sector of a file that is deleted does not keep its bytes
pub record Wipes (layout : Layout) (version : Version) : Type 0 where
  pub some : Instance layout version call.delete
  pub sector : ℕ
  pub own : 1 ≤ count sector (some.k ∷ places_in some.image some.k)
  pub wiped : sector_of (after some) sector ≡ sector_of some.image sector → ⊥

-- a file that is renamed has other places than before
pub record MovesData (layout : Layout) (version : Version) : Type 0 where
  pub new : List ℕ
  pub some : Instance layout version (call.rename new)
  pub moved : places_in (after some) some.k ≡ places_in some.image some.k → ⊥

-- an append takes a sector though a lower one is free, both from 34 up
pub record TakesHigher (layout : Layout) (version : Version) : Type 0 where
  pub bytes : List ℕ
  pub some : Instance layout version (call.append bytes)
  pub lower : ℕ
  pub higher : ℕ
  pub order : (34 ≤ lower) × (lower < higher)
  pub lower_free : Free some.image [] lower
  pub higher_free : Free some.image [] higher
  pub taken : map_bit (sector_of (after some) 0) higher ≡ 1

-- demand 2 shuts each of them out
pub record WrongVersions (layout : Layout) : Type 0 where
  pub refuses_always : (version : Version) → NeverDone version → Demand2 layout version → ⊥
  pub answers_same : (version : Version) → OneNumber version → Demand2 layout version → ⊥
  pub does_nothing : (version : Version) → DoesNothing version → Demand2 layout version → ⊥
  pub invents_free : (version : Version) → InventsFree layout version → Demand2 layout version → ⊥
  pub only_reports : (version : Version) → OnlyReports layout version → Demand2 layout version → ⊥
  pub wipes : (version : Version) → Wipes layout version → Demand2 layout version → ⊥
  pub moves_data : (version : Version) → MovesData layout version → Demand2 layout version → ⊥
  pub takes_higher : (version : Version) → TakesHigher layout version → Demand2 layout version → ⊥
