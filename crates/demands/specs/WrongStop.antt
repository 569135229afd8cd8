-- Versions that the emergency stop shuts out, each for any version of its kind: one that writes the index before the descriptor, a delete that clears the map first and is not repaired, a repair that drops files, and a
-- repair that does nothing.
use Rattle.std.specs.Prelude.{◌≡◌, List, [], ◌∷◌, ℕ, ◌≤◌, ◌<◌, length, take}
use Rattle.rules.specs.Sectors.{sector_of, sector_count}
use Rattle.rules.specs.Map.{map_bit, count}
use Rattle.rules.specs.Descriptor.{IsDescriptor}
use Rattle.rules.specs.Volume.{index_at, files_in, catalogues}
use Rattle.rules.specs.Sound.{IsIndexed, Sound}
use Rattle.rules.specs.Calls.Pack.{together}
use Rattle.rules.specs.declared.Layout.{Layout}
use Rattle.demands.specs.Call as call
use Rattle.demands.specs.Call.{Change, Result, Version, form_of, number_of}
use Rattle.demands.specs.Stop.{cut, Stop}

-- a change that was done on a sound volume, in the directory whose index is in sector i
pub record Made (layout : Layout) (version : Version) (change : Change) : Type 0 where
  pub directory : ℕ
  pub name : List ℕ
  pub image : List ℕ
  pub sound : Sound layout image
  pub indexed : IsIndexed layout image (index_at layout image directory)
  pub done : number_of version (call.change directory name change) image ≡ 0

abbrev pub index : {layout : Layout} {version : Version} {change : Change} → Made layout version change → ℕ
index {layout} made = index_at layout made.image made.directory

abbrev pub made : {layout : Layout} {version : Version} {change : Change} → (m : Made layout version change) → Result (form_of (call.change m.directory m.name change))
made {layout} {version} {change} m = version (call.change m.directory m.name change) m.image

-- after some of its writes the index is written, which lists the new file, and the descriptor, in sector k, is not; and what stands there is none
pub record IndexFirst (layout : Layout) (version : Version) : Type 0 where
  pub status : ℕ
  pub record_length : ℕ
  pub records_per_sector : ℕ
  pub some : Made layout version (call.create status record_length records_per_sector)
  pub k : ℕ
  pub lists : 1 ≤ count k (files_in (made some).image (index some))
  pub none_there : IsDescriptor layout (sector_count some.image) (sector_of some.image k) → ⊥
  pub many : ℕ
  pub written : 1 ≤ count (index some) (take many (made some).order)
  pub unwritten : count k (take many (made some).order) ≡ 0

-- the first write of a delete is sector 0, in which a sector of the file is free; and repair leaves what is then on the medium as it is
pub record MapFirst (layout : Layout) (version : Version) : Type 0 where
  pub some : Made layout version call.delete
  pub k : ℕ
  pub listed : 1 ≤ count k (files_in some.image (index some))
  pub cleared : map_bit (sector_of (made some).image 0) k ≡ 0
  pub first : (made some).order ≡ 0 ∷ (index some ∷ [])
  pub unrepaired : let medium = cut some.image (made some) 1 in (version call.repair medium).image ≡ medium

-- of a sound volume there are fewer files after a repair
pub record DropsFiles (layout : Layout) (version : Version) : Type 0 where
  pub image : List ℕ
  pub sound : Sound layout image
  pub fewer : length (together (catalogues layout (version call.repair image).image)) < length (together (catalogues layout image))

-- repair leaves every image as it is, whatever it answers
unfoldable pub RepairsNothing : Version → Type 0
RepairsNothing version = (image : List ℕ) → (version call.repair image).image ≡ image

pub record WrongStops (layout : Layout) : Type 0 where
  pub index_first : (version : Version) → IndexFirst layout version → Stop layout version → ⊥
  pub map_first : (version : Version) → MapFirst layout version → Stop layout version → ⊥
  pub drops_files : (version : Version) → DropsFiles layout version → Stop layout version → ⊥
  pub repairs_nothing : (version : Version) → RepairsNothing version → Stop layout version → ⊥
