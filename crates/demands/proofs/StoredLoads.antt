-- What was stored loads, in every version that meets demand 2: the file of that name is the program put into the catalogue, so no ground for a refusal of the load is there, and its contents cut at
-- its length are the bytes that were lent; and that program is one of as many bytes.
use mathlib.Core.Path.{◌≡◌, sym, ap, ◌∙◌}
use mathlib.Core.Logic.{inl, inr}
use mathlib.Core.List.{List, [], ◌∷◌, ◌++◌}
use Prim.Native.Nat.{ℕ, ◌%◌, ◌≤◌, ◌<◌}
use native.Mathlib.Omega.{arith}
use lib.ListN.{length, get_or, length-map}
use Rattle.rules.specs.Bytes.{byte_at, bit_of}
use Rattle.rules.specs.Sectors.{sector_of, sector_count}
use Rattle.rules.specs.Name.{IsName}
use Rattle.rules.specs.Map.{count}
use Rattle.rules.specs.Kind.{program_length, sectors_for, marking}
use Rattle.rules.specs.Descriptor.{sectors_of, IsDescriptor}
use Rattle.rules.specs.Volume.{File, index_at, files_in, name_in, file_in, catalogue}
use Rattle.rules.specs.Sound.{file_at, IsIndexed, Sound}
use Rattle.rules.specs.declared.Layout.{Layout}
use Rattle.rules.proofs.Marks.{marking_bit}
use Rattle.rules.proofs.Map.{count_at}
use Rattle.rules.proofs.Indexes.{index_some}
use Rattle.rules.proofs.Staying.{index_at_kept, indexes_kept}
use Rattle.rules.proofs.Written.{entries_stand}
use Rattle.rules.proofs.Volume.{contents_count, header_at}
use Rattle.rules.proofs.Listed.{listed_name, listed_descriptor}
use Rattle.demands.specs.Call as call
use Rattle.demands.specs.Call.{Call, Version, number_of}
use Rattle.demands.specs.Catalogue.{file_name, no_file, named}
use Rattle.demands.specs.Effects.{Changed, new_program}
use Rattle.demands.specs.Grounds.{Ground, First, faults, look_grounds, grounds, Has}
use Rattle.demands.specs.Touches.{Enters, TouchesIn}
use Rattle.demands.specs.Demand2.{Shows, Means, Demand2, StoredLoads}
use Rattle.demands.specs.Lengths.{OfLength, StoredLength}
use Rattle.demands.proofs.Filed.{file_of_lem, file_name_lem, named_file}
use Rattle.demands.proofs.Lengths.{of_length}
use Rattle.demands.proofs.NewFile.{header_name, header_status, header_end}
use Rattle.demands.proofs.Pieces.{pieces-length, joined-pieces, put_stands}
use Rattle.demands.proofs.Touched.{directory_there, of_first}

-- where no ground is there, the number is 0
unfoldable None : List {1} Ground → Type 0
None [] = Unit {0}
None (g ∷ gs) = (g.there → ⊥) × None gs

first_none : (n : ℕ) (gs : List {1} Ground) → None gs → First n gs → n ≡ 0
unfolding None First
first_none n [] none first = first
first_none n (g ∷ gs) none (inl here) = absurd (none.0 here.0)
first_none n (g ∷ gs) none (inr past) = first_none n gs none.1 past.1

none_both : (gs more : List {1} Ground) → None gs → None more → None (gs ++ more)
unfolding None
none_both [] more none behind = behind
none_both (g ∷ gs) more none behind = (none.0, none_both gs more none.1 behind)

-- a sound volume has none of the faults 1 to 6
faultless : (layout : Layout) (image : List ℕ) → Sound layout image → None (faults layout image)
unfolding None faults
faultless layout image is = (
  (λ none. none (record { whole = is.whole; range = is.size })),
  (
    (λ none. none is.label),
    (
      (λ none. none (record { entered = is.entered; each = λ i indexed. (is.each i indexed).index })),
      (
        (λ none. none (record { descriptors = λ i indexed. (is.each i indexed).descriptors; ascending = λ i indexed. (is.each i indexed).ascending })),
        ((λ held. omega (arith, is.single held.sector, held.twice)), ((λ none. none (record { marked = is.marked; filled = is.filled })), tt)),
      ),
    ),
  ),
)

module _ (layout : Layout) (version : Version) (all : Demand2 layout version) (directory : ℕ) (name bytes image : List ℕ) (is : Sound layout image) where
  abbrev i : ℕ
  i = index_at layout image directory

  abbrev storing : Call
  storing = call.change directory name (call.store bytes)

  abbrev after : List ℕ
  after = (version storing image).image

  abbrev file : File
  file = new_program layout name bytes

  module _ (zero : number_of version storing image ≡ 0) where
    changed : Changed layout (call.store bytes) image after directory name
    unfolding Means
    changed = (all.means storing image is zero).0

    enters : Enters image after i name (sectors_for (length bytes)) (version storing image).order
    unfolding Means TouchesIn
    enters = (all.means storing image is zero).1

    abbrev k : ℕ
    k = enters.k

    -- the directory is where it was
    same_index : index_at layout after directory ≡ i
    same_index = index_at_kept layout image after (entries_stand layout image after is changed.size changed.kept.label) directory

    indexed : IsIndexed layout after i
    indexed =
        rw (indexes_kept layout image after (entries_stand layout image after is changed.size changed.kept.label))
        (directory_there layout directory name (call.store bytes) image (number_of version storing image) zero (all.progress storing image))

    abbrev there : 1 ≤ count k (files_in after i)
    there = enters.gains.lies.listed

    rules : IsDescriptor layout (sector_count after) (sector_of after k)
    rules = listed_descriptor layout after changed.sound i indexed k there

    is_name : IsName name
    unfolding name_in
    is_name = rw enters.gains.lies.named at rules.name

    abbrev ten : length name ≡ 10
    ten = is_name.ten

    -- the file of that name is the program
    file_now : file_in after k ≡ file
    unfolding catalogue
    file_now =
        let stands = put_stands file (catalogue image i) in
        let p = stands.place in
        let inside : p < length (files_in after i) = omega (arith, stands.inside, ap length changed.catalogue_is, length-map (files_in after i) (file_in after)) in
        let found = sym (file_of_lem after i p inside) ∙ ap (λ (l : List File). get_or l p no_file) changed.catalogue_is ∙ stands.is in
        let same : file_at after i p ≡ k =
        listed_name layout after changed.sound i indexed (file_at after i p) k (count_at (files_in after i) p inside) there
        (sym (file_name_lem after (file_at after i p)) ∙ ap file_name found ∙ header_name name (marking layout 0x01) 0 (length bytes % 256) 0 ten (sectors_for (length bytes)) ∙ sym enters.gains.lies.named)
        in
        rw same at found

    named_now : named name (catalogue after i) ≡ file
    named_now = named_file layout after i name k changed.sound indexed there (sym enters.gains.lies.named) ∙ file_now

    -- it is one of as many bytes as were lent
    sized : OfLength file (length bytes)
    sized = let c = sectors_for (length bytes) in of_length file (length bytes) (pieces-length c bytes) (header_end name (marking layout 0x01) 0 (length bytes % 256) 0 ten c)

    -- what the grounds speak of
    this : Has after i name (λ j. Unit {0})
    this = record { sector = k; listed = there; named = enters.gains.lies.named; so = tt }

    at_header : (i : ℕ) → i < 28 → byte_at (sector_of after k) i ≡ byte_at file.header i
    unfolding file_in
    at_header i low = sym (header_at after k i low) ∙ ap (λ (f : File). byte_at f.header i) file_now

    length_now : program_length (sectors_of (sector_of after k)) (byte_at (sector_of after k) 16) ≡ length bytes
    unfolding file_in
    length_now = rw (← contents_count layout (sector_count after) after k rules, at_header 16 (omega arith)) (ap (λ (f : File). program_length (length f.contents) (byte_at file.header 16)) file_now ∙ sized.long)

    module _ (buffer : List ℕ) (room : length bytes ≤ length buffer) where
      abbrev loading : Call
      loading = call.look (call.load directory name) buffer

      loads : number_of version loading after ≡ 0
      unfolding grounds look_grounds None this
      loads =
          first_none (number_of version loading after) (grounds layout loading after)
          (none_both (faults layout after) _ (faultless layout after changed.sound)
          (rw same_index (
            (λ none. none is_name),
            (
              index_some layout after i indexed,
              (
                (λ none. none this),
                (
                  (λ other. of_first layout after i name changed.sound indexed this other (ap (λ (b : ℕ). bit_of b 0) (at_header 12 (omega arith) ∙ header_status name (marking layout 0x01) 0 (length bytes % 256) 0 ten (sectors_for (length bytes))) ∙ marking_bit layout 0x01 0 (λ e. omega (arith, e)))),
                  ((λ short. omega (arith, room, length_now, of_first layout after i name changed.sound indexed this short)), tt),
                ),
              ),
            ),
          )))
          (all.progress loading after)

pub stored_length : (layout : Layout) → StoredLength layout
unfolding StoredLength
stored_length layout version all directory name bytes image is zero = rw (named_now layout version all directory name bytes image is zero) (sized layout version all directory name bytes image is zero)

pub stored_loads : (layout : Layout) → StoredLoads layout
unfolding StoredLoads Means Shows
stored_loads layout version all directory name bytes buffer image is room zero =
    let loaded =
    all.means (loading layout version all directory name bytes image is zero buffer room) (after layout version all directory name bytes image is) (changed layout version all directory name bytes image is zero).sound
    (loads layout version all directory name bytes image is zero buffer room)
    in
    rw (same_index layout version all directory name bytes image is zero, named_now layout version all directory name bytes image is zero, (sized layout version all directory name bytes image is zero).long, joined-pieces (sectors_for (length bytes)) bytes (omega arith)) at loaded
