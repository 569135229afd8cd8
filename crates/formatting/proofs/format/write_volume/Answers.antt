-- `formatting::format::write_volume` meets its contract: sector 0, the zeros and the rest are laid one behind the other and make the whole image. Assumes nothing.
use mathlib.Core.Path.{◌≡◌, sym, ap, ◌∙◌}
use mathlib.Core.List.{List, ◌++◌, append_assoc}
use Prim.Native.Nat.{ℕ, ◌-◌, ◌*◌, ◌≤◌}
use native.Mathlib.Omega.{arith}
use lib.ListN.{length, replicate, length-append, length-replicate}
use borrow.Rule.Slice.PartMut.{put_mid}
use Rattle.rules.specs.Bytes.{part, splice}
use Rattle.rules.proofs.Bytes.{part_length}
use Rattle.rules.proofs.Splice.{splice-length, splice_whole, put_back}
use Rattle.rules.proofs.Formatted.{put_next, sector0_length, formatted_parts}
use Rattle.formatting.specs.Geometry.{geometry_of}
use Rattle.formatting.proofs.format.write_volume.Goals as goal
use Rattle.formatting.proofs.format.write_volume.Goals.{After-lay_sector0}

-- what the three calls leave: each writes right behind the one before, and the last to the end of the image
module _ (image sector0 : List ℕ) (n : ℕ) (large : 3 ≤ n) (long : length image ≡ 256 * n) (whole : length sector0 ≡ 256) where
  filled_one : (laid zeros : List ℕ) → laid ≡ splice image 0 sector0 → zeros ≡ replicate (length (part laid 256 256)) 0
      → (zeros ≡ replicate 256 0) × (put_mid 256 256 laid zeros ≡ splice image 0 (sector0 ++ zeros))
  filled_one laid zeros laid-is zeros-is =
      let kept : length laid ≡ 256 * n = ap length laid-is ∙ splice-length image 0 sector0 ∙ long in
      let many = part_length laid 256 256 (omega arith) in
      let zeros-long : length zeros ≡ 256 = ap length zeros-is ∙ length-replicate (length (part laid 256 256)) 0 ∙ many in
      (zeros-is ∙ ap (λ (m : ℕ). replicate m 0) many, put_next image laid sector0 zeros 256 256 laid-is whole zeros-long (omega arith))

  filled_rest : (laid zeros rest : List ℕ) → length zeros ≡ 256 → laid ≡ splice image 0 (sector0 ++ zeros) → rest ≡ replicate (length (part laid 512 (length laid - 512))) 0xE5
      → (rest ≡ replicate (256 * (n - 2)) 0xE5) × (put_mid 512 (length laid - 512) laid rest ≡ sector0 ++ (zeros ++ rest))
  filled_rest laid zeros rest zeros-long laid-is rest-is =
      let kept : length laid ≡ 256 * n = ap length laid-is ∙ splice-length image 0 (sector0 ++ zeros) ∙ long in
      let many = part_length laid 512 (length laid - 512) (omega arith) in
      let rest-long : length rest ≡ length laid - 512 = ap length rest-is ∙ length-replicate (length (part laid 512 (length laid - 512))) 0xE5 ∙ many in
      let most : length laid - 512 ≡ 256 * (n - 2) = omega arith in
      let front : length (sector0 ++ zeros) ≡ 512 = length-append sector0 zeros ∙ omega arith in
      let all : length ((sector0 ++ zeros) ++ rest) ≡ length image = length-append (sector0 ++ zeros) rest ∙ omega arith in (
        rest-is ∙ ap (λ (m : ℕ). replicate m 0xE5) (many ∙ most),
        put_next image laid (sector0 ++ zeros) rest 512 (length laid - 512) laid-is front rest-long (omega arith)
            ∙ splice_whole image ((sector0 ++ zeros) ++ rest) all
            ∙ append_assoc sector0 zeros rest,
      )

three_parts : {a b c a' b' c' : List ℕ} → a ≡ a' → b ≡ b' → c ≡ c' → a ++ (b ++ c) ≡ a' ++ (b' ++ c')
three_parts e f g = rw (e, f, g)

-- sector 0, and the image with it
whole : (c : After-lay_sector0) → length c.lay_sector0.new.sector0 ≡ 256
whole c =
    ap length c.lay_sector0.ensures ∙ sector0_length c.args.n c.args.name.now (geometry_of c.args.geometry) c.requires.3

laid : (c : After-lay_sector0) → put_mid 0 256 c.args.image.now c.lay_sector0.new.sector0 ≡ splice c.args.image.now 0 c.lay_sector0.new.sector0
laid c =
    put_back c.args.image.now c.lay_sector0.new.sector0 0 256 (whole c) (omega (arith, c.requires.0, c.requires.2))

pub returns : goal.returns
returns c =
    let n = c.args.n in
    let image = c.args.image.now in
    let sector0 = c.lay_sector0.new.sector0 in
    let parts = formatted_parts n c.args.name.now (geometry_of c.args.geometry) c.requires.3 in
    let zeros = c.fill.new.self in
    let one = filled_one image sector0 n c.requires.0 c.requires.2 (whole (goal.at.returns c).After-lay_sector0) _ zeros (laid (goal.at.returns c).After-lay_sector0) (c.fill.ensures.after (λ y same. same)) in
    let rest = filled_rest image sector0 n c.requires.0 c.requires.2 (whole (goal.at.returns c).After-lay_sector0) _ zeros c.fill-2.new.self (ap length one.0) one.1 (c.fill-2.ensures.after (λ y same. same)) in
    rest.1 ∙ three_parts c.lay_sector0.ensures one.0 rest.0 ∙ sym parts
