-- `map::laid::lay_map` meets its contract: what is filled and set is the map, byte by byte (`MapFilled`). Assumes nothing.
use mathlib.Core.Path.{◌≡◌, ap, ◌∙◌}
use mathlib.Core.List.{List}
use Prim.Native.Nat.{ℕ, ◌+◌, ◌-◌, ◌*◌, ◌/◌, ◌≤◌}
use native.Mathlib.Omega.{arith}
use lib.ListN.{length, set, replicate, length-replicate}
use borrow.Rule.Slice.PartMut.{put_mid}
use Rattle.rules.specs.Bytes.{splice, part}
use Rattle.rules.specs.Chain.{run}
use Rattle.rules.specs.Map.{taken, byte_of, map_of}
use Rattle.rules.proofs.Bytes.{part_length}
use Rattle.rules.proofs.Splice.{put_back}
use Rattle.map.proofs.MapFilled.{map_filled}
use Rattle.map.proofs.laid.lay_map.Goals as goal

-- what a fill leaves in a part is zeros laid over it
filled : (map zeros : List ℕ) (at many : ℕ) → at + many ≤ length map → zeros ≡ replicate (length (part map at many)) 0 → put_mid at many map zeros ≡ splice map at (replicate many 0)
filled map zeros at many inside e =
    let is : zeros ≡ replicate many 0 = e ∙ ap (λ (m : ℕ). replicate m 0) (part_length map at many inside) in
    put_back map zeros at many (ap length is ∙ length-replicate many 0) inside ∙ ap (splice map at) is

-- 255 all over, zeros from the byte in which `used` lies to the one in which the end lies, and those two set
laid : (n used : ℕ) {held end : ℕ} {ones zeros first second : List ℕ} → used ≤ n → n ≤ 1600 → ones ≡ replicate 200 255 → zeros ≡ replicate (length (part ones held (end - held))) 0
    → first ≡ set (put_mid held (end - held) ones zeros) held (byte_of (taken n (run 0 used)) (8 * held)) → second ≡ set first end (byte_of (taken n (run 0 used)) (8 * end))
    → held ≡ used / 8 → end ≡ n / 8 → second ≡ map_of n (run 0 used)
laid n used {held} {end} {ones} {zeros} few most ones-are zeros-are first-is second-is held-is end-is =
    let inside : held + (end - held) ≤ length ones = omega (arith, ap length ones-are, length-replicate {A = ℕ} 200 255) in
    second-is ∙ rw (first-is, filled ones zeros held (end - held) inside zeros-are, ones-are, held-is, end-is) (map_filled n used few most)

pub returns : goal.returns
returns c =
    let ones = c.fill.ensures.after (λ y same. same) ∙ ap (λ (m : ℕ). replicate m 255) c.requires.0 in
    laid c.args.n c.args.used c.requires.1 c.requires.2 ones (c.fill-2.ensures.after (λ y same. same)) c.lay_byte.ensures c.lay_byte-2.ensures (omega arith) (omega arith)
