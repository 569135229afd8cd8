-- What is written, for an image that is too long and for one that is not. Assumes nothing.
use mathlib.Core.Path.{◌≡◌, sym, ap, ◌∙◌}
use mathlib.Core.List.{List}
use Prim.Native.Nat.{ℕ, ◌≤◌, ◌<◌}
use native.Mathlib.Omega.{arith}
use lib.ListN.{length}
use borrow.Author.Tests.{lt-ltb, le-ltb}
use Rattle.rules.specs.Bytes.{part, splice}
use Rattle.rules.specs.Calls.Listing.{refused_line, listed}
use Rattle.rules.specs.declared.Layout.{Layout}
use Rattle.rules.proofs.Splice.{splice_front}
use Rattle.listing.proofs.Showing.{refused_short}
use Rattle.printing.specs.Output.{output}

module _ (layout : Layout) (image : List ℕ) where
  pub output_long : 65536 < length image → output layout image ≡ refused_line 1
  unfolding output
  output_long h = rw (lt-ltb 65536 (length image) h)

  pub output_short : length image ≤ 65536 → output layout image ≡ listed layout image
  unfolding output
  output_short h = rw (le-ltb 65536 (length image) h)

-- what the line of a refusal leaves at the front of a text that has room for it
module _ (layout : Layout) (image text : List ℕ) (long : 65536 < length image) where
  pub long_size : length (refused_line 1) ≡ length (output layout image)
  long_size = ap length (sym (output_long layout image long))

  pub long_left : splice text 0 (refused_line 1) ≡ splice text 0 (output layout image)
  long_left = ap (splice text 0) (sym (output_long layout image long))

  pub long_front : 4466 ≤ length text → part (splice text 0 (refused_line 1)) 0 (length (refused_line 1)) ≡ output layout image
  long_front room = splice_front text (refused_line 1) (omega (arith, refused_short 1 (omega arith))) ∙ sym (output_long layout image long)
