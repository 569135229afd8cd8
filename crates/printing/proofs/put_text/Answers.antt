-- `printing::put_text` meets its contract for an image that is not too long: what stands at the front of the text is its listing. For one that is the laws of
-- Outputs.antt suffice. Assumes nothing.
use mathlib.Core.Path.{◌≡◌, sym, ap, ◌∙◌}
use mathlib.Core.List.{List}
use Prim.Native.Nat.{ℕ, ◌≤◌, ◌<◌}
use native.Mathlib.Omega.{arith}
use lib.ListN.{length}
use Rattle.rules.specs.Bytes.{byte_at, part, splice}
use Rattle.rules.specs.Calls.Listing.{shown}
use Rattle.rules.specs.declared.Layout.{Layout}
use Rattle.listing.proofs.Showing.{is_listed, at_front}
use Rattle.printing.specs.Output.{output}
use Rattle.printing.proofs.Outputs.{output_short}
use Rattle.printing.proofs.put_text.Goals as goal

module _ (layout : Layout) (image text after : List ℕ) (size : ℕ) (small : (i : ℕ) → byte_at image i < 256) (room : 4466 ≤ length text) (short : length image ≤ 65536) where
  listed_front : (size ≡ length (shown layout image (length text))) × (after ≡ splice text 0 (shown layout image (length text)))
      → (part after 0 size ≡ output layout image) × ((size ≡ length (output layout image)) × (after ≡ splice text 0 (output layout image)))
  listed_front put =
      let listed = is_listed layout image (length text) small room in
      let is = output_short layout image short in
      at_front text (output layout image) put (listed.is ∙ sym is) (omega (arith, listed.fits, ap length is))

pub returns-clause-result_after : goal.returns-clause-result_after
returns-clause-result_after c =
    (listed_front c.args.layout c.args.image.now c.args.text.now _ _ (λ i. omega (arith, c.type_inv.image i)) c.requires (omega arith) c.show.ensures.size_value).0

pub returns-clause-value : goal.returns-clause-value
returns-clause-value c =
    (listed_front c.args.layout c.args.image.now c.args.text.now _ _ (λ i. omega (arith, c.type_inv.image i)) c.requires (omega arith) c.show.ensures.size_value).1
