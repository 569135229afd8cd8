-- What the catalogue program writes for an image.
use Rattle.std.specs.Prelude.{cond, List, ℕ, ltb, length}
use Rattle.rules.specs.Calls.Listing.{refused_line, listed}
use Rattle.rules.specs.declared.Layout.{Layout}

-- at most 65,536 bytes; more gives number 1
unfoldable pub output : Layout → List ℕ → List ℕ
output layout image = cond (ltb 65536 (length image)) (refused_line 1) (listed layout image)
