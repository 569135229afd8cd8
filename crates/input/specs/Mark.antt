-- The mark of an image, which its line begins with.
use Rattle.std.specs.Prelude.{List, ℕ, ◌+◌, Option, Some, None}
use Rattle.rules.specs.Bytes.{part}
use Rattle.rules.specs.Verdict.{verdict}
use Rattle.rules.specs.declared.Layout.{Layout}

-- of what was put into the buffer: the judge's number as a digit, or `-` where there was no image
unfoldable pub mark_of : Layout → Option ℕ → List ℕ → ℕ
mark_of layout (Some count) buffer = 48 + verdict layout (part buffer 0 count)
mark_of layout None buffer = 0x2D
