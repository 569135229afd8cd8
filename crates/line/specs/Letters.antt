-- A text as its bytes, for texts of ASCII characters.
use Rattle.std.specs.Prelude.{List, [], ◌∷◌, ℕ}
use Prim.Native.Char.{code}
use Prim.Native.String.{String}
use Prim.Native.String as native

unfoldable pub letters : String → List ℕ
letters native.[] = []
letters (native.◌∷◌ character text) = code character ∷ letters text
