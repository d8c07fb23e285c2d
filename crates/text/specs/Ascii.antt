-- Quoted texts as bytes, for what the program prints and for examples. Definitions only; assumes nothing.
use Rattle.std.specs.Prelude.{ℕ, List, [], ◌∷◌}
use Prim.Native.Char.{code}
use Prim.Native.String.{String}
use Prim.Native.String as quoted

-- the bytes of a text of ASCII characters
unfoldable pub ascii : String → List ℕ
ascii quoted.[] = []
ascii (quoted.◌∷◌ c s) = code c ∷ ascii s
