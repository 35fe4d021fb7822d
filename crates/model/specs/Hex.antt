-- Bytes as document 01 writes them: two hexadecimal digits each, with a space between. For frames that
-- are written out, in the checked lists and in `Demands/OnShelfW`; no definition of the document uses it.
use Rattle.std.specs.Prelude.{ℕ, ◌+◌, ◌-◌, ◌*◌, cond, List, [], ◌∷◌, leb}
use Prim.Native.Char.{code}
use Prim.Native.String.{String}

-- a digit by its ASCII code: `0` to `9`, then `A` to `F`
abbrev pub digit : ℕ → ℕ
digit c = cond (leb c 0x39) (c - 0x30) (c - 0x41 + 10)

abbrev pub hex : String → List ℕ
hex String.[] = []
hex (String.◌∷◌ a String.[]) = []
hex (String.◌∷◌ a (String.◌∷◌ b String.[])) = (digit (code a) * 16 + digit (code b)) ∷ []
hex (String.◌∷◌ a (String.◌∷◌ b (String.◌∷◌ space rest))) = (digit (code a) * 16 + digit (code b)) ∷ hex rest
