-- "Numbers on the wire are big-endian." "Bytes not named are 0; request bytes not named are ignored."
use Rattle.std.specs.Prelude.{ℕ, ◌+◌, ◌*◌, ◌/◌, ◌%◌, List, [], ◌∷◌, get_or, replicate}
use Prim.Native.String.{String}
use Prim.Native.Char.{code}
use Rattle.std.proofs.lemmas.List.Edits.{sets}

-- Reading: the byte at a place, and the numbers of two and of four bytes that begin there. Past the end of a frame stands 0.
abbrev pub byte : List ℕ → ℕ → ℕ
byte frame i = get_or frame i 0x00

abbrev pub word : List ℕ → ℕ → ℕ
word frame i = byte frame i * 0x100 + byte frame (i + 1)

abbrev pub dword : List ℕ → ℕ → ℕ
dword frame i = word frame i * 0x10000 + word frame (i + 2)

-- Writing: a number in one, in two and in four bytes; a text; zeros.
abbrev pub one : ℕ → List ℕ
one n = n ∷ []

abbrev pub two : ℕ → List ℕ
two n = n / 0x100 % 0x100 ∷ n % 0x100 ∷ []

abbrev pub four : ℕ → List ℕ
four n = n / 0x1000000 % 0x100 ∷ n / 0x10000 % 0x100 ∷ n / 0x100 % 0x100 ∷ n % 0x100 ∷ []

abbrev pub text : String → List ℕ
text String.[] = []
text (String.◌∷◌ c s) = code c ∷ text s

abbrev pub zeros : ℕ → List ℕ
zeros n = replicate n 0x00

-- A frame with bytes written over it, each group from its own place on: (9, one phy) puts the phy at byte 9.
abbrev pub laid : List ℕ → List (ℕ × List ℕ) → List ℕ
laid frame [] = frame
laid frame (named ∷ others) = laid (sets frame named.0 named.1) others
