-- The widths that `Joined` asks for are what the toolchain's own types say: `u32`, `[u32; WORDS]`, `[u32; 32]`, `[u8; 8]` and `[u8]`. There
-- `Is T x vs` says that vs are machine values of x at the type T. It is what owning a value says of it, and so it holds of what is handed
-- in and of what stands behind a reference (`shows` of `denote.Laws`). Assumes nothing.
use Prim.Native.Nat.{ℕ, ◌^◌, ◌≤◌, ◌<◌}
use native.Mathlib.Omega.{arith}
use mathlib.Core.List.{List, [], ◌∷◌}
use lib.ListN.{length, get_or}
use mir.Syntax.{Width, w8, w32}
use mir.Val.{Val, bits}
use denote.Array.{Array, each}
use denote.Laws.{Is}
use denote.RattleType.{RattleType}
use denote.Shadow.{shadow}
use borrow.Table.Referent.{rt_f, f_int}
use Rattle.model.specs.Fits.{BytesFit, StartFits}
use Rattle.model.proofs.Laws.Places.{All, all_each}
use Rattle.words.specs.Memory.{Memory}
use Rattle.words.specs.Sizes.{shelf_words}

-- an unsigned integer of this width, and n of them
abbrev Int : Width → RattleType
Int w = rt_f (f_int w)

abbrev Ints : Width → ℕ → RattleType
Ints w n = Array (Int w) n

module _ (w : Width) (room : 0 < 2 ^ bits w) where
  below : (ns : List ℕ) (vs : List Val) → shadow (each ℕ (Int w).own_val ns vs) → All (λ n. n < 2 ^ bits w) ns
  below [] [] is = tt
  below [] (v ∷ vs) is = absurd is
  below (n ∷ ns) [] is = absurd is
  below (n ∷ ns) (v ∷ vs) is = (is.0.1, below ns vs is.1)

  -- at each place, past the end too
  below_each : (size : ℕ) (ns : List ℕ) (vs : List Val) → Is (Ints w size) ns vs → (i : ℕ) → get_or ns i 0 < 2 ^ bits w
  below_each size ns vs is = all_each (λ n. n < 2 ^ bits w) 0 ns room (below ns is.0 is.1.1)

-- an amount
pub amount_width : (n : ℕ) (vs : List Val) → Is (Int w32) n vs → n ≤ 0xFFFFFFFF
amount_width n vs is = omega (arith, is.1)

-- the words of a shelf
pub memory_width : (ws : List ℕ) (vs : List Val) → Is (Ints w32 shelf_words) ws vs → Memory ws
memory_width ws vs is =
    record { size = is.1.0.1; words = λ i. omega (arith, below_each w32 (omega arith) shelf_words ws vs is i) }

-- the bytes of a frame: a slice holds what an array of its length holds
pub frame_width : (frame : List ℕ) (vs : List Val) → Is (Ints w8 (length frame)) frame vs → BytesFit frame
frame_width frame vs is i = omega (arith, below_each w8 (omega arith) (length frame) frame vs is i)

-- the table and the identifier that a start is given
pub start_width : (table identifier : List ℕ) (rows bytes : List Val) → Is (Ints w32 32) table rows → Is (Ints w8 8) identifier bytes
    → StartFits table identifier
start_width table identifier rows bytes is_table is_identifier =
    record {
      table_size = is_table.1.0.1;
      table_fits = λ g. omega (arith, below_each w32 (omega arith) 32 table rows is_table g);
      identifier_size = is_identifier.1.0.1;
      identifier_fits = λ i. omega (arith, below_each w8 (omega arith) 8 identifier bytes is_identifier i);
    }
