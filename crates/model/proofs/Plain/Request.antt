-- When a frame is cut, wrong, of a known function and of a right length, what is asked, by the function, and which descriptor is the first
-- unsupported one, in plain logic. Assumes nothing.
use Rattle.std.specs.Prelude.{Option, Some, None, is_none}
use Prim.Native.Nat.{ℕ, zero, suc, ◌+◌, ◌*◌, ◌≤◌, ◌<◌, zero-le}
use native.Mathlib.Nat.{eq-or-lt_of_le, not-le_of_lt}
use native.Mathlib.Omega.{arith}
use mathlib.Core.Path.{◌≡◌, subst}
use mathlib.Core.Logic.Iff
use mathlib.Core.Logic.{◌↔◌, ◌⊎◌, ⊎_elim}
use mathlib.Core.Bool.{Bool, ◌&&◌, ◌||◌, or_assoc, or-false}
use mathlib.Core.List.{List, [], ◌∷◌, Memᴰ}
use lib.Dec.{T, eqb}
use lib.ListN.{length}
use Rattle.model.specs.declared.Request.{Request}
use Rattle.model.specs.declared.Request.TheVariants.{ReportGeneral, ReportManufacturer, ReportBroadcast}
use Rattle.model.specs.declared.Request.TheVariants.{ReportPhyErrorLog, ReportPhyEvent, PhyControl}
use Rattle.model.specs.declared.Request.TheVariants.{ReportPhyEventList, ConfigurePhyEvent}
use Rattle.model.specs.Bytes.{byte, word}
use Rattle.model.specs.Request.{cut_frame, wrong_frame, function_of, known, shaped, length_right, clears, asked, descriptor_source, allowed}
use Rattle.model.specs.Request.{first_unsupported}
use Rattle.model.specs.Sources.{supported}
use Rattle.model.specs.Tests.{one_of}
use Rattle.model.proofs.Laws.Tests.{denied_iff, both_iff, all_three_iff, either_iff, ltb_iff, eqb_iff, one_of_iff, by_each, cond_by}

-- H6: under four bytes
pub cut_frame_lem : (frame : List ℕ) → T (cut_frame frame) ↔ (length frame < 4)
unfolding cut_frame
cut_frame_lem frame = ltb_iff (length frame) 4

-- H10: the first byte is not 40h
pub wrong_frame_lem : (frame : List ℕ) → T (wrong_frame frame) ↔ (byte frame 0 ≡ 0x40 → ⊥)
unfolding wrong_frame
wrong_frame_lem frame = denied_iff (eqb (byte frame 0) 0x40) (eqb_iff (byte frame 0) 0x40)

-- the eight functions, and the four of them with a phy
abbrev pub known_functions : List ℕ
known_functions = 0x00 ∷ 0x01 ∷ 0x06 ∷ 0x11 ∷ 0x14 ∷ 0x21 ∷ 0x91 ∷ 0x93 ∷ []

abbrev pub phy_functions : List ℕ
phy_functions = 0x11 ∷ 0x14 ∷ 0x91 ∷ 0x93 ∷ []

-- not 01h: one of the eight functions
pub known_iff : (function : ℕ)
    → T (known function)
    ↔ Memᴰ function known_functions
unfolding known
known_iff function = one_of_iff known_functions function

-- ---- not 03h

-- a frame of this function, this true length, and one of these lengths in byte 3
abbrev pub Shaped : List ℕ → ℕ → ℕ → List ℕ → Type 0
Shaped frame function size lengths =
    (function_of frame ≡ function) × (length frame ≡ size) × Memᴰ (byte frame 3) lengths

shaped_iff : (frame : List ℕ) (function size : ℕ) (lengths : List ℕ)
    → T (shaped frame function size lengths)
    ↔ Shaped frame function size lengths
shaped_iff frame function size lengths =
    all_three_iff (eqb (function_of frame) function) (eqb (length frame) size) (one_of lengths (byte frame 3))
    (eqb_iff (function_of frame) function)
    (eqb_iff (length frame) size)
    (one_of_iff lengths (byte frame 3))

one_of_eight : (a b c d e f g h : Bool) {A B C D E F G H : Type 0}
    → T a ↔ A → T b ↔ B → T c ↔ C → T d ↔ D → T e ↔ E → T f ↔ F → T g ↔ G → T h ↔ H
    → T (a || b || c || d || e || f || g || h) ↔ (A ⊎ B ⊎ C ⊎ D ⊎ E ⊎ F ⊎ G ⊎ H)
one_of_eight a b c d e f g h ia ib ic id ie if ig ih =
    simp or_assoc
    (either_iff a _ ia (either_iff b _ ib (either_iff c _ ic (either_iff d _ id (either_iff e _ ie (either_iff f _ if (either_iff g h ig ih)))))))

-- the eight shapes; a 93h has d in byte 11
abbrev pub RightLength : List ℕ → Type 0
RightLength frame =
    Shaped frame 0x00 4 (0x00 ∷ [])
    ⊎ Shaped frame 0x01 4 (0x00 ∷ [])
    ⊎ Shaped frame 0x06 4 (0x00 ∷ [])
    ⊎ Shaped frame 0x11 12 (0x02 ∷ 0x00 ∷ [])
    ⊎ Shaped frame 0x14 12 (0x02 ∷ [])
    ⊎ Shaped frame 0x21 8 (0x01 ∷ [])
    ⊎ Shaped frame 0x91 40 (0x09 ∷ 0x00 ∷ [])
    ⊎ Shaped frame 0x93 (12 + 8 * byte frame 11) ((2 + 2 * byte frame 11) ∷ [])

pub length_right_lem : (frame : List ℕ) → T (length_right frame) ↔ RightLength frame
unfolding length_right
length_right_lem frame =
    one_of_eight (shaped frame 0x00 4 (0x00 ∷ []))
    (shaped frame 0x01 4 (0x00 ∷ []))
    (shaped frame 0x06 4 (0x00 ∷ []))
    (shaped frame 0x11 12 (0x02 ∷ 0x00 ∷ []))
    (shaped frame 0x14 12 (0x02 ∷ []))
    (shaped frame 0x21 8 (0x01 ∷ []))
    (shaped frame 0x91 40 (0x09 ∷ 0x00 ∷ []))
    (shaped frame 0x93 (12 + 8 * byte frame 11) ((2 + 2 * byte frame 11) ∷ []))
    (shaped_iff frame 0x00 4 (0x00 ∷ []))
    (shaped_iff frame 0x01 4 (0x00 ∷ []))
    (shaped_iff frame 0x06 4 (0x00 ∷ []))
    (shaped_iff frame 0x11 12 (0x02 ∷ 0x00 ∷ []))
    (shaped_iff frame 0x14 12 (0x02 ∷ []))
    (shaped_iff frame 0x21 8 (0x01 ∷ []))
    (shaped_iff frame 0x91 40 (0x09 ∷ 0x00 ∷ []))
    (shaped_iff frame 0x93 (12 + 8 * byte frame 11) ((2 + 2 * byte frame 11) ∷ []))

-- of the two writes: a 91h, and a 93h
module _ (frame : List ℕ) where
  size_iff : (size : ℕ) (lengths : List ℕ)
      → T (eqb (length frame) size && one_of lengths (byte frame 3))
      ↔ ((length frame ≡ size) × Memᴰ (byte frame 3) lengths)
  size_iff size lengths =
      both_iff (eqb (length frame) size) (one_of lengths (byte frame 3)) (eqb_iff (length frame) size) (one_of_iff lengths (byte frame 3))

  pub right_length_91 : function_of frame ≡ 0x91
      → T (length_right frame)
      ↔ ((length frame ≡ 40) × Memᴰ (byte frame 3) (0x09 ∷ 0x00 ∷ []))
  unfolding length_right
  right_length_91 e =
      rw (e, or-false (eqb (length frame) 40 && one_of (0x09 ∷ 0x00 ∷ []) (byte frame 3))) (size_iff 40 (0x09 ∷ 0x00 ∷ []))

  pub right_length_93 : function_of frame ≡ 0x93
      → T (length_right frame)
      ↔ ((length frame ≡ 12 + 8 * byte frame 11) × Memᴰ (byte frame 3) ((2 + 2 * byte frame 11) ∷ []))
  unfolding length_right
  right_length_93 e = rw e (size_iff (12 + 8 * byte frame 11) ((2 + 2 * byte frame 11) ∷ []))

-- ---- what is asked, by the function

pub asked_91 : (frame : List ℕ) → function_of frame ≡ 0x91
    → asked frame ≡ PhyControl (word frame 4) (byte frame 9) (byte frame 10)
unfolding asked
asked_91 frame e = rw e

pub asked_93 : (frame : List ℕ) → function_of frame ≡ 0x93
    → asked frame ≡ ConfigurePhyEvent (word frame 4) (clears frame) (byte frame 9) (byte frame 11)
unfolding asked
asked_93 frame e = rw e

-- what holds of each of the eight functions with what it asks holds of every frame of a known function
pub by_function : (frame : List ℕ) (P : ℕ → Request → Type 0) → T (known (function_of frame))
    → P 0x00 ReportGeneral
    → P 0x01 ReportManufacturer
    → P 0x06 (ReportBroadcast (byte frame 2))
    → P 0x11 (ReportPhyErrorLog (byte frame 9))
    → P 0x14 (ReportPhyEvent (byte frame 9))
    → P 0x21 (ReportPhyEventList (word frame 6))
    → P 0x91 (PhyControl (word frame 4) (byte frame 9) (byte frame 10))
    → P 0x93 (ConfigurePhyEvent (word frame 4) (clears frame) (byte frame 9) (byte frame 11))
    → P (function_of frame) (asked frame)
unfolding asked
by_function frame P t p00 p01 p06 p11 p14 p21 p91 p93 =
    by_each (P (function_of frame) (asked frame)) (function_of frame) known_functions ((known_iff (function_of frame)).0 t)
    (λ e. rw e p00)
    (λ e. rw e p01)
    (λ e. rw e p06)
    (λ e. rw e p11)
    (λ e. rw e p14)
    (λ e. rw e p21)
    (λ e. rw e p91)
    (λ e. rw e p93)

-- ---- the descriptors of a 93h

pub allowed_iff : (source : ℕ) → T (allowed source) ↔ ((source ≡ 0x00) ⊎ T (supported source))
unfolding allowed
allowed_iff source = either_iff (eqb source 0x00) (supported source) (eqb_iff source 0x00) Iff.rfl

-- Of the n descriptors from i on, r is the first that is not allowed: those before it are allowed, and it is not.
pub record FirstAt (frame : List ℕ) (n i r : ℕ) : Type 0 where
  pub from : i ≤ r
  pub to : r < i + n
  pub before : (k : ℕ) → i ≤ k → k < r → T (allowed (descriptor_source frame k))
  pub at : T (allowed (descriptor_source frame r)) → ⊥

-- .. if there is one; and where there is none, all are allowed
abbrev pub First : List ℕ → ℕ → ℕ → Option ℕ → Type 0
First frame n i (Some r) = FirstAt frame n i r
First frame n i None = (k : ℕ) → i ≤ k → k < i + n → T (allowed (descriptor_source frame k))

-- the first of those behind an allowed one is the first of all
allowed_before : (frame : List ℕ) (n i : ℕ) (found : Option ℕ) → T (allowed (descriptor_source frame i)) → First frame n (suc i) found
    → First frame (suc n) i found
allowed_before frame n i (Some r) here rest =
    record {
      from = omega arith;
      to = omega arith;
      before = λ k low high.
          ⊎_elim (λ i≡k. subst (λ (j : ℕ). T (allowed (descriptor_source frame j))) i≡k here)
          (λ i<k. rest.before k i<k high)
          (eq-or-lt_of_le low);
      at = rest.at;
    }
allowed_before frame n i None here rest =
    λ k low high.
    ⊎_elim (λ i≡k. subst (λ (j : ℕ). T (allowed (descriptor_source frame j))) i≡k here)
    (λ i<k. rest k i<k (omega arith))
    (eq-or-lt_of_le low)

pub first_unsupported_lem : (frame : List ℕ) (n i : ℕ) → First frame n i (first_unsupported frame n i)
unfolding first_unsupported
first_unsupported_lem frame zero i = λ k low high. absurd (omega arith)
first_unsupported_lem frame (suc n) i =
    let rest : First frame n (suc i) (first_unsupported frame n (suc i)) = first_unsupported_lem frame n (suc i) in
    cond_by (First frame (suc n) i) (allowed (descriptor_source frame i)) _ _
    (λ e. allowed_before frame n i (first_unsupported frame n (suc i)) (rw e tt) rest)
    (λ e.
    record {
      from = omega arith;
      to = omega arith;
      before = λ k low high. absurd (not-le_of_lt high low);
      at = λ t. rw e at t;
    })

-- so there is none exactly if every descriptor is allowed
pub none_unsupported : (frame : List ℕ) (d : ℕ)
    → T (is_none (first_unsupported frame d 0))
    ↔ ((k : ℕ) → k < d → T (allowed (descriptor_source frame k)))
none_unsupported frame d = go (first_unsupported frame d 0) (first_unsupported_lem frame d 0)
  where
    go : (found : Option ℕ) → First frame d 0 found → T (is_none found) ↔ ((k : ℕ) → k < d → T (allowed (descriptor_source frame k)))
    go None all = (λ t k h. all k zero-le (omega arith), λ every. tt)
    go (Some r) first = (λ t. absurd t, λ every. absurd (first.at (every r (omega (arith, first.to)))))
