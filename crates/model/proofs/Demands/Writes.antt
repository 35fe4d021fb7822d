-- Demand 2, the writes: "A write that draws no house refusal takes its full effect exactly when its length, count, phy, zone and contents
-- all pass, and otherwise has no effect at all." And reads never change the shelf; so what a request leaves is one of three. Assumes
-- nothing.
use Prim.Native.Nat.{ℕ, ◌+◌, ◌*◌, ◌≤◌}
use native.Mathlib.Nat.{pos_of_ne-zero, eq-zero-or-pos}
use mathlib.Core.Path.{◌≡◌, refl, subst⁻¹}
use mathlib.Core.Logic.Iff
use mathlib.Core.Logic.{◌↔◌, ◌⊎◌, inl, inr}
use mathlib.Core.Bool.{Bool, true, false}
use mathlib.Core.List.{List, [], ◌∷◌, Memᴰ}
use borrow.Author.Tests.{eqb-true, eqb-false}
use lib.Dec.{T, eqb}
use lib.ListN.{length}
use Rattle.model.specs.declared.Shelf.{Shelf}
use Rattle.model.specs.Bytes.{byte, word}
use Rattle.model.specs.Fits.{Placed}
use Rattle.model.specs.House.{answer_number}
use Rattle.model.specs.Reach.{reaches}
use Rattle.model.specs.Request.{function_of, known, length_right, asked}
use Rattle.model.specs.Results.{grounds}
use Rattle.model.specs.Runs.{Started}
use Rattle.model.specs.Server.{served, lent_after}
use Rattle.model.specs.Shelf.{exists}
use Rattle.model.specs.Writes.{doing, effect}
use Rattle.model.proofs.Demands.Configured.{Configured, configured_effect}
use Rattle.model.proofs.Demands.Controlled.{Controlled, controlled_effect}
use Rattle.model.proofs.Demands.Invariant.{started_placed}
use Rattle.model.proofs.Demands.Refusals.{request_refusal}
use Rattle.model.proofs.Demands.Results.{Of, SourcesAllowed, NotRefused, count_passes, checks, verdict_accepted, result_byte}
use Rattle.model.proofs.Demands.Results.{sources_iff, failed_result, granted_result}
use Rattle.model.proofs.Laws.Drawn.{AllPass}
use Rattle.model.proofs.Laws.Handled.{handled_all, accepted_decided}
use Rattle.model.proofs.Laws.Tests.{leb_iff, by_each}
use Rattle.model.proofs.Plain.Request.{asked_91, asked_93, by_function, right_length_91, right_length_93}
use Rattle.model.proofs.Plain.Results.{count_right_lem, known_operations, known_operation_lem}

-- length, count, phy, zone and contents all pass
pub record Passes (s : Shelf) (g : ℕ) (frame : List ℕ) (size : ℕ) (lengths : List ℕ) (Contents : Type 0) : Type 0 where
  -- "request 40 bytes, length 09h or 00h" (91h), "request 12 + 8d bytes, length 2 + 2d, d in byte 11" (93h)
  pub true_length : length frame ≡ size
  pub byte_3 : Memᴰ (byte frame 3) lengths
  -- bytes 4 and 5 are 0000h or the present count
  pub count : Memᴰ (word frame 4) (0x0000 ∷ s.changes ∷ [])
  -- byte 9 names a phy that exists, and that the source reaches
  pub phy : T (exists s (byte frame 9))
  pub zone : T (reaches s g (byte frame 9))
  pub contents : Contents

-- 91h: the operation in byte 10 is one of the four
abbrev pub ControlPasses : Shelf → ℕ → List ℕ → Type 0
ControlPasses s g frame =
    Passes s g frame 40 (0x09 ∷ 0x00 ∷ []) (Memᴰ (byte frame 10) known_operations)

-- 93h: there are at most four descriptors, and each has the source 00h or a supported one
abbrev pub ConfigurePasses : Shelf → ℕ → List ℕ → Type 0
ConfigurePasses s g frame =
    Passes s g frame (12 + 8 * byte frame 11) ((2 + 2 * byte frame 11) ∷ []) ((byte frame 11 ≤ 4) × SourcesAllowed frame)

-- ---- accepted exactly when they pass

-- the checks of a write, those of its contents last
write_iff : (s : Shelf) (g : ℕ) (frame : List ℕ) (size : ℕ) (lengths : List ℕ) {Checked Contents : Type 0}
    → T (length_right frame) ↔ ((length frame ≡ size) × Memᴰ (byte frame 3) lengths) → Checked ↔ Contents
    → (T (length_right frame)
    × T (count_passes s g frame)
    × T (exists s (byte frame 9))
    × T (reaches s g (byte frame 9))
    × Checked)
    ↔ Passes s g frame size lengths Contents
write_iff s g frame size lengths right contents = (
  λ (l, c, there, reached, checked).
      record {
        true_length = (right.0 l).0;
        byte_3 = (right.0 l).1;
        count = (count_right_lem (grounds s g (byte frame 9)) (word frame 4)).0 c;
        phy = there;
        zone = reached;
        contents = contents.0 checked;
      },
  λ w. (
    right.1 (w.true_length, w.byte_3),
    (count_right_lem (grounds s g (byte frame 9)) (word frame 4)).1 w.count,
    w.phy,
    w.zone,
    contents.1 w.contents,
  ),
)

control_iff : (s : Shelf) (g : ℕ) (frame : List ℕ) → function_of frame ≡ 0x91
    → AllPass (checks s g frame)
    ↔ ControlPasses s g frame
unfolding known
control_iff s g frame e =
    Iff.trans (rw e (
      λ (_, (l, (_, (c, (there, (_, (reached, (operation, _)))))))). (l, c, there, reached, operation),
      λ (l, c, there, reached, operation). (tt, (l, (tt, (c, (there, (tt, (reached, (operation, (tt, (tt, (tt, tt))))))))))),
    ))
    (write_iff s g frame 40 (0x09 ∷ 0x00 ∷ []) (right_length_91 frame e) (known_operation_lem (byte frame 10)))

configure_iff : (s : Shelf) (g : ℕ) (frame : List ℕ) → function_of frame ≡ 0x93
    → AllPass (checks s g frame)
    ↔ ConfigurePasses s g frame
unfolding known
configure_iff s g frame e =
    Iff.trans (rw e (
      λ (_, (l, (_, (c, (there, (_, (reached, (_, (_, (few, (sources, _))))))))))). (l, c, there, reached, (few, sources)),
      λ (l, c, there, reached, (few, sources)). (tt, (l, (tt, (c, (there, (tt, (reached, (tt, (tt, (few, (sources, tt))))))))))),
    ))
    (write_iff s g frame (12 + 8 * byte frame 11) ((2 + 2 * byte frame 11) ∷ []) (right_length_93 frame e)
    (Iff.and (leb_iff (byte frame 11) 4) (sources_iff frame)))

module _ (s : Shelf) (g : ℕ) (frame out : List ℕ) (answered : NotRefused s g frame out) where
  accepted_iff : (byte (lent_after s g frame out) 2 ≡ 0x00) ↔ AllPass (checks s g frame)
  accepted_iff = rw (result_byte s g frame out answered) (verdict_accepted s g frame)

  pub control_accepted : function_of frame ≡ 0x91
      → (byte (lent_after s g frame out) 2 ≡ 0x00)
      ↔ ControlPasses s g frame
  control_accepted e = Iff.trans accepted_iff (control_iff s g frame e)

  pub configure_accepted : function_of frame ≡ 0x93
      → (byte (lent_after s g frame out) 2 ≡ 0x00)
      ↔ ConfigurePasses s g frame
  configure_accepted e = Iff.trans accepted_iff (configure_iff s g frame e)

-- ---- the full effect, or none at all

-- t is the shelf afterwards
pub record FullOrNone (Passing : Type 0) (Full : Shelf → Type 0) (s t : Shelf) : Type 0 where
  pub full : Passing → Full t
  pub none : (Passing → ⊥) → t ≡ s

-- of a request that is accepted exactly when it passes, and whose effect is full
full_or_none : (s : Shelf) (g : ℕ) (frame out : List ℕ) {Passing : Type 0} {Full : Shelf → Type 0}
    → NotRefused s g frame out → (byte (lent_after s g frame out) 2 ≡ 0x00) ↔ Passing
    → (Passing → Full (effect s frame (asked frame)))
    → FullOrNone Passing Full s (served s g frame out).shelf
full_or_none s g frame out {Full = Full} answered passes full =
    record {
      full = λ yes_all.
          subst⁻¹ Full (granted_result s g frame out answered (passes.1 yes_all)).moves (full yes_all);
      none = λ not_all.
          let some : 1 ≤ byte (lent_after s g frame out) 2 =
          pos_of_ne-zero (λ e. not_all (passes.0 e)) in
          (failed_result s g frame out (byte (lent_after s g frame out) 2) answered refl some).stays;
    }

-- of every shelf whose arrays have their places, as every record's have (that a failed write leaves any shelf at all is `failed_result`)
module _ (s : Shelf) (placed : Placed s) (g : ℕ) (frame out : List ℕ) (answered : NotRefused s g frame out) where
  pub placed_control_write : function_of frame ≡ 0x91
      → FullOrNone (ControlPasses s g frame) (Controlled s (byte frame 9) (byte frame 10)) s (served s g frame out).shelf
  placed_control_write e =
      full_or_none s g frame out answered (control_accepted s g frame out answered e)
      (λ w.
      rw (asked_91 frame e)
      (controlled_effect s frame (word frame 4) (byte frame 9) (byte frame 10) placed w.phy))

  pub placed_configure_write : function_of frame ≡ 0x93
      → FullOrNone (ConfigurePasses s g frame) (Configured s (byte frame 9) frame) s (served s g frame out).shelf
  placed_configure_write e =
      full_or_none s g frame out answered (configure_accepted s g frame out answered e)
      (λ w. rw (asked_93 frame e) (configured_effect s frame (word frame 4) (byte frame 9) placed w.phy))

-- For every started shelf, after any operations, and every request with function 91h or 93h that draws no house refusal.
pub control_write : (s : Shelf) → Started s → (g : ℕ) (frame out : List ℕ) → NotRefused s g frame out
    → function_of frame ≡ 0x91
    → FullOrNone (ControlPasses s g frame) (Controlled s (byte frame 9) (byte frame 10)) s (served s g frame out).shelf
control_write s started = placed_control_write s (started_placed s started)

pub configure_write : (s : Shelf) → Started s → (g : ℕ) (frame out : List ℕ) → NotRefused s g frame out
    → function_of frame ≡ 0x93
    → FullOrNone (ConfigurePasses s g frame) (Configured s (byte frame 9) frame) s (served s g frame out).shelf
configure_write s started = placed_configure_write s (started_placed s started)

-- ---- reads: every request but 91h and 93h

pub read_stays : (s : Shelf) (g : ℕ) (frame out : List ℕ) → (Of (0x91 ∷ 0x93 ∷ []) frame → ⊥)
    → (served s g frame out).shelf ≡ s
unfolding served effect doing
read_stays s g frame out read =
    handled_all (λ h. h.shelf ≡ s) s g frame (length out) (λ house. refl) refl
    (λ e.
    by_function frame (λ function request. (Memᴰ function (0x91 ∷ 0x93 ∷ []) → ⊥) → effect s frame request ≡ s)
    (rw (accepted_decided s g frame e).0 tt)
    (λ no_write. refl)
    (λ no_write. refl)
    (λ no_write. refl)
    (λ no_write. refl)
    (λ no_write. refl)
    (λ no_write. refl)
    (λ no_write. absurd (no_write (Memᴰ.head refl)))
    (λ no_write. absurd (no_write (Memᴰ.tail (Memᴰ.head refl))))
    read)

-- ---- So every request leaves the shelf as it was, or with the full effect of an accepted 91h or 93h.

-- accepted: no house refusal, and 00h for the result
abbrev pub Accepted : Shelf → ℕ → List ℕ → List ℕ → Type 0
Accepted s g frame out = NotRefused s g frame out × (byte (lent_after s g frame out) 2 ≡ 0x00)

module _ (s : Shelf) (placed : Placed s) (g : ℕ) (frame out : List ℕ) where
  -- the shelf afterwards, and the result in the buffer
  abbrev left : Shelf
  left = (served s g frame out).shelf

  abbrev code : ℕ
  code = byte (lent_after s g frame out) 2

  pub request_leaves : (P : Shelf → Type 0) → P s
      → (Accepted s g frame out → function_of frame ≡ 0x91 → ControlPasses s g frame → Controlled s (byte frame 9) (byte frame 10) left → P left)
      → (Accepted s g frame out → function_of frame ≡ 0x93 → Configured s (byte frame 9) frame left → P left)
      → P left
  request_leaves P kept control configure = refusal (eq-zero-or-pos (answer_number (served s g frame out).answer))
    where
      stays : left ≡ s → P left
      stays same = subst⁻¹ P same kept

      by_93 : Accepted s g frame out → (function_of frame ≡ 0x91 → ⊥) → (b : Bool) → eqb (function_of frame) 0x93 ≡ b → P left
      by_93 (answered, drawn) no_91 true e =
          let is_93 : function_of frame ≡ 0x93 = eqb-true (function_of frame) 0x93 e in
          configure (answered, drawn) is_93
          ((placed_configure_write s placed g frame out answered is_93).full ((configure_accepted s g frame out answered is_93).0 drawn))
      by_93 accepted no_91 false e =
          stays
          (read_stays s g frame out
          (λ write. by_each ⊥ (function_of frame) (0x91 ∷ 0x93 ∷ []) write no_91 (eqb-false (function_of frame) 0x93 e)))

      by_91 : Accepted s g frame out → (b : Bool) → eqb (function_of frame) 0x91 ≡ b → P left
      by_91 (answered, drawn) true e =
          let is_91 : function_of frame ≡ 0x91 = eqb-true (function_of frame) 0x91 e in
          let passes : ControlPasses s g frame = (control_accepted s g frame out answered is_91).0 drawn in
          control (answered, drawn) is_91 passes ((placed_control_write s placed g frame out answered is_91).full passes)
      by_91 accepted false e = by_93 accepted (eqb-false (function_of frame) 0x91 e) (eqb (function_of frame) 0x93) refl

      result : NotRefused s g frame out → (code ≡ 0x00) ⊎ (1 ≤ code) → P left
      result answered (inl drawn) = by_91 (answered, drawn) (eqb (function_of frame) 0x91) refl
      result answered (inr some) = stays (failed_result s g frame out code answered refl some).stays

      refusal : (answer_number (served s g frame out).answer ≡ 0) ⊎ (1 ≤ answer_number (served s g frame out).answer) → P left
      refusal (inl answered) = result answered (eq-zero-or-pos code)
      refusal (inr refused) = stays (request_refusal s g frame out refused).0
