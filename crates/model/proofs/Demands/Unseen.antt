-- An operation that is crossed out for a group tells it nothing, and the shelf looks to it as before. And what is crossed out is the
-- same all through a run. Assumes nothing.
use Prim.Native.Nat.{ℕ}
use mathlib.Core.Path.{◌≡◌, refl}
use mathlib.Core.Bool.{false}
use mathlib.Core.List.Memᴰ
use mathlib.Core.List.{List, []}
use borrow.Author.Tests.{ne_eqb}
use lib.Dec.{T, eqb}
use lib.ListN.{length}
use Rattle.model.specs.declared.Shelf.{Shelf}
use Rattle.model.specs.Bytes.{byte}
use Rattle.model.specs.Counting.{event_on}
use Rattle.model.specs.CrossedOut.{about_phy, link_reset_or_disable, crossed_out}
use Rattle.model.specs.Reach.{reaches}
use Rattle.model.specs.Reports.{event_taken, event}
use Rattle.model.specs.Request.{function_of, clears, asked}
use Rattle.model.specs.Runs.{Operation, Ask, Event, LinkChange, ReducedFunctionality, Ses, QueryReach, next, told}
use Rattle.model.specs.Shelf.{exists}
use Rattle.model.specs.Writes.{controlled, configured, doing, effect}
use Rattle.model.proofs.Demands.Looks.{looks, looks_stays}
use Rattle.model.proofs.Laws.Checks.{every_outcome}
use Rattle.model.proofs.Laws.Handled.{handled_all}
use Rattle.model.proofs.Laws.PhyChanges.{Quiet, event_inner, configured_inner, controlled_inner}
use Rattle.model.proofs.Laws.Steps.{SameZones}
use Rattle.model.proofs.Laws.Tests.{is_false, by_each}
use Rattle.model.proofs.Plain.CrossedOut.{CrossedRequest, crossed_request_iff, crossed_event_iff}
use Rattle.model.proofs.Plain.Request.{phy_functions, asked_91, asked_93}

-- ---- a request

-- a 91h that is neither link reset nor disable leaves the change count, and the phy enabled or not as it was
quiet_control : (operation : ℕ) → eqb operation 0x01 ≡ false → eqb operation 0x03 ≡ false → Quiet (controlled operation)
quiet_control operation not_reset not_disable =
    record {
      group = (controlled_inner operation).group;
      enabled = λ x. rw (not_reset, not_disable) at ((controlled_inner operation).enabled x);
      change = λ x. rw (not_reset, not_disable) at ((controlled_inner operation).change x);
      change0 = (controlled_inner operation).change0;
    }

-- Group 1 reaches every phy, as in a legal table. (It may ask for the stored peak events, which tell about every phy.)
abbrev pub OneReachesAll : ℕ → Shelf → Type 0
OneReachesAll g s = g ≡ 1 → (p : ℕ) → T (exists s p) → T (reaches s g p)

module _ (g : ℕ) (s : Shelf) (all : OneReachesAll g s) where
  -- the effect of a crossed-out request, by its function
  unseen_effect : (h : ℕ) (frame : List ℕ) → CrossedRequest g s h frame
      → looks g (effect s frame (asked frame)) ≡ looks g s
  unfolding effect doing asked
  unseen_effect h frame crossed =
      by_each (looks g (effect s frame (asked frame)) ≡ looks g s) (function_of frame) phy_functions crossed.about.0
      (λ e. rw e)
      (λ e. rw e)
      control
      configure
    where
      out : reaches s g (byte frame 9) ≡ false
      out = is_false (reaches s g (byte frame 9)) crossed.unreached

      other : g ≡ 1 → ⊥
      other one = crossed.unreached (all one (byte frame 9) crossed.about.2)

      control : function_of frame ≡ 0x91 → looks g (effect s frame (asked frame)) ≡ looks g s
      control e =
          let no_reset : eqb (byte frame 10) 0x01 ≡ false =
          ne_eqb (byte frame 10) 0x01 (λ same. crossed.no_reset_or_disable (crossed.about, e, Memᴰ.head same)) in
          let no_disable : eqb (byte frame 10) 0x03 ≡ false =
          ne_eqb (byte frame 10) 0x03
          (λ same. crossed.no_reset_or_disable (crossed.about, e, Memᴰ.tail (Memᴰ.head same))) in
          rw (asked_91 frame e)
          (looks_stays g s (byte frame 9) (controlled (byte frame 10)) (quiet_control (byte frame 10) no_reset no_disable) other
          out)

      configure : function_of frame ≡ 0x93 → looks g (effect s frame (asked frame)) ≡ looks g s
      configure e =
          rw (asked_93 frame e)
          (looks_stays g s (byte frame 9) (configured frame (byte frame 11) (clears frame))
          (configured_inner frame (byte frame 11) (clears frame))
          other
          out)

  -- ---- every crossed-out operation

  pub crossed_unseen : (operation : Operation) → T (crossed_out g s operation)
      → looks g (next s operation) ≡ looks g s
  unfolding next event crossed_out
  crossed_unseen (Ask h frame out) t =
      handled_all (λ x. looks g x.shelf ≡ looks g s) s h frame (length out) (λ house. refl) refl
      (λ e. unseen_effect h frame ((crossed_request_iff g s h frame out).0 t))
  crossed_unseen (Event p source amount) t =
      every_outcome (λ t. looks g t ≡ looks g s) (event_taken (exists s p) source amount) s _ refl
      (λ done.
      let (there, unreached) = (crossed_event_iff g s p source amount).0 t in
      looks_stays g s p (event_on source amount) (event_inner source amount) (λ one. unreached (all one p there))
      (is_false (reaches s g p) unreached))
  crossed_unseen (LinkChange p) t = absurd t
  crossed_unseen ReducedFunctionality t = absurd t
  crossed_unseen Ses t = absurd t
  crossed_unseen (QueryReach h) t = absurd t

module _ (g : ℕ) (s : Shelf) where
  pub crossed_untold : (operation : Operation) → T (crossed_out g s operation) → told g s operation ≡ []
  unfolding told crossed_out
  crossed_untold (Ask h frame out) t =
      rw (ne_eqb h g ((crossed_request_iff g s h frame out).0 t).of_another)
  crossed_untold (Event p source amount) t = refl
  crossed_untold (LinkChange p) t = refl
  crossed_untold ReducedFunctionality t = refl
  crossed_untold Ses t = refl
  crossed_untold (QueryReach h) t = absurd t

-- ---- what is crossed out, and what group 1 reaches, is the same all through a run

pub reaches_all_zones : (g : ℕ) (s t : Shelf) → SameZones s t → OneReachesAll g s → OneReachesAll g t
reaches_all_zones g s t same all one p there =
    rw (same.fixed.table, same.groups p) (all one p (rw same.fixed.number at there))

pub crossed_zones : (g : ℕ) (s t : Shelf) (operation : Operation) → SameZones s t
    → crossed_out g t operation ≡ crossed_out g s operation
unfolding crossed_out about_phy link_reset_or_disable
crossed_zones g s t (Ask h frame out) same =
    rw (same.fixed.number, same.fixed.table, same.groups (byte frame 9))
crossed_zones g s t (Event p source amount) same = rw (same.fixed.number, same.fixed.table, same.groups p)
crossed_zones g s t (LinkChange p) same = refl
crossed_zones g s t ReducedFunctionality same = refl
crossed_zones g s t Ses same = refl
crossed_zones g s t (QueryReach h) same = refl
