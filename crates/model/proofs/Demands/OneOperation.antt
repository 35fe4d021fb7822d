-- One operation, as a source group sees it: what it is told, and how the shelf looks afterwards, depend on how the shelf looked before
-- alone. Assumes nothing.
use Prim.Native.Nat.{ℕ}
use mathlib.Core.Path.{◌≡◌, refl, ap, fun_ext}
use mathlib.Core.Bool.{Bool, true, false, cond}
use mathlib.Core.List.{List, [], ◌∷◌, ◌++◌}
use borrow.Author.Tests.{eqb-true}
use lib.Dec.{eqb}
use lib.ListN.{length}
use Rattle.model.specs.declared.Request.{Request}
use Rattle.model.specs.declared.Request.TheVariants.{ReportGeneral, ReportManufacturer, ReportBroadcast}
use Rattle.model.specs.declared.Request.TheVariants.{ReportPhyErrorLog, ReportPhyEvent, ReportPhyEventList, PhyControl, ConfigurePhyEvent}
use Rattle.model.specs.declared.Shelf.{Shelf}
use Rattle.model.specs.Answers.{Taken}
use Rattle.model.specs.Counting.{originate, event_on}
use Rattle.model.specs.Reach.{reaches, reach_set, reach_number, reach_query}
use Rattle.model.specs.Reply.{device_listed, phy_listed, broadcasts, broadcast_frame, report_general, report_manufacturer}
use Rattle.model.specs.Reply.{report_broadcast, report_phy_error_log, report_phy_event, report_phy_event_list, respond}
use Rattle.model.specs.Reports.{event_taken, event, link_change_taken, link_change_on, link_change, reduced_functionality, ses_notice}
use Rattle.model.specs.Request.{asked}
use Rattle.model.specs.Results.{accepted, grounds, result_of, decide}
use Rattle.model.specs.Runs.{Operation, Ask, Event, LinkChange, ReducedFunctionality, Ses, QueryReach, next, told}
use Rattle.model.specs.Runs.{Told, Answered, Shown}
use Rattle.model.specs.Server.{Handled, Sends, handle, lent, answer, served, lent_after}
use Rattle.model.specs.Shelf.{phy_number, exists, shelf_with, outcome}
use Rattle.model.specs.Tests.{join_below}
use Rattle.model.specs.Writes.{Doing, Reads, WritesTo, doing, done, effect}
use Rattle.model.proofs.Demands.Looks.{looks, looks_reaches, looks_reached, looks_store, looks_twice, looks_change}
use Rattle.model.proofs.Laws.Checks.{both_outcomes, read_passed, management_passed}
use Rattle.model.proofs.Laws.Handled.{verdict, both_handled, both_concluded, accepted_decided}
use Rattle.model.proofs.Laws.PhyChanges.{OfWrite, every_write, Inner, event_inner, link_change_inner}
use Rattle.model.proofs.Laws.PhyChanges.{configured_inner, enables_by, originates_by, controlled_inner}
use Rattle.model.proofs.Laws.Picked.{only_if_same}
use Rattle.model.proofs.Plain.Reply.{of_phy}

-- ---- judging

module _ (g : ℕ) (s : Shelf) where
  looks_decides : (h : ℕ) (frame : List ℕ) (request : Request)
      → decide (looks g s) h frame request ≡ decide s h frame request
  unfolding decide
  looks_decides h frame request = simp (looks_reaches g s)

  looks_verdict : (h : ℕ) (frame : List ℕ) → verdict (looks g s) h frame ≡ verdict s h frame
  unfolding verdict
  looks_verdict h frame = rw (looks_decides h frame (asked frame))

  -- ---- the effect of a request

  looks_done : (does : Doing)
      → OfWrite (λ p f. (enables : Bool → Bool) × (originates : Bool → Bool) × Inner f enables originates) does
      → looks g (done (looks g s) does) ≡ looks g (done s does)
  looks_done Reads inner = looks_twice g s
  looks_done (WritesTo p f) (enables, originates, inner) = looks_change g s p f inner

  looks_effect : (frame : List ℕ) (request : Request)
      → looks g (effect (looks g s) frame request) ≡ looks g (effect s frame request)
  unfolding effect
  looks_effect frame request =
      looks_done (doing frame request)
      (every_write (λ f. (enables : Bool → Bool) × (originates : Bool → Bool) × Inner f enables originates) frame
      (λ operation. (enables_by operation, originates_by operation, controlled_inner operation))
      (λ d clear. (λ b. b, λ b. false, configured_inner frame d clear))
      request)

  -- ---- responses to g itself

  looks_broadcasts : (kind : ℕ) → broadcasts (looks g s) g kind ≡ broadcasts s g kind
  unfolding broadcasts device_listed
  looks_broadcasts kind = ap (λ of. device_listed kind s.expander3 s.ses0 ++ join_below (phy_number s) of) (fun_ext each)
    where
      each : (p : ℕ) → of_phy (looks g s) g kind p ≡ of_phy s g kind p
      each p =
          rw (looks_reaches g s g p)
          (only_if_same (reaches s g p) _ _ (λ e. ap (phy_listed kind p) (looks_reached g s p e)))

  looks_respond : (frame : List ℕ) (request : Request) → accepted (decide s g frame request) ≡ true
      → respond (looks g s) g request ≡ respond s g request
  unfolding respond report_general report_manufacturer report_broadcast report_phy_error_log report_phy_event decide result_of
  looks_respond frame ReportGeneral e = refl
  looks_respond frame ReportManufacturer e = refl
  looks_respond frame (ReportBroadcast kind) e = ap (broadcast_frame s.changes kind) (looks_broadcasts kind)
  looks_respond frame (ReportPhyErrorLog p) e = ap (report_phy_error_log s.changes p) (looks_reached g s p (read_passed (grounds s g p) e).1)
  looks_respond frame (ReportPhyEvent p) e = ap (report_phy_event s.changes p) (looks_reached g s p (read_passed (grounds s g p) e).1)
  looks_respond frame (ReportPhyEventList start) e =
      ap (λ k. report_phy_event_list s.changes k start) (looks_store g s (eqb-true g 1 (management_passed (grounds s g 0) e)))
  looks_respond frame (PhyControl expected p operation) e = refl
  looks_respond frame (ConfigurePhyEvent expected clear p d) e = refl

  -- ---- requests

  looks_handle : (h : ℕ) (frame : List ℕ) (room : ℕ)
      → looks g (handle (looks g s) h frame room).shelf ≡ looks g (handle s h frame room).shelf
  looks_handle h frame room =
      both_handled alike (looks g s) s h frame room (λ house. looks_twice g s)
      (both_concluded alike (looks g s) s h frame (looks_verdict h frame)
      (λ e. looks_twice g s)
      (λ e. looks_effect frame (asked frame)))
    where
      alike : Handled → Handled → Type 0
      alike x y = looks g x.shelf ≡ looks g y.shelf

  looks_reply : (frame : List ℕ) (room : ℕ)
      → (handle (looks g s) g frame room).reply ≡ (handle s g frame room).reply
  looks_reply frame room =
      both_handled alike (looks g s) s g frame room (λ house. refl)
      (both_concluded alike (looks g s) s g frame (looks_verdict g frame)
      (λ e. refl)
      (λ e. ap Sends (looks_respond frame (asked frame) (accepted_decided s g frame e).2)))
    where
      alike : Handled → Handled → Type 0
      alike x y = x.reply ≡ y.reply

  looks_query : reach_query (looks g s) g ≡ reach_query s g
  unfolding reach_query reach_set reach_number
  looks_query = simp (looks_reaches g s g)

  -- ---- every operation

  -- the same report on both shelves
  looks_outcome : (taken : Taken) (new new' : Shelf) → looks g new ≡ looks g new'
      → looks g (outcome taken (looks g s) new).shelf ≡ looks g (outcome taken s new').shelf
  looks_outcome taken new new' e =
      both_outcomes (λ x y. looks g x ≡ looks g y) taken (looks g s) s new new' (looks_twice g s) (λ done. e)

  -- how the shelf looks afterwards
  pub looks_next : (operation : Operation) → looks g (next (looks g s) operation) ≡ looks g (next s operation)
  unfolding next event event_taken link_change reduced_functionality ses_notice
  looks_next (Ask h frame out) = looks_handle h frame (length out)
  looks_next (Event p source amount) =
      looks_outcome (event_taken (exists s p) source amount) _ _
      (looks_change g s p (event_on source amount) (event_inner source amount))
  looks_next (LinkChange p) =
      looks_outcome (link_change_taken (exists s p)) _ _
      (looks_change g s p link_change_on link_change_inner)
  looks_next ReducedFunctionality =
      ap (λ t. shelf_with t t.phys t.changes (originate s.expander3) t.ses0 t.store) (looks_twice g s)
  looks_next Ses =
      ap (λ t. shelf_with t t.phys t.changes t.expander3 (originate s.ses0) t.store) (looks_twice g s)
  looks_next (QueryReach h) = looks_twice g s

  -- what g is told: the same of its own, and nothing of another's
  same_own : (h : ℕ) (x y : Told) → (h ≡ g → x ≡ y) → cond (eqb h g) (x ∷ []) [] ≡ cond (eqb h g) (y ∷ []) []
  same_own h x y same =
      only_if_same (eqb h g) (x ∷ []) (y ∷ []) (λ e. ap (λ told. told ∷ []) (same (eqb-true h g e)))

  pub looks_told : (operation : Operation) → told g (looks g s) operation ≡ told g s operation
  unfolding told served lent_after
  looks_told (Ask h frame out) =
      same_own h _ _
      (λ e. rw e (ap (λ reply. Answered (answer reply) (lent out reply)) (looks_reply frame (length out))))
  looks_told (Event p source amount) = refl
  looks_told (LinkChange p) = refl
  looks_told ReducedFunctionality = refl
  looks_told Ses = refl
  looks_told (QueryReach h) = same_own h _ _ (λ e. rw e (ap Shown looks_query))
