-- Demand 1, the house refusals: document 01's table, when each applies; the lowest number that applies is the one that is given; and
-- what a refusal leaves. Assumes nothing.
use Prim.Native.Nat.{ℕ, ◌≤◌, ◌<◌}
use native.Mathlib.Omega.{arith}
use mathlib.Core.Path.{◌≡◌, refl}
use mathlib.Core.Logic.Iff
use mathlib.Core.Logic.{◌↔◌, ◌⊎◌}
use mathlib.Core.Bool.{Bool, not}
use mathlib.Core.List.{List, [], ◌∷◌}
use lib.Dec.{T, ltb, eqb}
use lib.ListN.{length, get_or}
use Rattle.model.specs.declared.Shelf.{Shelf}
use Rattle.model.specs.Bytes.{byte}
use Rattle.model.specs.House.{taken_number, event_number, answer_number, query_number}
use Rattle.model.specs.Reach.{reach_query}
use Rattle.model.specs.Reports.{event_taken, event, link_change_taken, link_change}
use Rattle.model.specs.Request.{cut_frame, wrong_frame}
use Rattle.model.specs.Server.{least_buffer, Handled, answer, lent, served, lent_after}
use Rattle.model.specs.Shelf.{exists, no_shelf, groups_fit, start_taken, start}
use Rattle.model.specs.Sources.{supported}
use Rattle.model.specs.Tests.{within}
use Rattle.model.specs.Zone.{zone_group, legal_table}
use Rattle.model.proofs.Laws.Checks.{answer_number_lem, outcome_taken, outcome_stays}
use Rattle.model.proofs.Laws.Handled.{concluded, handled, concluded_all, handled_all}
use Rattle.model.proofs.Laws.Lowest.{Gives, first_given, no_more, says, row_gives, place_given}
use Rattle.model.proofs.Laws.Tests.{check_map, denied_iff, either_iff, above_iff, ltb_iff, eqb_iff}
use Rattle.model.proofs.Laws.Tests.{within_iff, some_below_iff, not_above}
use Rattle.model.proofs.Plain.Reports.{amount_iff, event_tests, event_number_lem, phy_tests, link_change_number}
use Rattle.model.proofs.Plain.Request.{cut_frame_lem, wrong_frame_lem}
use Rattle.model.proofs.Plain.Start.{start_tests, start_number}
use Rattle.model.proofs.Plain.Zone.{LegalTable, legal_table_lem}

-- ---- "Given exactly when": the table, in three parts and a line to a line

-- H1 to H3, of a start: "phy number not 1 to 24"; "a phy's group is above 31"; "table not legal"
abbrev pub start_refusals : ℕ → List ℕ → List ℕ → List (ℕ × Type 0)
start_refusals n groups table =
    (1, (1 ≤ n) × (n ≤ 24) → ⊥)
    ∷ (2, (p : ℕ) × (p < n) × (31 < get_or groups p 0))
    ∷ (3, LegalTable table → ⊥)
    ∷ []

-- H4 to H6, of a request: "source group above 31"; "response buffer shorter than 1,028 bytes"; "request under 4 bytes", of which by #103
-- "or first byte not 40h" is H10. Of a reach query, H4 alone.
abbrev pub request_refusals : ℕ → List ℕ → List ℕ → List (ℕ × Type 0)
request_refusals g frame out =
    (4, 31 < g)
    ∷ (5, length out < least_buffer)
    ∷ (6, length frame < 4)
    ∷ (10, byte frame 0 ≡ 0x40 → ⊥)
    ∷ []

abbrev pub query_refusals : ℕ → List (ℕ × Type 0)
query_refusals g = (4, 31 < g) ∷ []

-- H7 to H9, of an event report: "phy does not exist"; "event source 00h or unsupported"; "amount above FFh for 2Bh, or above FFFFh
-- for 2Ch". Of a link change, H7 alone.
abbrev pub event_refusals : Shelf → ℕ → ℕ → ℕ → List (ℕ × Type 0)
event_refusals s p source amount =
    (7, T (exists s p) → ⊥)
    ∷ (8, (source ≡ 0x00) ⊎ (T (supported source) → ⊥))
    ∷ (9, ((source ≡ 0x2B) × (0xFF < amount)) ⊎ ((source ≡ 0x2C) × (0xFFFF < amount)))
    ∷ []

abbrev pub link_change_refusals : Shelf → ℕ → List (ℕ × Type 0)
link_change_refusals s p = (7, T (exists s p) → ⊥) ∷ []

-- ---- "The lowest number that applies is given."

pub start_gives : (n : ℕ) (groups table identifier : List ℕ)
    → Gives (start_refusals n groups table) (taken_number (start n groups table identifier).taken)
unfolding start
start_gives n groups table identifier =
    rw (outcome_taken, start_number n groups table)
    (row_gives (start_tests n groups table) (start_refusals n groups table) tt
    (says (denied_iff (within 1 24 n) (within_iff 1 24 n))
    (says some_group_iff
    (says (denied_iff (legal_table table) (legal_table_lem table))
    no_more))))
  where
    some_group_iff : T (not (groups_fit n groups))
        ↔ ((p : ℕ) × (p < n) × (31 < get_or groups p 0))
    some_group_iff =
        Iff.trans (some_below_iff n (λ p. zone_group (get_or groups p 0))) (
          λ h. (h.0, h.1, (above_iff (get_or groups h.0 0) 31).0 h.2),
          λ h. (h.0, h.1, (above_iff (get_or groups h.0 0) 31).1 h.2),
        )

-- the same as tests; nothing after H10 refuses
abbrev request_tests : ℕ → List ℕ → List ℕ → List (ℕ × Bool)
request_tests g frame out =
    (4, ltb 31 g) ∷ (5, ltb (length out) least_buffer) ∷ (6, cut_frame frame) ∷ (10, wrong_frame frame) ∷ []

request_number : (s : Shelf) (g : ℕ) (frame out : List ℕ)
    → answer_number (served s g frame out).answer
    ≡ first_given (request_tests g frame out)
unfolding served
request_number s g frame out = rw (handled s g frame (length out)) (simp (check_map number, answered))
  where
    number : Handled → ℕ
    number h = answer_number (answer h.reply)

    answered : number (concluded s g frame) ≡ 0
    answered = concluded_all (λ h. number h ≡ 0) s g frame refl (λ e. refl)

pub request_gives : (s : Shelf) (g : ℕ) (frame out : List ℕ)
    → Gives (request_refusals g frame out) (answer_number (served s g frame out).answer)
request_gives s g frame out =
    rw (request_number s g frame out)
    (row_gives (request_tests g frame out) (request_refusals g frame out) tt
    (says (ltb_iff 31 g)
    (says (ltb_iff (length out) least_buffer)
    (says (cut_frame_lem frame)
    (says (wrong_frame_lem frame)
    no_more)))))

-- #103, "Tell a cut frame from a wrong one": from a zone group, with room for the response, H6 is given exactly for a frame of under four
-- bytes, and H10 exactly for one of four or more whose first byte is not 40h.
pub cut_told : (s : Shelf) (g : ℕ) (frame out : List ℕ)
    → (answer_number (served s g frame out).answer ≡ 6)
    ↔ ((g ≤ 31) × (least_buffer ≤ length out) × (length frame < 4))
cut_told s g frame out =
    Iff.trans (place_given (request_refusals g frame out) tt (request_gives s g frame out) 2 tt) (
      λ (group, (room, cut)). (not_above group, not_above room, cut),
      λ (group, room, cut). (λ h. omega arith, (λ h. omega arith, cut)),
    )

pub wrong_told : (s : Shelf) (g : ℕ) (frame out : List ℕ)
    → (answer_number (served s g frame out).answer ≡ 10)
    ↔ ((g ≤ 31) × (least_buffer ≤ length out) × (4 ≤ length frame) × (byte frame 0 ≡ 0x40 → ⊥))
wrong_told s g frame out =
    Iff.trans (place_given (request_refusals g frame out) tt (request_gives s g frame out) 3 tt) (
      λ (group, (room, (whole, wrong))). (not_above group, not_above room, not_above whole, wrong),
      λ (group, room, whole, wrong). (λ h. omega arith, (λ h. omega arith, (λ h. omega arith, wrong))),
    )

pub event_gives : (s : Shelf) (p source amount : ℕ)
    → Gives (event_refusals s p source amount) (event_number (event s p source amount).answer)
unfolding event
event_gives s p source amount =
    rw (answer_number_lem, event_number_lem s p source amount)
    (row_gives (event_tests s p source amount) (event_refusals s p source amount) tt
    (says (denied_iff (exists s p) Iff.rfl)
    (says (either_iff (eqb source 0x00) (not (supported source)) (eqb_iff source 0x00) (denied_iff (supported source) Iff.rfl))
    (says (amount_iff source amount)
    no_more))))

pub link_change_gives : (s : Shelf) (p : ℕ)
    → Gives (link_change_refusals s p) (taken_number (link_change s p).taken)
unfolding link_change
link_change_gives s p =
    rw (outcome_taken, link_change_number (exists s p))
    (row_gives (phy_tests (exists s p)) (link_change_refusals s p) tt (says (denied_iff (exists s p) Iff.rfl) no_more))

pub query_gives : (s : Shelf) (g : ℕ) → Gives (query_refusals g) (query_number (reach_query s g))
unfolding reach_query
query_gives s g =
    simp (check_map query_number)
    (row_gives ((4, ltb 31 g) ∷ []) (query_refusals g) tt (says (ltb_iff 31 g) no_more))

-- ---- "The answer holds the number and nothing else; state and buffer stay. A refused start gives no device."

pub start_refusal : (n : ℕ) (groups table identifier : List ℕ) → 1 ≤ taken_number (start n groups table identifier).taken
    → (start n groups table identifier).shelf ≡ no_shelf
unfolding start
start_refusal n groups table identifier = rw outcome_taken (outcome_stays (start_taken n groups table) no_shelf _)

pub request_refusal : (s : Shelf) (g : ℕ) (frame out : List ℕ) → 1 ≤ answer_number (served s g frame out).answer
    → ((served s g frame out).shelf ≡ s) × (lent_after s g frame out ≡ out)
unfolding served lent_after
request_refusal s g frame out =
    handled_all (λ h. 1 ≤ answer_number (answer h.reply) → (h.shelf ≡ s) × (lent out h.reply ≡ out))
    s g frame (length out)
    (λ house refused. (refl, refl))
    (λ refused. absurd (omega arith))
    (λ e refused. absurd (omega arith))

pub event_refusal : (s : Shelf) (p source amount : ℕ) → 1 ≤ event_number (event s p source amount).answer
    → (event s p source amount).shelf ≡ s
unfolding event
event_refusal s p source amount = rw answer_number_lem (outcome_stays (event_taken (exists s p) source amount) s _)

pub link_change_refusal : (s : Shelf) (p : ℕ) → 1 ≤ taken_number (link_change s p).taken → (link_change s p).shelf ≡ s
unfolding link_change
link_change_refusal s p = rw outcome_taken (outcome_stays (link_change_taken (exists s p)) s _)
