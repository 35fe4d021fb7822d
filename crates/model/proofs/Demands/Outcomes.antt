-- "Every request frame, any source group and any hardware report gets its fixed answer": each has exactly one outcome, and none is missing.
-- That there is at most one needs no proof: `start`, `served`, `lent_after`, `event`, `link_change`, the two notices and `reach_query` are
-- functions, with a value for all shelves, numbers and lists. That each of these values is one of those that document 01 names is shown
-- here, with when it comes. Assumes nothing.
use Rattle.std.specs.Prelude.{Ok, Err}
use Prim.Native.Nat.{ℕ, ◌≤◌, ◌<◌}
use native.Mathlib.Nat.{eq-zero-or-pos}
use native.Mathlib.Omega.{arith}
use mathlib.Core.Path.{◌≡◌, refl, sym, ap, subst, ◌∙◌}
use mathlib.Core.Logic.{◌↔◌, ◌⊎◌, inl, inr}
use mathlib.Core.Bool.{Bool, true, false, cond}
use mathlib.Core.List.{List, map}
use borrow.Author.Tests.{ltb-true, ltb-false, eq-eqb, ne_eqb}
use lib.Dec.{T, ltb, eqb}
use Rattle.model.specs.declared.House.TheVariants.{SourceGroup}
use Rattle.model.specs.declared.Outcome.{Outcome}
use Rattle.model.specs.declared.Shelf.{Shelf}
use Rattle.model.specs.Answers.{EventAnswer, Taken, reach_gives, told_cut}
use Rattle.model.specs.Bytes.{byte}
use Rattle.model.specs.Counting.{originate, crossed, event_on, change_on}
use Rattle.model.specs.House.{house_number, taken_number, event_number, answer_number}
use Rattle.model.specs.Reach.{reach_set, reach_number, reach_query}
use Rattle.model.specs.Reports.{event_taken, event, link_change_taken, link_change_on, link_change, reduced_functionality, ses_notice}
use Rattle.model.specs.Server.{served, lent_after}
use Rattle.model.specs.Shelf.{exists, phy_at, put, put_device, put_store, entry_of, fresh_shelf, no_shelf, outcome, start_taken, start}
use Rattle.model.specs.Store.{store_all}
use Rattle.model.proofs.Demands.Cut.{CutBy, event_told_lem}
use Rattle.model.proofs.Demands.Refusals.{start_refusals, request_refusals, event_refusals, link_change_refusals, start_gives}
use Rattle.model.proofs.Demands.Refusals.{request_gives, event_gives, link_change_gives, request_refusal, event_refusal}
use Rattle.model.proofs.Demands.Results.{failures, NotRefused, result_drawn, Failed, failed_result, Granted}
use Rattle.model.proofs.Demands.Results.{granted_result}
use Rattle.model.proofs.Laws.Checks.{house_some, counted_iff}
use Rattle.model.proofs.Laws.Drawn.{Draws}
use Rattle.model.proofs.Laws.Lowest.{Applies, Lowest, Gives}
use Rattle.model.proofs.Plain.Reach.{reach_answered, reach_refused}
use Rattle.model.proofs.Plain.Store.{event_stores}
use Rattle.model.proofs.Plain.Writes.{change_stores}

-- ---- A request is refused, or it fails, or it is accepted.

pub data RequestEnds (s : Shelf) (g : ℕ) (frame out : List ℕ) : Type 0 where
  -- by house refusal k, the lowest that applies; shelf and buffer stay
  IsRefused : (k : ℕ) → 1 ≤ k → answer_number (served s g frame out).answer ≡ k → Lowest (request_refusals g frame out) k
      → (served s g frame out).shelf ≡ s → lent_after s g frame out ≡ out → RequestEnds s g frame out
  -- with the code of its first failure; the shelf stays
  HasFailed : (code : ℕ) → 1 ≤ code → NotRefused s g frame out → Draws (failures s g frame) code
      → Failed s g frame out code → RequestEnds s g frame out
  -- where nothing fails, with its response and its effect
  IsAccepted : NotRefused s g frame out → Draws (failures s g frame) 0x00 → Granted s g frame out → RequestEnds s g frame out

pub every_request : (s : Shelf) (g : ℕ) (frame out : List ℕ) → RequestEnds s g frame out
every_request s g frame out = refusal (eq-zero-or-pos (answer_number (served s g frame out).answer))
  where
    code : ℕ
    code = byte (lent_after s g frame out) 2

    result : NotRefused s g frame out → (code ≡ 0) ⊎ (1 ≤ code) → RequestEnds s g frame out
    result answered (inl e) =
        IsAccepted answered ((result_drawn s g frame out answered 0x00).0 e) (granted_result s g frame out answered e)
    result answered (inr some) =
        HasFailed code some answered ((result_drawn s g frame out answered code).0 refl)
        (failed_result s g frame out code answered refl some)

    refusal : (answer_number (served s g frame out).answer ≡ 0) ⊎ (1 ≤ answer_number (served s g frame out).answer)
        → RequestEnds s g frame out
    refusal (inl answered) = result answered (eq-zero-or-pos code)
    refusal (inr some) =
        let (shelf, buffer) = request_refusal s g frame out some in
        IsRefused (answer_number (served s g frame out).answer) some refl
        (((request_gives s g frame out).each (answer_number (served s g frame out).answer)).0 (some, refl))
        shelf
        buffer

-- No two of them come together: which it is, is settled by what was told and by byte 2 of the buffer.
abbrev pub end_kind : {s : Shelf} {g : ℕ} {frame out : List ℕ} → RequestEnds s g frame out → ℕ
end_kind (IsRefused k from told lowest shelf buffer) = 0
end_kind (HasFailed code some answered drawn failed) = 1
end_kind (IsAccepted answered drawn granted) = 2

kind_told : (s : Shelf) (g : ℕ) (frame out : List ℕ) (a : RequestEnds s g frame out)
    → end_kind a
    ≡ cond (eqb (answer_number (served s g frame out).answer) 0) (cond (eqb (byte (lent_after s g frame out) 2) 0x00) 2 1) 0
kind_told s g frame out (IsRefused k from told lowest shelf buffer) =
    rw (ne_eqb (answer_number (served s g frame out).answer) 0 (λ e. omega arith))
kind_told s g frame out (HasFailed code some answered drawn failed) =
    let is : byte (lent_after s g frame out) 2 ≡ code = (result_drawn s g frame out answered code).1 drawn in
    rw (eq-eqb (answer_number (served s g frame out).answer) 0 answered, ne_eqb (byte (lent_after s g frame out) 2) 0x00 (λ e. omega arith))
kind_told s g frame out (IsAccepted answered drawn granted) =
    rw (
      eq-eqb (answer_number (served s g frame out).answer) 0 answered,
      eq-eqb (byte (lent_after s g frame out) 2) 0x00 ((result_drawn s g frame out answered 0x00).1 drawn),
    )

pub one_end : (s : Shelf) (g : ℕ) (frame out : List ℕ) (a b : RequestEnds s g frame out) → end_kind a ≡ end_kind b
one_end s g frame out a b = kind_told s g frame out a ∙ sym (kind_told s g frame out b)

-- ---- A start and a link change is refused, or done.

pub data TakenEnds (refusals : List (ℕ × Type 0)) (old new : Shelf) (o : Outcome) : Type 0 where
  NotTaken : (k : ℕ) → 1 ≤ k → taken_number o.taken ≡ k → Lowest refusals k → o.shelf ≡ old
      → TakenEnds refusals old new o
  TakenDone : o.taken ≡ Ok tt → ((k : ℕ) → Applies refusals k → ⊥) → o.shelf ≡ new
      → TakenEnds refusals old new o

every_taken : (refusals : List (ℕ × Type 0)) (taken : Taken) (old new : Shelf)
    → Gives refusals (taken_number (outcome taken old new).taken) → TakenEnds refusals old new (outcome taken old new)
every_taken refusals (Ok done) old new gives = TakenDone refl (gives.none.0 refl) refl
every_taken refusals (Err house) old new gives =
    let some : 1 ≤ house_number house = house_some house in
    NotTaken (house_number house) some refl ((gives.each (house_number house)).0 (some, refl)) refl

pub every_start : (n : ℕ) (groups table identifier : List ℕ)
    → TakenEnds (start_refusals n groups table) no_shelf (fresh_shelf n groups table identifier) (start n groups table identifier)
unfolding start
every_start n groups table identifier =
    every_taken (start_refusals n groups table) (start_taken n groups table) no_shelf (fresh_shelf n groups table identifier)
    (start_gives n groups table identifier)

pub every_link_change : (s : Shelf) (p : ℕ)
    → TakenEnds (link_change_refusals s p) s (put s p (link_change_on (phy_at s p)).phy (originate s.changes)) (link_change s p)
unfolding link_change change_on
every_link_change s p =
    let new : Shelf = put s p (link_change_on (phy_at s p)).phy (originate s.changes) in
    subst (λ t. TakenEnds (link_change_refusals s p) s t (link_change s p))
    (ap (put_store new) (change_stores s.store p (phy_at s p).enabled (phy_at s p)))
    (every_taken (link_change_refusals s p) (link_change_taken (exists s p)) s _ (link_change_gives s p))

-- ---- An event report is refused, or counted, and is told whether its own addition was cut (#104).

-- the shelf that a counted report leaves
abbrev pub after_report : Shelf → ℕ → ℕ → ℕ → Shelf
after_report s p source amount =
    put_store (put s p (event_on source amount (phy_at s p)).phy s.changes)
    (store_all s.store (map (entry_of p) (crossed source amount (phy_at s p).monitors)))

pub data EventEnds (s : Shelf) (p source amount : ℕ) : Type 0 where
  NotHeard : (k : ℕ) → 1 ≤ k → event_number (event s p source amount).answer ≡ k → Lowest (event_refusals s p source amount) k
      → (event s p source amount).shelf ≡ s → EventEnds s p source amount
  IsCounted : (cut : Bool) → (event s p source amount).answer ≡ told_cut cut → T cut ↔ CutBy s p source amount
      → ((k : ℕ) → Applies (event_refusals s p source amount) k → ⊥)
      → (event s p source amount).shelf ≡ after_report s p source amount → EventEnds s p source amount

pub every_event : (s : Shelf) (p source amount : ℕ) → EventEnds s p source amount
unfolding event event_on
every_event s p source amount = go (event s p source amount).answer refl
  where
    go : (answer : EventAnswer) → (event s p source amount).answer ≡ answer → EventEnds s p source amount
    go (Ok counted) told =
        let (taken, _) = (counted_iff (event_taken (exists s p) source amount) _ counted.cut).0 told in
        IsCounted counted.cut told ((event_told_lem s p source amount counted.cut).0 told).1 ((event_gives s p source amount).none.0 (ap event_number told))
        (rw taken (ap (λ k. put_store (put s p (event_on source amount (phy_at s p)).phy s.changes) k)
        (event_stores s.store p source amount (phy_at s p))))
    go (Err house) told =
        let some : 1 ≤ house_number house = house_some house in
        let number : event_number (event s p source amount).answer ≡ house_number house = ap event_number told in
        NotHeard (house_number house) some number (((event_gives s p source amount).each (house_number house)).0 (some, number))
        (event_refusal s p source amount (rw number some))

-- ---- A reach query is refused with H4, or answered with both numbers; a device notice is always done.

pub every_query : (s : Shelf) (g : ℕ)
    → ((31 < g) × (reach_query s g ≡ Err SourceGroup))
    ⊎ ((g ≤ 31) × (reach_query s g ≡ reach_gives (reach_set s g) (reach_number s g)))
every_query s g = go (ltb 31 g) refl
  where
    go : (above : Bool) → ltb 31 g ≡ above
        → ((31 < g) × (reach_query s g ≡ Err SourceGroup))
        ⊎ ((g ≤ 31) × (reach_query s g ≡ reach_gives (reach_set s g) (reach_number s g)))
    go true e = let h = ltb-true 31 g e in inl (h, reach_refused s g h)
    go false e = let h = ltb-false 31 g e in inr (h, reach_answered s g h)

pub every_notice : (s : Shelf)
    → (reduced_functionality s ≡ put_device s (originate s.expander3) s.ses0)
    × (ses_notice s ≡ put_device s s.expander3 (originate s.ses0))
unfolding reduced_functionality ses_notice
every_notice s = (refl, refl)
