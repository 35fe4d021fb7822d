-- What one operation does to one error count, by what is said of its whole effect: a report of its phy and source adds, an accepted 05h of
-- its phy sets it to 0, and everything else leaves it. And a start has it at 0. Assumes nothing.
use Rattle.std.specs.Prelude.{Err, Ok}
use Prim.Native.Nat.{ℕ, ◌+◌, ◌≤◌, ◌<◌, min}
use mathlib.Core.Path.{◌≡◌, refl, sym, ap, subst, subst⁻¹, ◌∙◌}
use mathlib.Core.Bool.{Bool, true, false}
use mathlib.Core.List.{List, Memᴰ}
use borrow.Author.Tests.{ltb-true, ltb-false, eqb-true, eqb-false}
use lib.Dec.{ltb, eqb}
use Rattle.model.specs.declared.House.{House}
use Rattle.model.specs.declared.Phy.{Phy}
use Rattle.model.specs.declared.Shelf.{Shelf}
use Rattle.model.specs.Answers.{EventAnswer, told_cut}
use Rattle.model.specs.Bytes.{byte}
use Rattle.model.specs.Counting.{change_on}
use Rattle.model.specs.Fits.{Placed}
use Rattle.model.specs.House.{event_number}
use Rattle.model.specs.Reply.{error_at}
use Rattle.model.specs.Reports.{event, link_change_taken, link_change_on, link_change}
use Rattle.model.specs.Request.{function_of}
use Rattle.model.specs.Server.{served}
use Rattle.model.specs.Shelf.{no_phy, exists, phy_at, fresh_shelf, no_shelf, start_taken, start}
use Rattle.model.proofs.Demands.Configured.{Configured}
use Rattle.model.proofs.Demands.Controlled.{Has, change_originated, errorless, Controlled}
use Rattle.model.proofs.Demands.Events.{placed_event_effect}
use Rattle.model.proofs.Demands.Refusals.{event_refusal}
use Rattle.model.proofs.Demands.Writes.{Accepted, control_accepted, placed_control_write, request_leaves}
use Rattle.model.proofs.Laws.Checks.{house_some, every_outcome}
use Rattle.model.proofs.Laws.Places.{change_at, replicate_each}
use Rattle.model.proofs.Laws.Tests.{by_each}
use Rattle.model.proofs.Plain.Results.{known_operations}
use Rattle.model.proofs.Plain.Shelf.{OnlyPhy}
use Rattle.model.proofs.Plain.Start.{fresh_phys_lem, fresh_past}

-- error count k of phy p
abbrev pub count_of : ℕ → ℕ → Shelf → ℕ
count_of p k s = error_at (phy_at s p) k

-- an accepted 91h of phy p with 05h
abbrev pub Clears : ℕ → Shelf → ℕ → List ℕ → List ℕ → Type 0
Clears p s g frame out = ((function_of frame ≡ 0x91) × (byte frame 9 ≡ p) × (byte frame 10 ≡ 0x05)) × Accepted s g frame out

-- of four counts at 0, and past them, each is 0
zeros : (x : Phy) (k : ℕ) → error_at (errorless x) k ≡ 0
zeros x k = replicate_each (λ n. n ≡ 0) 0 4 refl k

-- ---- A start, a refused report, a link change

fresh_count : (n : ℕ) (groups table identifier : List ℕ) (p k : ℕ) → count_of p k (fresh_shelf n groups table identifier) ≡ 0
fresh_count n groups table identifier p k = go (ltb p 24) refl
  where
    go : (b : Bool) → ltb p 24 ≡ b → count_of p k (fresh_shelf n groups table identifier) ≡ 0
    go true e = ap (λ x. error_at x k) (fresh_phys_lem n groups table identifier p (ltb-true p 24 e)) ∙ zeros no_phy k
    go false e = ap (λ x. error_at x k) (fresh_past n groups table identifier p (ltb-false p 24 e)) ∙ zeros no_phy k

pub start_count : (n : ℕ) (groups table identifier : List ℕ) (p k : ℕ) → count_of p k (start n groups table identifier).shelf ≡ 0
unfolding start no_shelf
start_count n groups table identifier p k =
    every_outcome (λ t. count_of p k t ≡ 0) (start_taken n groups table) no_shelf _ (fresh_count _ _ _ _ p k)
    (λ done. fresh_count n groups table identifier p k)

pub refused_stays : (s : Shelf) (p source amount : ℕ) {house : House} → (event s p source amount).answer ≡ Err house
    → (event s p source amount).shelf ≡ s
refused_stays s p source amount {house} told =
    event_refusal s p source amount (subst⁻¹ (λ n. 1 ≤ n) (ap event_number told) (house_some house))

pub link_change_keeps : (s : Shelf) (p k q : ℕ) → count_of p k (link_change s q).shelf ≡ count_of p k s
unfolding link_change change_on
link_change_keeps s p k q =
    every_outcome (λ t. count_of p k t ≡ count_of p k s) (link_change_taken (exists s q)) s _ refl
    (λ done. change_at (λ x. error_at x k ≡ count_of p k s) no_phy (λ x. (link_change_on x).phy) (λ x same. same) s.phys q p refl)

module _ (s : Shelf) (placed : Placed s) (p k : ℕ) (below : k < 4) where
  abbrev Keeps : Shelf → Type 0
  Keeps t = count_of p k t ≡ count_of p k s

  -- where phy q alone is changed, the count stays if it is of another phy, or if what is done to this one leaves it
  on_this_phy : {q : ℕ} {t : Shelf} → OnlyPhy s q t → (q ≡ p → Keeps t) → Keeps t
  on_this_phy {q} {t} only here = go (eqb p q) refl
    where
      go : (b : Bool) → eqb p q ≡ b → Keeps t
      go true e = here (sym (eqb-true p q e))
      go false e = ap (λ x. error_at x k) (only.others p (eqb-false p q e))

  -- ---- A report

  pub report_adds : (amount : ℕ) {cut : Bool} → (event s p (k + 1) amount).answer ≡ told_cut cut
      → count_of p k (event s p (k + 1) amount).shelf ≡ min (count_of p k s + amount) 0xFFFFFFFF
  report_adds amount told = (placed_event_effect s placed p (k + 1) amount told).phy.error_added k below refl

  pub report_keeps : (q source amount : ℕ) → (q ≡ p → source ≡ k + 1 → ⊥) → Keeps (event s q source amount).shelf
  report_keeps q source amount other = go (event s q source amount).answer refl
    where
      go : (answer : EventAnswer) → (event s q source amount).answer ≡ answer → Keeps (event s q source amount).shelf
      go (Err house) told = ap (count_of p k) (refused_stays s q source amount told)
      go (Ok counted) told =
          let heard = placed_event_effect s placed q source amount told in
          on_this_phy heard.only (λ here. rw (sym here) (heard.phy.error_kept k below (other here)))

  -- ---- A write that is accepted

  control_clears : {q operation : ℕ} {t : Shelf} → Controlled s q operation t → q ≡ p → operation ≡ 0x05 → count_of p k t ≡ 0
  control_clears {t = t} done here clear =
      ap (λ x. error_at x k) (subst (λ n. phy_at t n ≡ errorless (phy_at s n)) here (done.clear_errors clear).0) ∙ zeros (phy_at s p) k

  control_keeps : {q operation : ℕ} {t : Shelf} → Controlled s q operation t → Memᴰ operation known_operations
      → (q ≡ p → operation ≡ 0x05 → ⊥) → Keeps t
  control_keeps {q} {operation} {t} done known other =
      on_this_phy done.only
      (λ here.
      by_each (Keeps t) operation known_operations known
      (λ none. ap (count_of p k) (done.none none))
      (λ reset. left here (done.link_reset reset))
      (λ disable. disabled here disable (phy_at s q).enabled refl)
      (λ clear. absurd (other here clear)))
    where
      -- Change is originated, and all else is as it was
      left : {enabled : Bool} {n : ℕ} → q ≡ p → Has t q (change_originated (phy_at s q) enabled) n → Keeps t
      left here (is, _) = rw (sym here) (ap (λ x. error_at x k) is)

      disabled : q ≡ p → operation ≡ 0x03 → (on : Bool) → (phy_at s q).enabled ≡ on → Keeps t
      disabled here e true on = left here (done.disable e on)
      disabled here e false off = ap (count_of p k) (done.disabled_already e off)

  configure_keeps : {q : ℕ} {frame : List ℕ} {t : Shelf} → Configured s q frame t → Keeps t
  configure_keeps done = on_this_phy done.only (λ here. rw (sym here) (ap (λ x. error_at x k) done.rest))

  -- ---- A request

  module _ (g : ℕ) (frame out : List ℕ) where
    pub request_clears : Clears p s g frame out → count_of p k (served s g frame out).shelf ≡ 0
    request_clears ((e, here, clear), (answered, drawn)) =
        control_clears
        ((placed_control_write s placed g frame out answered e).full ((control_accepted s g frame out answered e).0 drawn))
        here
        clear

    pub request_keeps : (Clears p s g frame out → ⊥) → Keeps (served s g frame out).shelf
    request_keeps other =
        request_leaves s placed g frame out Keeps refl
        (λ granted e passes done. control_keeps done passes.contents (λ here clear. other ((e, here, clear), granted)))
        (λ granted e done. configure_keeps done)
