-- #104, "Say when an error count has stuck", over any run from a start: an error count is the exact sum of the accepted amounts since the
-- last 05h or the start until one of them was told as cut, and FFFFFFFFh from then on; so one that was never cut is exact. Assumes nothing.
use Rattle.std.specs.Prelude.{Err, Ok}
use Prim.Native.Nat.{ℕ, ◌+◌, ◌-◌, ◌≤◌, ◌<◌, min}
use native.Mathlib.Omega.{arith}
use mathlib.Core.Path.{◌≡◌, refl, sym, subst, subst⁻¹}
use mathlib.Core.Logic.Iff
use mathlib.Core.Logic.{◌↔◌}
use mathlib.Core.Bool.{Bool, true, false, cond, ◌&&◌, ◌||◌, false≢true}
use mathlib.Core.List.{List, [], ◌∷◌}
use lib.Dec.{T, eqb}
use Rattle.model.specs.declared.Shelf.{Shelf}
use Rattle.model.specs.Answers.{EventAnswer, told_cut}
use Rattle.model.specs.Bytes.{byte}
use Rattle.model.specs.Fits.{Placed}
use Rattle.model.specs.House.{answer_number}
use Rattle.model.specs.Reports.{event, reduced_functionality, ses_notice}
use Rattle.model.specs.Request.{function_of}
use Rattle.model.specs.Runs.{Operation, Ask, Event, LinkChange, ReducedFunctionality, Ses, QueryReach, next, after}
use Rattle.model.specs.Server.{served, lent_after}
use Rattle.model.specs.Shelf.{start}
use Rattle.model.specs.Tally.{Tally, no_tally, heard, is_accepted, sets_errors_to0, tallied, tally_from, tally}
use Rattle.model.proofs.Demands.Cut.{event_told_lem}
use Rattle.model.proofs.Demands.ErrorSteps.{count_of, start_count, refused_stays, link_change_keeps, report_adds, report_keeps}
use Rattle.model.proofs.Demands.ErrorSteps.{Clears, request_clears, request_keeps}
use Rattle.model.proofs.Demands.Invariant.{next_placed, start_placed}
use Rattle.model.proofs.Laws.Tests.{both_iff, all_three_iff, eqb_iff, not_above, cond_by}

-- ---- A tally, and the count that it stands for

pub record Stands (t : Tally) (count : ℕ) : Type 0 where
  -- until one was cut the count is the exact sum,
  pub exact : t.cut ≡ false → count ≡ t.sum
  -- and from then on FFFFFFFFh;
  pub stuck : t.cut ≡ true → count ≡ 0xFFFFFFFF
  -- one was cut exactly if that sum is above FFFFFFFFh
  pub cut_above : T t.cut ↔ (0xFFFFFFFF < t.sum)

uncut_stands : {sum : ℕ} → sum ≤ 0xFFFFFFFF → Stands (record { sum = sum; cut = false }) sum
uncut_stands few =
    record { exact = λ e. refl; stuck = λ e. absurd (false≢true e); cut_above = (λ t. absurd t, λ more. absurd (omega arith)) }

cut_stands : {sum : ℕ} → 0xFFFFFFFF < sum → Stands (record { sum = sum; cut = true }) 0xFFFFFFFF
cut_stands more = record { exact = λ e. absurd (false≢true (sym e)); stuck = λ e. refl; cut_above = (λ t. more, λ h. tt) }

-- a report more: its amount is added, and what it is told is noted
report_stands : (t : Tally) (count amount : ℕ) (cut : Bool) → Stands t count → T cut ↔ (0xFFFFFFFF < count + amount)
    → Stands (heard t amount (told_cut cut)) (min (count + amount) 0xFFFFFFFF)
report_stands t count amount cut stands tells = go t.cut refl cut refl
  where
    After : Bool → ℕ → Type 0
    After any n = Stands (record { sum = t.sum + amount; cut = any }) n

    go : (before : Bool) → t.cut ≡ before → (now : Bool) → cut ≡ now → After (t.cut || cut) (min (count + amount) 0xFFFFFFFF)
    go true was now is =
        let full : min (count + amount) 0xFFFFFFFF ≡ 0xFFFFFFFF = omega (arith, stands.stuck was) in
        let more : 0xFFFFFFFF < t.sum + amount = omega (arith, stands.cut_above.0 (rw was tt)) in
        rw (was, full) (cut_stands more)
    go false was true is =
        let full : min (count + amount) 0xFFFFFFFF ≡ 0xFFFFFFFF = omega (arith, tells.0 (rw is tt)) in
        let more : 0xFFFFFFFF < t.sum + amount = omega (arith, stands.exact was, tells.0 (rw is tt)) in
        rw (was, is, full) (cut_stands more)
    go false was false is =
        let fits : count + amount ≤ 0xFFFFFFFF = not_above (λ more. subst T is (tells.1 more)) in
        let whole : min (count + amount) 0xFFFFFFFF ≡ t.sum + amount = omega (arith, stands.exact was) in
        rw (was, is, whole) (uncut_stands (omega (arith, stands.exact was)))

-- ---- One operation more, on error count k of phy p

module _ (s : Shelf) (placed : Placed s) (p k : ℕ) (below : k < 4) (t : Tally) (stands : Stands t (count_of p k s)) where
  -- what the tally takes for an accepted 05h of this phy is one
  sets_iff : (g : ℕ) (frame out : List ℕ) → T (sets_errors_to0 p s g frame out) ↔ Clears p s g frame out
  sets_iff g frame out =
      both_iff (eqb (function_of frame) 0x91 && eqb (byte frame 9) p && eqb (byte frame 10) 0x05) (is_accepted s g frame out)
      (all_three_iff (eqb (function_of frame) 0x91) (eqb (byte frame 9) p) (eqb (byte frame 10) 0x05)
      (eqb_iff (function_of frame) 0x91)
      (eqb_iff (byte frame 9) p)
      (eqb_iff (byte frame 10) 0x05))
      (both_iff (eqb (answer_number (served s g frame out).answer) 0) (eqb (byte (lent_after s g frame out) 2) 0x00)
      (eqb_iff (answer_number (served s g frame out).answer) 0)
      (eqb_iff (byte (lent_after s g frame out) 2) 0x00))

  request_stands : (g : ℕ) (frame out : List ℕ)
      → Stands (cond (sets_errors_to0 p s g frame out) no_tally t) (count_of p k (served s g frame out).shelf)
  request_stands g frame out =
      let sets = sets_iff g frame out in
      cond_by (λ after. Stands after (count_of p k (served s g frame out).shelf)) (sets_errors_to0 p s g frame out) no_tally t
      (λ e.
      subst⁻¹ (Stands no_tally) (request_clears s placed p k below g frame out (sets.0 (rw e tt))) (uncut_stands (omega arith)))
      (λ e. subst⁻¹ (Stands t) (request_keeps s placed p k below g frame out (λ clears. subst T e (sets.1 clears))) stands)

  -- a report of this phy and source, by its answer
  ours_stands : (amount : ℕ) (answer : EventAnswer) → (event s p (k + 1) amount).answer ≡ answer
      → Stands (heard t amount answer) (count_of p k (event s p (k + 1) amount).shelf)
  ours_stands amount (Ok counted) told =
      let place : k + 1 - 1 ≡ k = omega arith in
      subst⁻¹ (Stands (heard t amount (Ok counted))) (report_adds s placed p k below amount told)
      (report_stands t (count_of p k s) amount counted.cut stands
      (Iff.trans ((event_told_lem s p (k + 1) amount counted.cut).0 told).1 (
        λ c. subst (λ i. 0xFFFFFFFF < count_of p i s + amount) place c.above,
        λ more.
            record {
              from_01 = omega arith;
              to_04 = omega arith;
              above = subst⁻¹ (λ i. 0xFFFFFFFF < count_of p i s + amount) place more;
            },
      )))
  ours_stands amount (Err house) told =
      subst⁻¹ (λ after. Stands t (count_of p k after)) (refused_stays s p (k + 1) amount told) stands

  event_stands : (q source amount : ℕ)
      → Stands (cond (eqb q p && eqb source (k + 1)) (heard t amount (event s q source amount).answer) t)
      (count_of p k (event s q source amount).shelf)
  event_stands q source amount =
      let ours = both_iff (eqb q p) (eqb source (k + 1)) (eqb_iff q p) (eqb_iff source (k + 1)) in
      cond_by (λ after. Stands after (count_of p k (event s q source amount).shelf)) (eqb q p && eqb source (k + 1)) _ t
      (λ e. let (here, on) = ours.0 (rw e tt) in rw (here, on) (ours_stands amount (event s p (k + 1) amount).answer refl))
      (λ e. subst⁻¹ (Stands t) (report_keeps s placed p k below q source amount (λ here on. subst T e (ours.1 (here, on)))) stands)

  next_stands : (operation : Operation) → Stands (tallied p (k + 1) s t operation) (count_of p k (next s operation))
  unfolding tallied next served reduced_functionality ses_notice
  next_stands (Ask g frame out) = request_stands g frame out
  next_stands (Event q source amount) = event_stands q source amount
  next_stands (LinkChange q) = subst⁻¹ (Stands t) (link_change_keeps s p k q) stands
  next_stands ReducedFunctionality = stands
  next_stands Ses = stands
  next_stands (QueryReach g) = stands

-- ---- Over any run from a start (also one that is refused, on which nothing is counted)

after_stands : (s : Shelf) → Placed s → (p k : ℕ) → k < 4 → (t : Tally) → Stands t (count_of p k s) → (operations : List Operation)
    → Stands (tally_from p (k + 1) s t operations) (count_of p k (after s operations))
unfolding tally_from after
after_stands s placed p k below t stands [] = stands
after_stands s placed p k below t stands (operation ∷ operations) =
    after_stands (next s operation) (next_placed s operation placed) p k below (tallied p (k + 1) s t operation)
    (next_stands s placed p k below t stands operation) operations

-- Error count k of phy p, which source k + 1 adds to: "invalid dwords, disparity errors, lost synchronization, reset problems".
pub error_count_tallied : (n : ℕ) (groups table identifier : List ℕ) (operations : List Operation) (p k : ℕ) → k < 4
    → let s : Shelf = (start n groups table identifier).shelf in
    Stands (tally p (k + 1) s operations) (count_of p k (after s operations))
error_count_tallied n groups table identifier operations p k below =
    let s : Shelf = (start n groups table identifier).shelf in
    after_stands s (start_placed n groups table identifier) p k below no_tally
    (subst⁻¹ (Stands no_tally) (start_count n groups table identifier p k) (uncut_stands (omega arith)))
    operations

-- so an error count that was never cut is exact
pub uncut_exact : (n : ℕ) (groups table identifier : List ℕ) (operations : List Operation) (p k : ℕ) → k < 4
    → let s : Shelf = (start n groups table identifier).shelf in
    (tally p (k + 1) s operations).cut ≡ false → count_of p k (after s operations) ≡ (tally p (k + 1) s operations).sum
uncut_exact n groups table identifier operations p k below = (error_count_tallied n groups table identifier operations p k below).exact
