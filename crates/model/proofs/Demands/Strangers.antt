-- What a stranger does and learns: demand 3 says nothing of that by itself. A request about a phy that its source does not reach leaves
-- the shelf, and its answer depends on the function, the length, the count and the phy's existence, so it tells nothing of its contents;
-- a group other than 1 learns nothing by 21h; a frame that is cut, or does not begin with 40h, learns nothing at all; no request changes
-- a phy out of its source's reach; a report changes its own phy alone. Assumes nothing.
use Prim.Native.Nat.{ℕ, ◌≤◌, ◌<◌}
use native.Mathlib.Nat.{eq-zero-or-pos}
use native.Mathlib.Omega.{arith}
use mathlib.Core.Path.{◌≡◌, refl, ap, ◌∙◌}
use mathlib.Core.Logic.{◌⊎◌, inl, inr, ⊎_elim}
use mathlib.Core.Bool.{Bool, false, cond, ◌||◌}
use mathlib.Core.List.Memᴰ
use mathlib.Core.List.{List, [], ◌∷◌}
use borrow.Author.Tests.{ne_eqb}
use lib.Dec.{T}
use lib.ListN.{length}
use Rattle.model.specs.declared.Shelf.{Shelf}
use Rattle.model.specs.Bytes.{byte}
use Rattle.model.specs.House.{answer_number}
use Rattle.model.specs.Reach.{reaches}
use Rattle.model.specs.Reports.{event_taken, event, link_change_taken, link_change, reduced_functionality, ses_notice}
use Rattle.model.specs.Request.{function_of, known, length_right, asked}
use Rattle.model.specs.Results.{result_code, grounds}
use Rattle.model.specs.Server.{answer, served, lent_after}
use Rattle.model.specs.Shelf.{exists, phy_at}
use Rattle.model.specs.Tests.{check, one_of}
use Rattle.model.specs.Writes.{Doing, Reads, WritesTo, doing, done, effect}
use Rattle.model.proofs.Demands.Refusals.{request_refusals, request_gives, request_refusal}
use Rattle.model.proofs.Demands.Results.{Of, NotRefused, count_passes, verdict_checks, result_byte, Failed, failed_result}
use Rattle.model.proofs.Laws.Checks.{Granting, every_outcome}
use Rattle.model.proofs.Laws.Handled.{verdict, concluded, both_handled, concluded_all, handled_all, accepted_decided}
use Rattle.model.proofs.Laws.Lowest.{Applies}
use Rattle.model.proofs.Laws.PhyChanges.{OfWrite, write_granted}
use Rattle.model.proofs.Laws.Tests.{is_false, by_each, check_both, cond_both}
use Rattle.model.proofs.Plain.Request.{phy_functions}
use Rattle.model.proofs.Plain.Shelf.{OnlyPhy, same_only, put_only, put_other}

-- ---- A stranger's request

-- A request of one of the four functions with a phy, which its source does not reach.
pub record Strange (s : Shelf) (g : ℕ) (frame : List ℕ) : Type 0 where
  pub function : Of phy_functions frame
  pub unreached : T (reaches s g (byte frame 9)) → ⊥

-- All that its answer depends on: the function, and whether the length, the count (of a write) and the phy's existence pass.
abbrev pub stranger_code : ℕ → Bool → Bool → Bool → ℕ
stranger_code function length_passes count_passes there =
    let read : Bool = one_of (0x11 ∷ 0x14 ∷ []) function in
    check length_passes 0x03
    (check (read || count_passes) 0x04
    (check there 0x10
    (cond read 0x16 0x20)))

-- the code that a frame so draws on a shelf
abbrev pub code_for : Shelf → ℕ → List ℕ → ℕ
code_for s g frame = stranger_code (function_of frame) (length_right frame) (count_passes s g frame) (exists s (byte frame 9))

stranger_verdict : (s : Shelf) (g : ℕ) (frame : List ℕ) → Strange s g frame
    → result_code (verdict s g frame) ≡ code_for s g frame
unfolding known
stranger_verdict s g frame strange =
    let out : reaches s g (byte frame 9) ≡ false = is_false (reaches s g (byte frame 9)) strange.unreached in
    by_each (result_code (verdict s g frame) ≡ code_for s g frame) (function_of frame) phy_functions strange.function
    (λ e. rw (verdict_checks s g frame, e, out))
    (λ e. rw (verdict_checks s g frame, e, out))
    (λ e. rw (verdict_checks s g frame, e, out))
    (λ e. rw (verdict_checks s g frame, e, out))

code_some : (function : ℕ) (a b c : Bool) → 1 ≤ stranger_code function a b c
code_some function a b c =
    check_both (λ n. 1 ≤ n) a _ _ (omega arith)
    (check_both (λ n. 1 ≤ n) (one_of (0x11 ∷ 0x14 ∷ []) function || b) _ _ (omega arith)
    (check_both (λ n. 1 ≤ n) c _ _ (omega arith)
    (cond_both (λ n. 1 ≤ n) (one_of (0x11 ∷ 0x14 ∷ []) function) _ _ (omega arith) (omega arith))))

-- it is a failed result, so the shelf and the rest of the buffer are as before, and its code is that one
pub stranger_answered : (s : Shelf) (g : ℕ) (frame out : List ℕ) → NotRefused s g frame out → Strange s g frame
    → Failed s g frame out (code_for s g frame)
stranger_answered s g frame out answered strange =
    failed_result s g frame out (code_for s g frame) answered
    (result_byte s g frame out answered ∙ stranger_verdict s g frame strange)
    (code_some (function_of frame) (length_right frame) (count_passes s g frame) (exists s (byte frame 9)))

-- refused or answered, it leaves the shelf as it was
pub stranger_stays : (s : Shelf) (g : ℕ) (frame out : List ℕ) → Strange s g frame → (served s g frame out).shelf ≡ s
stranger_stays s g frame out strange =
    ⊎_elim (λ answered. (stranger_answered s g frame out answered strange).stays)
    (λ refused. (request_refusal s g frame out refused).0)
    (eq-zero-or-pos (answer_number (served s g frame out).answer))

-- So two strangers' requests, whatever else differs in frames, shelves and sources, are answered alike.
pub strangers_learn_nothing : (s t : Shelf) (g h : ℕ) (frame frame' out : List ℕ)
    → NotRefused s g frame out → NotRefused t h frame' out → Strange s g frame → Strange t h frame'
    → function_of frame ≡ function_of frame' → length_right frame ≡ length_right frame'
    → (Of (0x91 ∷ 0x93 ∷ []) frame → count_passes s g frame ≡ count_passes t h frame')
    → exists s (byte frame 9) ≡ exists t (byte frame' 9)
    → ((served s g frame out).answer ≡ (served t h frame' out).answer) × (lent_after s g frame out ≡ lent_after t h frame' out)
strangers_learn_nothing s t g h frame frame' out answered answered' strange strange' function lengths counts there =
    let one : Failed s g frame out (code_for s g frame) = stranger_answered s g frame out answered strange in
    let other : Failed t h frame' out (code_for t h frame') = stranger_answered t h frame' out answered' strange' in
    let code : code_for s g frame ≡ code_for t h frame' =
    by_each (code_for s g frame ≡ code_for t h frame') (function_of frame) phy_functions strange.function
    (λ e. rw (← function, e, lengths, there))
    (λ e. rw (← function, e, lengths, there))
    (λ e. rw (← function, counts (Memᴰ.head e), lengths, there))
    (λ e. rw (← function, counts (Memᴰ.tail (Memᴰ.head e)), lengths, there)) in
    (cc, cc (one.left, other.left, code, function))

-- ---- 21h (#101): "only source group 1 may ask"

-- A group other than 1 learns nothing by 21h but whether its length was right, of any shelf.
abbrev pub list_code : List ℕ → ℕ
list_code frame = check (length_right frame) 0x03 0x21

list_verdict : (s : Shelf) (g : ℕ) (frame : List ℕ) → function_of frame ≡ 0x21 → (g ≡ 1 → ⊥)
    → result_code (verdict s g frame) ≡ list_code frame
unfolding known
list_verdict s g frame e other = rw (verdict_checks s g frame, e, ne_eqb g 1 other)

pub list_refused : (s : Shelf) (g : ℕ) (frame out : List ℕ) → NotRefused s g frame out → function_of frame ≡ 0x21 → (g ≡ 1 → ⊥)
    → Failed s g frame out (list_code frame)
list_refused s g frame out answered e other =
    failed_result s g frame out (list_code frame) answered
    (result_byte s g frame out answered ∙ list_verdict s g frame e other)
    (check_both (λ n. 1 ≤ n) (length_right frame) _ _ (omega arith) (omega arith))

-- so two such requests, whatever else differs in frames, shelves and sources, are answered alike
pub list_tells_nothing : (s t : Shelf) (g h : ℕ) (frame frame' out : List ℕ)
    → NotRefused s g frame out → NotRefused t h frame' out → function_of frame ≡ 0x21 → function_of frame' ≡ 0x21
    → (g ≡ 1 → ⊥) → (h ≡ 1 → ⊥) → length_right frame ≡ length_right frame'
    → ((served s g frame out).answer ≡ (served t h frame' out).answer) × (lent_after s g frame out ≡ lent_after t h frame' out)
list_tells_nothing s t g h frame frame' out answered answered' e e' other other' lengths =
    let one : Failed s g frame out (list_code frame) = list_refused s g frame out answered e other in
    let another : Failed t h frame' out (list_code frame') = list_refused t h frame' out answered' e' other' in
    let code : list_code frame ≡ list_code frame' = ap (λ b. check b 0x03 0x21) lengths in
    (cc, cc (one.left, another.left, code, e, e'))

-- ---- H6 and H10 (#103): a frame that is cut, or wrong, learns nothing.

-- A house refusal of a request is the same on every shelf.
pub refused_alike : (s t : Shelf) (g : ℕ) (frame out : List ℕ) → 1 ≤ answer_number (served s g frame out).answer
    → (served s g frame out).answer ≡ (served t g frame out).answer
unfolding served
refused_alike s t g frame out =
    both_handled (λ x y. 1 ≤ answer_number (answer x.reply) → answer x.reply ≡ answer y.reply) s t g frame (length out)
    (λ house refused. refl)
    (concluded_all (λ x. 1 ≤ answer_number (answer x.reply) → answer x.reply ≡ answer (concluded t g frame).reply) s g frame
    (λ refused. absurd (omega arith))
    (λ e refused. absurd (omega arith)))

-- "under 4 bytes", or "first byte not 40h"
abbrev pub NoRequest : List ℕ → Type 0
NoRequest frame = (length frame < 4) ⊎ (byte frame 0 ≡ 0x40 → ⊥)

no_request_refused : (s : Shelf) (g : ℕ) (frame out : List ℕ) → NoRequest frame → 1 ≤ answer_number (served s g frame out).answer
no_request_refused s g frame out no_request =
    ⊎_elim
    (λ answered.
    absurd
    (⊎_elim (λ cut. none answered 6 (inr (inr (inl (refl, cut)))))
    (λ wrong. none answered 10 (inr (inr (inr (inl (refl, wrong))))))
    no_request))
    (λ refused. refused)
    (eq-zero-or-pos (answer_number (served s g frame out).answer))
  where
    none : NotRefused s g frame out → (k : ℕ) → Applies (request_refusals g frame out) k → ⊥
    none = (request_gives s g frame out).none.0

-- So whatever else it says, wherever it comes from and whatever is lent, it draws the same answer from every shelf, and leaves the shelf
-- and the buffer as they were.
pub no_request_learns_nothing : (s t : Shelf) (g : ℕ) (frame out : List ℕ) → NoRequest frame
    → ((served s g frame out).answer ≡ (served t g frame out).answer) × ((served s g frame out).shelf ≡ s) × (lent_after s g frame out ≡ out)
no_request_learns_nothing s t g frame out no_request =
    let refused = no_request_refused s g frame out no_request in
    let (shelf, buffer) = request_refusal s g frame out refused in
    (refused_alike s t g frame out refused, shelf, buffer)

-- ---- No request of a group changes any number of a phy that the group does not reach.

done_elsewhere : (s : Shelf) (g : ℕ) (does : Doing) (q : ℕ) → (T (reaches s g q) → ⊥)
    → OfWrite (λ p f. Granting (grounds s g p)) does → phy_at (done s does) q ≡ phy_at s q
done_elsewhere s g Reads q out granted = refl
done_elsewhere s g (WritesTo p f) q out granted =
    put_other s p (f (phy_at s p)).phy s.changes q (λ same. out (rw (same, granted.1) tt))

pub request_elsewhere : (s : Shelf) (g : ℕ) (frame out : List ℕ) (q : ℕ) → (T (reaches s g q) → ⊥)
    → phy_at (served s g frame out).shelf q ≡ phy_at s q
unfolding served effect
request_elsewhere s g frame out q unreached =
    handled_all (λ h. phy_at h.shelf q ≡ phy_at s q) s g frame (length out) (λ house. refl) refl
    (λ e.
    done_elsewhere s g (doing frame (asked frame)) q unreached
    (write_granted s g frame (asked frame) (accepted_decided s g frame e).2))

-- ---- Reports of a phy change that phy alone, and the device notices change none.

pub event_only : (s : Shelf) (p source amount : ℕ) → OnlyPhy s p (event s p source amount).shelf
unfolding event
event_only s p source amount =
    every_outcome (OnlyPhy s p) (event_taken (exists s p) source amount) s _ (same_only s p) (λ done. put_only s p _ _)

pub link_change_only : (s : Shelf) (p : ℕ) → OnlyPhy s p (link_change s p).shelf
unfolding link_change
link_change_only s p =
    every_outcome (OnlyPhy s p) (link_change_taken (exists s p)) s _ (same_only s p) (λ done. put_only s p _ _)

pub notices_elsewhere : (s : Shelf) → ((reduced_functionality s).phys ≡ s.phys) × ((ses_notice s).phys ≡ s.phys)
unfolding reduced_functionality ses_notice
notices_elsewhere s = (refl, refl)
