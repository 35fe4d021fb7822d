-- How a request is answered, part by part: the bytes that a copy or a result leaves in the lent buffer, and the words after a read and
-- after a write. Laws of a result that is known, for one who reads `Serving`; the promise of `serve_asked` needs none of them.
-- Assumes nothing.
use Prim.Native.Nat.{ℕ, ◌≤◌}
use mathlib.Core.Path.{◌≡◌, refl, sym, ◌∙◌}
use mathlib.Core.Bool.{false, cond}
use mathlib.Core.List.{List}
use lib.ListN.{length}
use Rattle.std.specs.Prelude.{Ok, Err}
use Rattle.model.specs.declared.Failure.TheVariants.{UnknownSmpFunction, SmpFunctionFailed}
use Rattle.model.specs.declared.Failure.TheVariants.{InvalidRequestFrameLength}
use Rattle.model.specs.declared.Failure.TheVariants.{InvalidExpanderChangeCount, PhyDoesNotExist}
use Rattle.model.specs.declared.Failure.TheVariants.{UnknownPhyOperation, PhyVacant}
use Rattle.model.specs.declared.Failure.TheVariants.{UnknownPhyEventSource, SmpZoneViolation}
use Rattle.model.specs.declared.Failure.TheVariants.{NoManagementAccessRights}
use Rattle.model.specs.declared.Phy.{Phy}
use Rattle.model.specs.declared.Request.{Request}
use Rattle.model.specs.declared.Shelf.{Shelf}
use Rattle.model.specs.Answers.{FunctionResult}
use Rattle.model.specs.Reply.{failed, respond}
use Rattle.model.specs.Results.{accepted, result_code}
use Rattle.model.specs.Server.{least_buffer}
use Rattle.model.specs.Shelf.{phy_at}
use Rattle.replies.specs.Sent.{Sent}
use Rattle.replies.proofs.Room.{has_room}
use Rattle.server.specs.Sending.{IsSent}
use Rattle.words.specs.Sizes.{shelf_words}
use Rattle.words.specs.Words.{shelf_of, laid_over}
use Rattle.words.proofs.Laying.{laid_same}

-- The response that a result draws: the accepted one, or the failed one.
abbrev pub drawn : Shelf → ℕ → Request → ℕ → FunctionResult → List ℕ
drawn s g request function result = cond (accepted result) (respond s g request) (failed function (result_code result))

-- The words that a result leaves: those of the shelf with the effect where it is accepted, and otherwise as they were.
abbrev pub leaves_words : List ℕ → FunctionResult → Shelf → List ℕ
leaves_words ws result effected = laid_over ws (cond (accepted result) effected (shelf_of ws))

abbrev pub Other : FunctionResult → Type 0
Other result = result ≡ Ok tt → ⊥

pub not_accepted : (result : FunctionResult) → Other result → accepted result ≡ false
not_accepted (Ok tt) e = absurd (e refl)
not_accepted (Err UnknownSmpFunction) e = refl
not_accepted (Err SmpFunctionFailed) e = refl
not_accepted (Err InvalidRequestFrameLength) e = refl
not_accepted (Err InvalidExpanderChangeCount) e = refl
not_accepted (Err PhyDoesNotExist) e = refl
not_accepted (Err UnknownPhyOperation) e = refl
not_accepted (Err PhyVacant) e = refl
not_accepted (Err UnknownPhyEventSource) e = refl
not_accepted (Err SmpZoneViolation) e = refl
not_accepted (Err NoManagementAccessRights) e = refl

-- bytes that were sent and are known as a definition's
pub copied : (out : List ℕ) {bytes known after : List ℕ} {size : ℕ} → IsSent out bytes size after → bytes ≡ known → IsSent out known size after
copied out answers k = rw k at answers

-- what was sent into a buffer with room
pub sent_all : (out bytes : List ℕ) {after : List ℕ} {size : ℕ} → least_buffer ≤ length out → Sent out bytes size after
    → IsSent out bytes size after
sent_all out bytes room sent = rw (has_room out bytes room) at sent

-- Where the result of a request is known: not accepted, and its four bytes were sent; or accepted, and its response was.
module _ (s : Shelf) (g : ℕ) (request : Request) (function : ℕ) {result known : FunctionResult} (is : result ≡ known) (out : List ℕ) where
  pub fails : {after : List ℕ} {size : ℕ} → Other result → least_buffer ≤ length out → Sent out (failed function (result_code result)) size after
      → IsSent out (drawn s g request function known) size after
  fails other room sent = rw (← is, not_accepted result other) (sent_all out _ room sent)

  pub grants : {after : List ℕ} {size : ℕ} → result ≡ Ok tt → IsSent out (respond s g request) size after
      → IsSent out (drawn s g request function known) size after
  grants good answers = rw (← is, good) answers

  -- the response of a read of phy p: a report that is made of the change count and of the phy's record
  pub reports : (p : ℕ) (report : ℕ → ℕ → Phy → List ℕ) → respond s g request ≡ report s.changes p (phy_at s p) → result ≡ Ok tt
      → {changes : ℕ} {x : Phy} {bytes after : List ℕ} {size : ℕ} → changes ≡ s.changes → x ≡ phy_at s p → bytes ≡ report changes p x
      → IsSent out bytes size after → IsSent out (drawn s g request function known) size after
  reports p report responds good count read made answers =
      grants good (copied out {known = respond s g request} answers (made ∙ rw (count, read) (sym responds)))

-- A write, in a buffer with room: it fails, and the words are as they were; or it is accepted, and they are those of the shelf with its
-- effect.
module _ (ws : List ℕ) (g : ℕ) (request : Request) (function : ℕ) {result known : FunctionResult} (is : result ≡ known) (out : List ℕ)
    (room : least_buffer ≤ length out) (effected : Shelf) where
  abbrev Written : ℕ → List ℕ → List ℕ → Type 0
  Written size after words = IsSent out (drawn (shelf_of ws) g request function known) size after × (words ≡ leaves_words ws known effected)

  pub write_fails : length ws ≡ shelf_words → Other result → {after : List ℕ} {size : ℕ} → Sent out (failed function (result_code result)) size after
      → Written size after ws
  write_fails long other sent = rw (← is, not_accepted result other) (sent_all out _ room sent, sym (laid_same ws long))

  pub write_granted : result ≡ Ok tt → {bytes after words : List ℕ} {size : ℕ} → respond (shelf_of ws) g request ≡ bytes
      → Sent out bytes size after → words ≡ laid_over ws effected → Written size after words
  write_granted good responds sent kept = rw (← is, good, responds) (sent_all out _ room sent, kept)
