-- The reports: "An event report names phy, source and a 32-bit amount." "Other reports: a link change on a phy (Change),
-- and two device notices (Expander 3h, SES)." "Change also moves the change count the same way."
use Rattle.std.specs.Prelude.{ℕ, Bool, not, ◌&&◌, ◌||◌, ltb, eqb, Ok, Err}
use Rattle.model.specs.declared.Effect.{Effect}
use Rattle.model.specs.declared.EventOutcome.{EventOutcome}
use Rattle.model.specs.declared.House.TheVariants.{NoSuchPhy, EventSource, Amount}
use Rattle.model.specs.declared.Notice.{Notice}
use Rattle.model.specs.declared.Notice.TheVariants.{Expander3, Ses0}
use Rattle.model.specs.declared.Outcome.{Outcome}
use Rattle.model.specs.declared.Phy.{Phy}
use Rattle.model.specs.declared.Shelf.{Shelf}
use Rattle.model.specs.Answers.{EventAnswer, Taken, told_cut}
use Rattle.model.specs.Counting.{originate, change_on, error_cut, event_on}
use Rattle.model.specs.Shelf.{exists, phy_at, put_device, outcome}
use Rattle.model.specs.Sources.{supported}
use Rattle.model.specs.Store.{carried_out}
use Rattle.model.specs.Tests.{given}

-- "amount above FFh for 2Bh, or above FFFFh for 2Ch"
unfoldable pub amount_too_large : ℕ → ℕ → Bool
amount_too_large source amount = eqb source 0x2B && ltb 0xFF amount || eqb source 0x2C && ltb 0xFFFF amount

-- H7 "phy does not exist", H8 "event source 00h or unsupported", H9; the first argument says whether the phy exists
unfoldable pub event_taken : Bool → ℕ → ℕ → Taken
event_taken there source amount =
    given (not there) (Err NoSuchPhy)
    (given (eqb source 0x00 || not (supported source)) (Err EventSource)
    (given (amount_too_large source amount) (Err Amount)
    (Ok tt)))

-- The answer: #104: "An event report's answer then says whether its own addition was cut". A refused report has no such answer.
abbrev pub event_answer : Taken → Bool → EventAnswer
event_answer (Ok done) cut = told_cut cut
event_answer (Err house) cut = Err house

unfoldable pub event : Shelf → ℕ → ℕ → ℕ → EventOutcome
event s p source amount =
    let taken : Taken = event_taken (exists s p) source amount in
    record {
      answer = event_answer taken (error_cut source amount (phy_at s p).errors);
      shelf = (outcome taken s (carried_out s p (event_on source amount (phy_at s p)))).shelf;
    }

-- a link change: H7 alone
abbrev pub link_change_taken : Bool → Taken
link_change_taken there = given (not there) (Err NoSuchPhy) (Ok tt)

-- A link change originates Change, and leaves the phy enabled or not as it was.
abbrev pub link_change_on : Phy → Effect
link_change_on x = change_on x.enabled x

unfoldable pub link_change : Shelf → ℕ → Outcome
link_change s p = outcome (link_change_taken (exists s p)) s (carried_out s p (link_change_on (phy_at s p)))

-- The two device notices; neither has a refusal.
unfoldable pub reduced_functionality : Shelf → Shelf
reduced_functionality s = put_device s (originate s.expander3) s.ses0

unfoldable pub ses_notice : Shelf → Shelf
ses_notice s = put_device s s.expander3 (originate s.ses0)

abbrev pub noticed : Shelf → Notice → Shelf
noticed s Expander3 = reduced_functionality s
noticed s Ses0 = ses_notice s
