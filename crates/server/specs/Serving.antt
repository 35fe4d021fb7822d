-- What a request comes to: what the judgement of its frame alone already answers, and what one that was read may come to.
use Rattle.std.specs.Prelude.{ℕ, ◌≡◌, List, [], Ok, Err}
use Rattle.model.specs.declared.Failure.{Failure}
use Rattle.model.specs.declared.Fault.TheVariants.{NoFrame, Fails}
use Rattle.model.specs.declared.Request.{Request}
use Rattle.model.specs.declared.Shelf.{Shelf}
use Rattle.model.specs.Answers.{Judged}
use Rattle.model.specs.Reply.{failed, respond}
use Rattle.model.specs.Results.{failure_code, decide}
use Rattle.model.specs.Server.{Reply, Refuses, Sends}
use Rattle.model.specs.Writes.{effect}
use Rattle.server.specs.Sending.{IsSent}
use Rattle.words.specs.Words.{laid_over}

-- H6 or H10, or 01h or 03h in a failed response; where a request was read, nothing is sent yet.
abbrev pub judged_reply : ℕ → Judged → Reply
judged_reply function (Err (NoFrame house)) = Refuses house
judged_reply function (Err (Fails failure)) = Sends (failed function (failure_code failure))
judged_reply function (Ok request) = Sends []

-- A request that was read is accepted: its response is sent, with its full effect ..
pub record Accepts (s : Shelf) (g : ℕ) (frame : List ℕ) (request : Request) (out ws : List ℕ) (size : ℕ) (left words : List ℕ) : Type 0 where
  pub decided : decide s g frame request ≡ Ok tt
  pub sent : IsSent out (respond s g request) size left
  pub kept : words ≡ laid_over ws (effect s frame request)

-- .. or it fails: nothing is sent, and there is no effect at all.
pub record Declines (s : Shelf) (g : ℕ) (frame : List ℕ) (request : Request) (out ws : List ℕ) (failure : Failure) (left words : List ℕ) : Type 0 where
  pub decided : decide s g frame request ≡ Err failure
  pub sent : left ≡ out
  pub kept : words ≡ ws
