-- A 21h is sent once its list and its head stand in the lent buffer (`Listing` of replies has the laws of the list). Assumes nothing.
use Prim.Native.Nat.{ℕ, ◌+◌, ◌-◌, ◌*◌, ◌≤◌}
use native.Mathlib.Omega.{arith}
use mathlib.Core.Path.{◌≡◌, refl}
use mathlib.Core.List.{List, ◌++◌}
use lib.ListN.{length, drop}
use Rattle.model.specs.declared.Store.{Store}
use Rattle.model.specs.Reply.{event_list_head, report_phy_event_list}
use Rattle.model.specs.Server.{least_buffer}
use Rattle.model.specs.Store.{kept, entries, first_returned, returned}
use Rattle.model.proofs.Plain.EventList.{first_of, ByNumber, returned_few}
use Rattle.replies.specs.Listed.{Lists}
use Rattle.replies.specs.Sent.{Sent}
use Rattle.replies.proofs.Listing.{list_sent}
use Rattle.peaks.specs.Listed.{entry_list}

-- Of the head is known what was copied, and that it is a definition's, of numbers that are known.
pub report_sent : (changes : ℕ) (k : Store) (start : ℕ) {out head listed after : List ℕ} {told first last n size : ℕ}
    → least_buffer ≤ length out → ByNumber k start n → Lists entry_list out 0 (drop (kept k - n) (entries k)) n listed
    → head ≡ event_list_head told first last n → told ≡ changes → first ≡ first_of last n → last ≡ k.last
    → after ≡ head ++ drop 12 listed → size ≡ 12 + 12 * n
    → Sent out (report_phy_event_list changes k start) size after
unfolding report_phy_event_list
report_sent changes k start {out} {head} {listed} {n} room given lists made count from to put size =
    let all : Lists entry_list out 0 (returned k start) n listed = rw given.entries lists in
    let front : head ≡ event_list_head changes (first_returned k start) k.last (length (returned k start)) =
    rw (given.first, given.number) (rw (count, from, to) at made) in
    list_sent room (omega (arith, returned_few k start)) all front refl put size
