-- What firmware/kinubarsil.h says of every answer: "Bit 31 says that it is a house refusal, and the low bits then are its number, 1 to 10
-- for H1 to H10; a house refusal leaves the shelf and the buffer as they were." Which number it is say `call_refusal` and `start_refusal`
-- of `Joined`. Assumes nothing.
use Prim.Native.Nat.{ℕ, ◌≤◌}
use mathlib.Core.Path.{◌≡◌, subst⁻¹}
use lib.Dec.{T}
use lib.ListN.{length}
use Rattle.words.specs.Sizes.{shelf_words}
use Rattle.words.specs.Words.{shelf_of}
use Rattle.calls.specs.Operations.{lent_before, start_of}
use Rattle.calls.specs.Host.{smp_refused, smp_refusal, HostCall, HostStart, host_seen, host_started}
use Rattle.calls.specs.Linked.{Host}
use Rattle.calls.proofs.HostFollows.{said_reads, taken_reads}
use Rattle.calls.proofs.Joined.{call_goes, call_refused, start_goes, start_refused}

-- where bit 31 is set there is a number
abbrev Some : ℕ → Type 0
Some told = T (smp_refused told) → 1 ≤ smp_refusal told

pub c_refused : (call : HostCall) → let c = host_seen call in length c.before ≡ shelf_words
    → T (smp_refused c.told) → (1 ≤ smp_refusal c.told) × (c.after ≡ c.before) × (c.buffer ≡ lent_before c.asked)
c_refused call long set =
    let some : 1 ≤ smp_refusal (host_seen call).told =
    subst⁻¹ Some (call_goes Host call long).told (said_reads (shelf_of (host_seen call).before) (host_seen call).asked).bit_31 set in
    let (words, buffer) = call_refused Host call long some in
    (some, words, buffer)

pub c_start_refused : (x : HostStart) → T (smp_refused (host_started x).told)
    → (1 ≤ smp_refusal (host_started x).told) × ((host_started x).after ≡ (host_started x).before)
c_start_refused x set =
    let some : 1 ≤ smp_refusal (host_started x).told =
    subst⁻¹ Some (start_goes Host x).told (taken_reads (start_of (host_started x).asked).taken).bit_31 set in
    (some, start_refused Host x some)
