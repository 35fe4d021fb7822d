-- What C reads off the number that it is told (firmware/kinubarsil.h): whether it is a house refusal and which, whether an event report's
-- own addition was cut, the length of a response, the set of phys that are reached and their number. Assumes nothing.
use Rattle.std.specs.Prelude.{Ok, Err}
use Prim.Native.Nat.{ℕ, ◌/◌, ◌%◌, ◌≤◌}
use native.Mathlib.Omega.{arith}
use mathlib.Core.Path.{◌≡◌, refl, ap}
use mathlib.Core.Logic.{◌↔◌}
use mathlib.Core.Bool.{Bool, true, false, not}
use mathlib.Core.List.{List}
use lib.Count.{ones-le}
use lib.Dec.{ltb}
use lib.ListN.{length}
use Rattle.model.specs.declared.House.{House}
use Rattle.model.specs.declared.House.TheVariants.{SourceGroup}
use Rattle.model.specs.declared.Shelf.{Shelf}
use Rattle.model.specs.Answers.{EventAnswer, reach_gives, told_cut}
use Rattle.model.specs.House.{house_number}
use Rattle.model.specs.Reach.{reach_set, reach_number, reach_query}
use Rattle.model.specs.Server.{Reply, Refuses, Sends, handle, answer, served}
use Rattle.model.proofs.Demands.Frames.{response_framed}
use Rattle.model.proofs.Laws.Checks.{house_range}
use Rattle.model.proofs.Laws.Tests.{check_both}
use Rattle.model.proofs.Plain.Reach.{reach_answered, reach_ones, reach_set_fits}
use Rattle.host.specs.Told.{refused_told, event_told, answer_told, reach_told, AnswerFits, ReachFits}

-- a house refusal has bit 31, and its number in the four low bits
pub refused_read : (house : House) → (refused_told house / 0x80000000 ≡ 1) × (refused_told house % 0x10 ≡ house_number house)
refused_read house = let (_, few) = house_range house in (omega arith, omega arith)

-- an event report is told by 1 exactly where its own addition was cut (#104)
pub event_read : (answer : EventAnswer) → (event_told answer ≡ 1) ↔ (answer ≡ told_cut true)
event_read (Ok counted) = go counted.cut
  where
    go : (cut : Bool) → (event_told (told_cut cut) ≡ 1) ↔ (told_cut cut ≡ told_cut true)
    go true = (λ e. refl, λ e. refl)
    go false = (λ e. absurd (omega arith), λ e. ap event_told e)
event_read (Err house) = (λ e. absurd (omega (arith, house_range house)), λ e. ap event_told e)

-- a response is told by its length, 4 to 400, and so without bit 31
pub response_read : (s : Shelf) (g : ℕ) (frame : List ℕ) (room : ℕ) (bytes : List ℕ) → (handle s g frame room).reply ≡ Sends bytes
    → (answer_told (answer (Sends bytes)) ≡ length bytes) × (4 ≤ length bytes) × (length bytes ≤ 400)
response_read s g frame room bytes sends =
    let framed = response_framed s g frame room bytes sends in
    (omega arith, omega (arith, framed.byte_3), framed.longest)

-- a reach query is told by the set in bits 0 to 23 and its number above them, without bit 31
pub reach_read : (s : Shelf) (g : ℕ) → g ≤ 31
    → let told = reach_told (reach_query s g) in
    (told / 0x80000000 ≡ 0) × (told % 0x1000000 ≡ reach_set s g) × (told / 0x1000000 % 0x20 ≡ reach_number s g)
reach_read s g group =
    let fits = reach_set_fits s g in
    let few = ones-le 24 (reach_set s g) fits in
    rw (reach_answered s g group, reach_ones s g) (omega (arith, fits, few), omega (arith, fits, few), omega (arith, fits, few))

-- ---- The server's answers have room in the number

pub answer_fits : (s : Shelf) (g : ℕ) (frame out : List ℕ) → AnswerFits (served s g frame out).answer
unfolding served
answer_fits s g frame out = go (handle s g frame (length out)).reply refl
  where
    go : (reply : Reply) → (handle s g frame (length out)).reply ≡ reply → AnswerFits (answer reply)
    go (Refuses house) e = tt
    go (Sends bytes) e = (response_framed s g frame (length out) bytes e).longest

pub reach_fits : (s : Shelf) (g : ℕ) → ReachFits (reach_query s g)
unfolding reach_query
reach_fits s g =
    let fits = reach_set_fits s g in
    check_both ReachFits (not (ltb 31 g)) (Err SourceGroup) (reach_gives (reach_set s g) (reach_number s g)) tt
    (fits, rw (reach_ones s g) (ones-le 24 (reach_set s g) fits))
