-- #104 on shelf W: what an event report on phy 0 is told, and what its error counts are then. All bear the ticket's number.
use Rattle.std.specs.Prelude.{ℕ, Bool, cond, List, [], ◌∷◌, ◌++◌, replicate, Err, Ok}
use Rattle.model.specs.declared.EventOutcome.{EventOutcome}
use Rattle.model.specs.declared.Shelf.{Shelf}
use Rattle.model.specs.Answers.{EventAnswer}
use Rattle.model.specs.Cases.{Case, Look, Numbers, on, sent}
use Rattle.model.specs.House.{house_number}
use Rattle.model.specs.Reports.{event}
use Rattle.model.specs.Runs.{Operation, Event}
use Rattle.model.specs.Shelf.{phy_with, phy_at, put}
use Rattle.model.specs.ShelfW.{shelf_w}
use Rattle.model.specs.Tally.{Tally, tally}
use Rattle.model.specs.Vectors.Tools.{control_frame, configure_frame, watch, errors0}

-- what a report is told: 0 for "no" and 1 for "cut", after a 0; or the number of its house refusal
abbrev pub flag : Bool → ℕ
flag b = cond b 1 0

abbrev pub event_numbers : EventAnswer → List ℕ
event_numbers (Ok counted) = 0 ∷ flag counted.cut ∷ []
event_numbers (Err house) = house_number house ∷ []

-- .. and the four error counts afterwards
abbrev pub told_and_left : EventOutcome → List ℕ
told_and_left o = event_numbers o.answer ++ errors0 o.shelf

-- shelf W with these error counts of phy 0
abbrev pub errors_w : List ℕ → Shelf
errors_w errors =
    let x = phy_at shelf_w 0 in
    put shelf_w 0 (phy_with x x.enabled errors x.monitors x.change0 x.expander1 x.expander2) shelf_w.changes

-- all four near their end, at FFFFFFFEh; and all at it
abbrev pub near_w : Shelf
near_w = errors_w (replicate 4 0xFFFFFFFE)

abbrev pub end_w : Shelf
end_w = errors_w (replicate 4 0xFFFFFFFF)

-- group 8 sets phy 0's error counts to 0
abbrev pub clear_errors0 : Operation
clear_errors0 = sent 8 (control_frame 0x09 0x00 0 0x05)

unfoldable pub cut : List Case
cut =
    -- a sum of exactly FFFFFFFFh is not cut, one above it is; each source adds to its own count
    on 104 near_w [] (Look (λ s. told_and_left (event s 0 0x01 1))) (Numbers (0 ∷ 0 ∷ 0xFFFFFFFF ∷ 0xFFFFFFFE ∷ 0xFFFFFFFE ∷ 0xFFFFFFFE ∷ []))
    ∷ on 104 near_w [] (Look (λ s. told_and_left (event s 0 0x02 2))) (Numbers (0 ∷ 1 ∷ 0xFFFFFFFE ∷ 0xFFFFFFFF ∷ 0xFFFFFFFE ∷ 0xFFFFFFFE ∷ []))
    ∷ on 104 near_w [] (Look (λ s. told_and_left (event s 0 0x03 0))) (Numbers (0 ∷ 0 ∷ 0xFFFFFFFE ∷ 0xFFFFFFFE ∷ 0xFFFFFFFE ∷ 0xFFFFFFFE ∷ []))
    ∷ on 104 near_w [] (Look (λ s. told_and_left (event s 0 0x04 0xFFFFFFFF))) (Numbers (0 ∷ 1 ∷ 0xFFFFFFFE ∷ 0xFFFFFFFE ∷ 0xFFFFFFFE ∷ 0xFFFFFFFF ∷ []))
    -- FFFFFFFFh plus 0 is not cut, plus 1 is; FFFFFFFFh added to 0 is not
    ∷ on 104 end_w [] (Look (λ s. told_and_left (event s 0 0x04 0))) (Numbers (0 ∷ 0 ∷ replicate 4 0xFFFFFFFF))
    ∷ on 104 end_w [] (Look (λ s. told_and_left (event s 0 0x01 1))) (Numbers (0 ∷ 1 ∷ replicate 4 0xFFFFFFFF))
    ∷ on 104 shelf_w [] (Look (λ s. told_and_left (event s 0 0x03 0xFFFFFFFF))) (Numbers (0 ∷ 0 ∷ 0 ∷ 0 ∷ 0xFFFFFFFF ∷ 0 ∷ []))
    -- "no" for the sources just past 01h to 04h, and for a peak
    ∷ on 104 end_w [] (Look (λ s. told_and_left (event s 0 0x05 0xFFFFFFFF))) (Numbers (0 ∷ 0 ∷ replicate 4 0xFFFFFFFF))
    ∷ on 104 end_w [] (Look (λ s. told_and_left (event s 0 0x2E 0xFFFFFFFF))) (Numbers (0 ∷ 0 ∷ replicate 4 0xFFFFFFFF))
    -- a monitor that wraps is not cut: on 05h; and on 02h where the error count has been set to 0 in between, so that it alone is small
    ∷ on 104 shelf_w
    (sent 8 (configure_frame 0x06 0x00 0x00 0 2 (watch 0x05 0 ++ watch 0x02 0))
    ∷ Event 0 0x05 0xFFFFFFFF
    ∷ Event 0 0x02 0xFFFFFFFF
    ∷ clear_errors0
    ∷ [])
    (Look (λ s. event_numbers (event s 0 0x05 1).answer ++ told_and_left (event s 0 0x02 1)))
    (Numbers (0 ∷ 0 ∷ 0 ∷ 0 ∷ 0 ∷ 1 ∷ 0 ∷ 0 ∷ []))
    -- a refused report has no such answer: H7, H8 (also where the low byte is 01h) and H9
    ∷ on 104 end_w []
    (Look
    (λ s. event_numbers (event s 4 0x01 1).answer
    ++ event_numbers (event s 0 0x07 1).answer
    ++ event_numbers (event s 0 0x101 1).answer
    ++ event_numbers (event s 0 0x2B 0x100).answer))
    (Numbers (7 ∷ 8 ∷ 8 ∷ 9 ∷ []))
    ∷ []

-- The disparity count of phy 0, source 02h, in a run: FFFFFFFFh, then 0, 1 and 0 more. The report that takes the sum past FFFFFFFFh is
-- told so, and neither the one before it nor the one after. The tally is kept from what was told: its sum, whether one was cut; and
-- behind it stands the count.
abbrev pub reports : List Operation
reports = Event 0 0x02 0xFFFFFFFF ∷ Event 0 0x02 0 ∷ []

abbrev pub tally_numbers : Tally → List ℕ
tally_numbers t = t.sum ∷ flag t.cut ∷ []

unfoldable pub tallies : List Case
tallies =
    on 104 shelf_w reports (Look (λ s. told_and_left (event s 0 0x02 1))) (Numbers (0 ∷ 1 ∷ 0 ∷ 0xFFFFFFFF ∷ 0 ∷ 0 ∷ []))
    ∷ on 104 shelf_w (reports ++ (Event 0 0x02 1 ∷ [])) (Look (λ s. told_and_left (event s 0 0x02 0))) (Numbers (0 ∷ 0 ∷ 0 ∷ 0xFFFFFFFF ∷ 0 ∷ 0 ∷ []))
    ∷ on 104 shelf_w [] (Look (λ s. tally_numbers (tally 0 0x02 s reports))) (Numbers (0xFFFFFFFF ∷ 0 ∷ []))
    ∷ on 104 shelf_w [] (Look (λ s. tally_numbers (tally 0 0x02 s (reports ++ (Event 0 0x02 1 ∷ []))))) (Numbers (0x100000000 ∷ 1 ∷ []))
    -- another source, another phy and a refused report add nothing; 05h of another phy, or out of reach, sets nothing to 0
    ∷ on 104 shelf_w []
    (Look
    (λ s. tally_numbers
    (tally 0 0x02 s
    (reports
    ++ (Event 0 0x03 5
    ∷ Event 1 0x02 5
    ∷ Event 0 0x102 5
    ∷ sent 8 (control_frame 0x09 0x00 1 0x05)
    ∷ sent 9 (control_frame 0x09 0x00 0 0x05)
    ∷ [])))))
    (Numbers (0xFFFFFFFF ∷ 0 ∷ []))
    -- and an accepted 05h does
    ∷ on 104 shelf_w []
    (Look (λ s. tally_numbers (tally 0 0x02 s (reports ++ (Event 0 0x02 1 ∷ clear_errors0 ∷ Event 0 0x02 7 ∷ [])))))
    (Numbers (7 ∷ 0 ∷ []))
    ∷ []
