-- The reports of a script.
use Rattle.std.specs.Prelude.{ℕ, zero, suc, false, List, Option, Some, is_some, option_map, Ok}
use Rattle.std.specs.Option.{option_or}
use Rattle.std.specs.Result.{result_unwrap_or}
use Rattle.model.specs.declared.EventOutcome.{EventOutcome}
use Rattle.model.specs.declared.Notice.TheVariants.{Expander3, Ses0}
use Rattle.model.specs.declared.Outcome.{Outcome}
use Rattle.model.specs.declared.Shelf.{Shelf}
use Rattle.model.specs.Answers.{EventAnswer, Taken, told_cut}
use Rattle.model.specs.Bytes.{text}
use Rattle.model.specs.Reports.{event_answer, event, link_change, noticed}
use Rattle.model.specs.Tests.{given}
use Rattle.words.specs.Words.{shelf_of, laid_over}
use Rattle.script.specs.declared.report.Report.{Report}
use Rattle.script.specs.declared.report.Report.TheVariants.{Event, LinkChange, Notice}
use Rattle.script.specs.declared.report.ReportLine.{ReportLine}
use Rattle.script.specs.declared.text.Reading.{Reading}
use Rattle.script.specs.Text.{reading, read, read_whole}

-- how many times, which may be left out, as the last number
unfoldable pub read_times : List ℕ → Reading → Reading
read_times line from = result_unwrap_or (read line from (text "# times: ")) (reading from.at from.first from.second 1)

-- the forms of a report, each to the end of the line
unfoldable pub read_event : List ℕ → Reading → Option Report
read_event line start =
    option_map (λ event. Event event.first event.second event.third)
    (read_whole line start (text "event on phy #, source $h, amount #"))

unfoldable pub read_link_change : List ℕ → Reading → Option Report
read_link_change line start = option_map (λ link. LinkChange link.third) (read_whole line start (text "link change on phy #"))

unfoldable pub read_notice : List ℕ → Reading → Option Report
read_notice line start =
    given (is_some (read_whole line start (text "notice of reduced functionality"))) (Some (Notice Expander3))
    (option_map (λ _. Notice Ses0) (read_whole line start (text "SES notice")))

-- the report after how many times; the forms are tried in the order event, link change, reduced functionality, SES
unfoldable pub read_report : List ℕ → Reading → Option ReportLine
read_report line from =
    let start = read_times line from in
    option_map (λ report. record { times = start.third; report = report })
    (option_or (option_or (read_event line start) (read_link_change line start)) (read_notice line start))

-- What a report comes to: what is told, in the form of an event report's answer, and the words afterwards.
pub record Made : Type 0 where
  pub answer : EventAnswer
  pub words : List ℕ

abbrev pub made : List ℕ → EventAnswer → Shelf → Made
made ws answer after = record { answer = answer; words = laid_over ws after }

-- a link change and a notice add to no error count, and so are never cut (#104)
abbrev pub made_uncut : List ℕ → Taken → Shelf → Made
made_uncut ws taken after = made ws (event_answer taken false) after

-- makes a report on the shelf that these words stand for; the notices have no refusal
unfoldable pub make_report : List ℕ → Report → Made
make_report ws (Event phy source amount) =
    let o : EventOutcome = event (shelf_of ws) phy source amount in made ws o.answer o.shelf
make_report ws (LinkChange phy) = let o : Outcome = link_change (shelf_of ws) phy in made_uncut ws o.taken o.shelf
make_report ws (Notice notice) = made_uncut ws (Ok tt) (noticed (shelf_of ws) notice)

-- makes it that many times more
unfoldable pub make_more : Made → Report → ℕ → Made
make_more before report zero = before
make_more before report (suc times) = make_more (make_report before.words report) report times

-- .. that many times in all; 0 times come to a report that is counted and not cut, with the words as they were
abbrev pub make_times : List ℕ → Report → ℕ → Made
make_times ws report times = make_more (record { answer = told_cut false; words = ws }) report times
