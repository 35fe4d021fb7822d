-- The two halves joined: the code keeps its promises, and the model meets the demands. So the demands hold of what is linked, of the words,
-- the answers and the lent buffers that it leaves. These are the statements to cite. Each is of all that can be linked (`Linked`), and of
-- calls and starts as values, of which nothing is known but that the promises allow them.
--
-- Nothing is asked of them but what the types say, since the numbers here have no width: a shelf's memory is `shelf_words` words of 32 bits
-- (`Memory`; where their number is enough, `length .. ≡ shelf_words`), a frame is bytes and an amount has 32 bits (`AllFit`, `BytesFit`), a
-- start is given 32 rows of 32 bits and 8 bytes (`StartFits`). `Widths` has these from the toolchain's own types. Assumes nothing.
use Prim.Native.Nat.{ℕ, ◌+◌, ◌≤◌, ◌<◌}
use mathlib.Core.Path.{◌≡◌, refl, ap, ap₂, subst, ◌∙◌}
use mathlib.Core.Bool.{false}
use mathlib.Core.Logic.{◌↔◌}
use mathlib.Core.List.{List, [], ◌∷◌, map}
use lib.Dec.{T}
use lib.ListN.{length}
use Rattle.model.specs.Bytes.{byte}
use Rattle.model.specs.CrossedOut.{remains}
use Rattle.model.specs.Fits.{BytesFit, OperationFits, Sound, AllFit, StartFits}
use Rattle.model.specs.History.{history}
use Rattle.model.specs.Request.{function_of}
use Rattle.model.specs.Runs.{Operation, Ask, Event, after, answers}
use Rattle.model.specs.Server.{least_buffer}
use Rattle.model.specs.Tally.{tally}
use Rattle.model.proofs.Demands.Configured.{Configured}
use Rattle.model.proofs.Demands.Controlled.{Controlled}
use Rattle.model.proofs.Demands.Cut.{CutBy}
use Rattle.model.proofs.Demands.ErrorCounts.{Stands}
use Rattle.model.proofs.Demands.ErrorSteps.{count_of}
use Rattle.model.proofs.Demands.EventList.{list_for}
use Rattle.model.proofs.Demands.History.{IsHistory}
use Rattle.model.proofs.Demands.Stored.{StoredTogether}
use Rattle.model.proofs.Demands.Strangers.{list_code, NoRequest}
use Rattle.model.proofs.Demands.Writes.{ControlPasses, ConfigurePasses}
use Rattle.model.proofs.Laws.Lowest.{Gives}
use Rattle.model.proofs.Laws.Places.{All}
use Rattle.model.proofs.Plain.Reports.{Reportable}
use Rattle.words.specs.Memory.{Memory}
use Rattle.words.specs.Sizes.{shelf_words}
use Rattle.words.specs.Words.{shelf_of}
use Rattle.calls.specs.Operations.{lent_before, refusals, Given, start_of, start_refusals_of}
use Rattle.calls.specs.Runs.{Goes, Starts, RunsAs, coded_told, RunFrom, operations, last_words, got}
use Rattle.calls.specs.Left.{Fails, Answers, WordsFullOrNone}
use Rattle.calls.specs.Linked.{Linked, Server, Host, interface}
use Rattle.calls.proofs.OneCall.{goes_same, lowest_told, refusal_stays, cut_read, wrong_read, no_request_alike, fails, list_refuses}
use Rattle.calls.proofs.OneCall.{cut_told_exactly, cut_told_to_events}
use Rattle.calls.proofs.OneCall.{list_answers, stores_together, control_writes, configure_writes}
use Rattle.calls.proofs.ManyCalls.{Go, ends, got_answers}
use Rattle.calls.proofs.Starting.{start_lowest, start_stays, same_told, same_words}
use Rattle.calls.proofs.Starting.{begun_goes, begun_shelf, begun_sound, begun_tallied, begun_history, begun_demand_3}
use Rattle.calls.proofs.Follows.{Follows}
use Rattle.calls.proofs.ServerFollows.{server_follows}
use Rattle.calls.proofs.HostFollows.{host_follows}

follows : (linked : Linked) → Follows (interface linked)
follows Server = server_follows
follows Host = host_follows

module _ (linked : Linked) where
  open interface linked use {coded, refusal, cut, Call, seen, Start, started}

  -- ---- One call

  -- It goes as the model does on the shelf that the words stand for: words, answer and lent buffer. So does a start.
  pub call_goes : (call : Call) → let c = seen call in length c.before ≡ shelf_words → Goes coded (shelf_of c.before) c
  call_goes call = (follows linked).goes call

  pub start_goes : (x : Start) → Starts coded (started x)
  start_goes x = (follows linked).starts x

  -- Two calls that are handed the same words and asked the same are seen the same: no word, no answer and no byte of the buffer depends on
  -- where memory lies, nor on lifetimes. To a start that is taken, what the memory held before does not matter either.
  pub call_same : (one other : Call) → let c = seen one in let d = seen other in length c.before ≡ shelf_words
      → c.before ≡ d.before → c.asked ≡ d.asked → c ≡ d
  call_same one other long same =
      goes_same coded (seen one) (seen other) (call_goes one long) (call_goes other (subst (λ ws. length ws ≡ shelf_words) same long)) same

  pub start_same : (one other : Start) → let x = started one in let y = started other in x.asked ≡ y.asked
      → (x.told ≡ y.told) × (refusal x.told ≡ 0 → x.after ≡ y.after)
  start_same one other same =
      let reads = (follows linked).reads_start in (
        same_told coded refusal reads (started one) (started other) (start_goes one) (start_goes other) same,
        same_words coded refusal reads (started one) (started other) (start_goes one) (start_goes other) same,
      )

  -- "The lowest number that applies is given."
  pub call_refusal : (call : Call) → let c = seen call in length c.before ≡ shelf_words
      → Gives (refusals (shelf_of c.before) c.asked) (refusal c.told)
  call_refusal call long = lowest_told coded (seen call) (call_goes call long) refusal (follows linked).reads

  pub start_refusal : (x : Start) → Gives (start_refusals_of (started x).asked) (refusal (started x).told)
  start_refusal x = start_lowest coded refusal (follows linked).reads_start (started x) (start_goes x)

  -- "The answer holds the number and nothing else; state and buffer stay. A refused start gives no device."
  pub call_refused : (call : Call) → let c = seen call in length c.before ≡ shelf_words
      → 1 ≤ refusal c.told → (c.after ≡ c.before) × (c.buffer ≡ lent_before c.asked)
  call_refused call long = refusal_stays coded (seen call) (call_goes call long) refusal (follows linked).reads long

  pub start_refused : (x : Start) → 1 ≤ refusal (started x).told → (started x).after ≡ (started x).before
  start_refused x = start_stays coded refusal (follows linked).reads_start (started x) (start_goes x)

  -- #103, "Tell a cut frame from a wrong one": from a zone group, with room for the response, H6 is told exactly for a frame of under four
  -- bytes, and H10 exactly for one of four or more whose first byte is not 40h.
  pub call_cut : (call : Call) → let c = seen call in length c.before ≡ shelf_words
      → (g : ℕ) (frame out : List ℕ) → c.asked ≡ Ask g frame out
      → (refusal c.told ≡ 6) ↔ ((g ≤ 31) × (least_buffer ≤ length out) × (length frame < 4))
  call_cut call long = cut_read coded (seen call) (call_goes call long) refusal (follows linked).reads

  pub call_wrong : (call : Call) → let c = seen call in length c.before ≡ shelf_words
      → (g : ℕ) (frame out : List ℕ) → c.asked ≡ Ask g frame out
      → (refusal c.told ≡ 10) ↔ ((g ≤ 31) × (least_buffer ≤ length out) × (4 ≤ length frame) × (byte frame 0 ≡ 0x40 → ⊥))
  call_wrong call long = wrong_read coded (seen call) (call_goes call long) refusal (follows linked).reads

  -- Such a frame learns nothing, whatever else it says, wherever it comes from and whatever is lent: two calls of it on any words are told
  -- the same, and each leaves its words and its buffer.
  pub call_learns_nothing : (one other : Call) → let c = seen one in let d = seen other in
      length c.before ≡ shelf_words → length d.before ≡ shelf_words → (g : ℕ) (frame out : List ℕ) → NoRequest frame
      → c.asked ≡ Ask g frame out → d.asked ≡ Ask g frame out → (c.told ≡ d.told) × (c.after ≡ c.before) × (c.buffer ≡ out)
  call_learns_nothing one other long_c long_d g frame out no_request asks_c asks_d =
      no_request_alike coded (seen one) (seen other) (call_goes one long_c) (call_goes other long_d) g frame out no_request asks_c asks_d
      long_c

  -- #104, "Say when an error count has stuck": that its own addition was cut is told to an event report exactly if none of H7, H8 and H9
  -- applies, its source is 01h to 04h, and the count before plus the amount, as exact numbers, is above FFFFFFFFh; and to nothing else.
  pub call_addition_cut : (call : Call) → let c = seen call in let s = shelf_of c.before in length c.before ≡ shelf_words
      → (p source amount : ℕ) → c.asked ≡ Event p source amount
      → T (cut c.told) ↔ (Reportable s p source amount × CutBy s p source amount)
  call_addition_cut call long = cut_told_exactly coded (seen call) (call_goes call long) cut (follows linked).reads_cut

  pub call_cut_is_event : (call : Call) → let c = seen call in length c.before ≡ shelf_words → T (cut c.told)
      → (p : ℕ) × (source : ℕ) × (amount : ℕ) × (c.asked ≡ Event p source amount)
  call_cut_is_event call long = cut_told_to_events coded (seen call) (call_goes call long) cut (follows linked).reads_cut

  pub start_uncut : (x : Start) → cut (started x).told ≡ false
  start_uncut x = ap cut (start_goes x).told ∙ (follows linked).reads_start_cut (start_of (started x).asked).taken

  -- a request of group g that draws no house refusal
  module _ (call : Call) (g : ℕ) (frame out : List ℕ) (asks : (seen call).asked ≡ Ask g frame out)
      (answered : refusal (seen call).told ≡ 0) where
    -- "A failed response is 41h, the function, the result, 00h. The buffer past any response is unchanged", and so is every word.
    pub call_failed : let c = seen call in length c.before ≡ shelf_words
        → (code : ℕ) → byte c.buffer 2 ≡ code → 1 ≤ code → Fails coded frame out code c
    call_failed long =
        fails coded (seen call) (call_goes call long) refusal (follows linked).reads g frame out asks answered long

    -- "A write that draws no house refusal takes its full effect exactly when its length, count, phy, zone and contents all pass, and
    -- otherwise has no effect at all": no word has changed.
    pub call_control_write : let c = seen call in let s = shelf_of c.before in
        Memory c.before → BytesFit frame → function_of frame ≡ 0x91
        → WordsFullOrNone (ControlPasses s g frame) (Controlled s (byte frame 9) (byte frame 10)) c.before c.after
    call_control_write memory =
        control_writes coded (seen call) (call_goes call memory.size) refusal (follows linked).reads g frame out asks answered memory

    pub call_configure_write : let c = seen call in let s = shelf_of c.before in
        Memory c.before → BytesFit frame → function_of frame ≡ 0x93
        → WordsFullOrNone (ConfigurePasses s g frame) (Configured s (byte frame 9) frame) c.before c.after
    call_configure_write memory =
        configure_writes coded (seen call) (call_goes call memory.size) refusal (follows linked).reads g frame out asks answered memory

    -- #101, 21h: "only source group 1 may ask". Another group learns nothing by it but whether its length was right;
    pub call_list_refused : let c = seen call in length c.before ≡ shelf_words
        → function_of frame ≡ 0x21 → (g ≡ 1 → ⊥) → Fails coded frame out (list_code frame) c
    call_list_refused long =
        list_refuses coded (seen call) (call_goes call long) refusal (follows linked).reads g frame out asks answered long

    -- group 1 is given the list of the shelf that the words stand for, from its starting index on.
    pub call_list_given : let c = seen call in length c.before ≡ shelf_words
        → g ≡ 1 → function_of frame ≡ 0x21 → length frame ≡ 8 → byte frame 3 ≡ 0x01
        → Answers coded (list_for (shelf_of c.before) frame) out c
    call_list_given long =
        list_answers coded (seen call) (call_goes call long) refusal (follows linked).reads g frame out asks answered long

  -- An origination of Expander 1h or 2h and its entries in that list come together, or not at all.
  pub call_stored : (call : Call) → let c = seen call in Memory c.before → OperationFits c.asked
      → StoredTogether (shelf_of c.before) (shelf_of c.after)
  call_stored call memory = stores_together coded (seen call) (call_goes call memory.size) memory

  -- ---- Calls one after another, each handed the words that the one before left

  all_go : (calls : List Call) → All (Go coded) (map seen calls)
  all_go [] = tt
  all_go (call ∷ calls) = ((follows linked).goes call, all_go calls)

  -- from any words
  module _ (ws : List ℕ) (memory : Memory ws) (calls : List Call) where
    -- The run goes, call by call, as the model's from the shelf that the words stand for;
    pub run_goes : let run = map seen calls in RunFrom ws run → AllFit (operations run) → RunsAs coded (shelf_of ws) run
    run_goes from fit = (ends coded ws (map seen calls) (all_go calls) from memory fit).goes

    -- the words that it leaves stand for the model's last shelf;
    pub run_shelf : let run = map seen calls in RunFrom ws run → AllFit (operations run)
        → shelf_of (last_words ws run) ≡ after (shelf_of ws) (operations run)
    run_shelf from fit = (ends coded ws (map seen calls) (all_go calls) from memory fit).shelf

    -- and what a source group got are the model's answers to it.
    pub run_answers : let run = map seen calls in RunFrom ws run → AllFit (operations run)
        → (g : ℕ) → got g run ≡ map (coded_told coded) (answers g (shelf_of ws) (operations run))
    run_answers from fit g = got_answers coded g (shelf_of ws) (map seen calls) (run_goes from fit)

  -- from a start that is not refused
  module _ (x : Start) (taken : refusal (started x).told ≡ 0) (fit : StartFits (started x).asked.table (started x).asked.identifier)
      (calls : List Call) where
    -- The run goes as the model's from the model's own fresh shelf;
    pub started_goes : let run = map seen calls in RunFrom (started x).after run → AllFit (operations run)
        → RunsAs coded (start_of (started x).asked).shelf run
    started_goes =
        begun_goes coded refusal (follows linked).reads_start (started x) (start_goes x) taken fit (map seen calls) (all_go calls)

    -- the words that it leaves stand for the model's last shelf;
    pub started_shelf : let run = map seen calls in RunFrom (started x).after run → AllFit (operations run)
        → shelf_of (last_words (started x).after run) ≡ after (start_of (started x).asked).shelf (operations run)
    started_shelf =
        begun_shelf coded refusal (follows linked).reads_start (started x) (start_goes x) taken fit (map seen calls) (all_go calls)

    -- that one keeps the invariant;
    pub started_sound : let run = map seen calls in RunFrom (started x).after run → AllFit (operations run)
        → Sound (shelf_of (last_words (started x).after run))
    started_sound =
        begun_sound coded refusal (follows linked).reads_start (started x) (start_goes x) taken fit (map seen calls) (all_go calls)

    -- each of its error counts is what those know who hear the reports and the 05h with their answers (#104): the exact sum of the accepted
    -- amounts since the last 05h or the start until one was told as cut, and FFFFFFFFh from then on;
    pub started_tallied : let run = map seen calls in RunFrom (started x).after run → AllFit (operations run) → (p k : ℕ) → k < 4
        → Stands (tally p (k + 1) (start_of (started x).asked).shelf (operations run))
        (count_of p k (shelf_of (last_words (started x).after run)))
    started_tallied =
        begun_tallied coded refusal (follows linked).reads_start (started x) (start_goes x) taken fit (map seen calls) (all_go calls)

    -- and its list of stored peak events is the history of the run.
    pub started_history : let run = map seen calls in RunFrom (started x).after run → AllFit (operations run)
        → IsHistory (shelf_of (last_words (started x).after run)).store (history (start_of (started x).asked).shelf (operations run))
    started_history =
        begun_history coded refusal (follows linked).reads_start (started x) (start_goes x) taken fit (map seen calls) (all_go calls)

  -- ---- Demand 3

  -- Two runs, each begun by a start. Both starts are given the same, and the first is not refused (so the second is not either, by
  -- `start_same`). If what remains of the runs is the same for a source group, judged on the model's own fresh shelf, that group got the
  -- same in both: every answer, with the whole lent buffer afterwards.
  pub calls_demand_3 : (x y : Start) → let given = (started x).asked in given ≡ (started y).asked
      → StartFits given.table given.identifier → refusal (started x).told ≡ 0
      → (g : ℕ) (calls others : List Call) → let one = map seen calls in let other = map seen others in
      RunFrom (started x).after one → RunFrom (started y).after other → AllFit (operations one) → AllFit (operations other)
      → remains g (start_of given).shelf (operations one) ≡ remains g (start_of given).shelf (operations other)
      → got g one ≡ got g other
  calls_demand_3 x y same fit taken g calls others =
      begun_demand_3 coded refusal (follows linked).reads_start (started x) (started y) (start_goes x) (start_goes y) same fit taken g
      (map seen calls) (map seen others) (all_go calls) (all_go others)

  -- ---- Nothing of this is said of nothing: whatever a start is given, and whatever is asked for one after another, there are such calls.

  pub every_start : (ws : List ℕ) (given : Given) → (x : Start) × ((started x).before ≡ ws) × ((started x).asked ≡ given)
  every_start = (follows linked).begins

  pub every_run : (ws : List ℕ) (os : List Operation)
      → (calls : List Call) × RunFrom ws (map seen calls) × (operations (map seen calls) ≡ os)
  unfolding RunFrom
  every_run ws [] = ([], tt, refl)
  every_run ws (o ∷ os) =
      let (call, before, asked) = (follows linked).asks ws o in
      let (calls, from, asks) = every_run (seen call).after os in
      (call ∷ calls, (before, from), ap₂ ◌∷◌ asked asks)
