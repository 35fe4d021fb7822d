-- One call that goes as the model does: nothing but the words and what is asked for matters to it; its house refusal is the lowest that
-- applies, and leaves words and buffer; H6 tells a cut frame and H10 a wrong one, and neither learns anything; a failed result leaves the
-- words; a write has its full effect or none; group 1 is given the list of stored peak events, no other group is, and what is stored
-- comes with its origination; and that its own addition was cut (#104) is told to an event report exactly if it was, and to nothing else.
-- Assumes nothing.
use Rattle.std.specs.Prelude.{Err, Ok}
use Prim.Native.Nat.{ℕ, ◌≤◌, ◌<◌}
use native.Mathlib.Omega.{arith}
use mathlib.Core.Path.{◌≡◌, refl, sym, ap, ap₂, subst, subst⁻¹, ◌∙◌}
use mathlib.Core.Logic.Iff
use mathlib.Core.Logic.{◌↔◌}
use mathlib.Core.Bool.{Bool, true, false}
use mathlib.Core.List.{List, []}
use lib.Dec.{T}
use lib.ListN.{length}
use Rattle.model.specs.declared.Shelf.{Shelf}
use Rattle.model.specs.Answers.{EventAnswer, told_cut}
use Rattle.model.specs.Bytes.{byte}
use Rattle.model.specs.Fits.{BytesFit, OperationFits, Placed}
use Rattle.model.specs.House.{answer_number}
use Rattle.model.specs.Reports.{event}
use Rattle.model.specs.Request.{function_of}
use Rattle.model.specs.Runs.{Operation, Ask, Event, LinkChange, ReducedFunctionality, Ses, QueryReach, next}
use Rattle.model.specs.Server.{least_buffer, served, lent_after}
use Rattle.model.proofs.Demands.Configured.{Configured}
use Rattle.model.proofs.Demands.Controlled.{Controlled}
use Rattle.model.proofs.Demands.Cut.{CutBy, event_cut}
use Rattle.model.proofs.Demands.EventList.{list_for, ListGiven, list_given}
use Rattle.model.proofs.Demands.Invariant.{fits_placed}
use Rattle.model.proofs.Demands.Refusals.{request_gives, event_gives, link_change_gives, query_gives}
use Rattle.model.proofs.Demands.Refusals.{cut_told, wrong_told, request_refusal, event_refusal, link_change_refusal}
use Rattle.model.proofs.Demands.Results.{Failed, NotRefused, failed_result}
use Rattle.model.proofs.Demands.Stored.{StoredTogether, placed_next_stored}
use Rattle.model.proofs.Demands.Strangers.{list_code, list_refused, NoRequest, no_request_learns_nothing}
use Rattle.model.proofs.Demands.Writes.{ControlPasses, ConfigurePasses, FullOrNone, placed_control_write, placed_configure_write}
use Rattle.model.proofs.Laws.Lowest.{Gives, no_more, row_gives}
use Rattle.model.proofs.Plain.Reports.{Reportable}
use Rattle.words.specs.Memory.{Memory}
use Rattle.words.specs.Sizes.{shelf_words}
use Rattle.words.specs.Words.{shelf_of, laid_over}
use Rattle.words.proofs.Laying.{laid_same}
use Rattle.words.proofs.Lens.{stands_fit}
use Rattle.words.proofs.Steps.{next_stands, next_memory}
use Rattle.calls.specs.Operations.{Said, ToRequest, said, said_number, event_says_cut, says_cut, lent_before, buffer_after, refusals}
use Rattle.calls.specs.Runs.{Asks, Goes}
use Rattle.calls.specs.Left.{Fails, Answers, WordsFullOrNone}

-- ---- The model, of every kind of operation alike

said_gives : (s : Shelf) (o : Operation) → Gives (refusals s o) (said_number (said s o))
unfolding said
said_gives s (Ask g frame out) = request_gives s g frame out
said_gives s (Event p source amount) = event_gives s p source amount
said_gives s (LinkChange p) = link_change_gives s p
said_gives s ReducedFunctionality = row_gives [] [] tt no_more
said_gives s Ses = row_gives [] [] tt no_more
said_gives s (QueryReach g) = query_gives s g

said_stays : (s : Shelf) (o : Operation) → 1 ≤ said_number (said s o) → (next s o ≡ s) × (buffer_after s o ≡ lent_before o)
unfolding said next buffer_after lent_before served
said_stays s (Ask g frame out) refused = request_refusal s g frame out refused
said_stays s (Event p source amount) refused = (event_refusal s p source amount refused, refl)
said_stays s (LinkChange p) refused = (link_change_refusal s p refused, refl)
said_stays s ReducedFunctionality refused = absurd (omega arith)
said_stays s Ses refused = absurd (omega arith)
said_stays s (QueryReach g) refused = (refl, refl)

-- that an addition was cut is told to an event report (#104), and to nothing else
pub says_cut_iff : (answer : EventAnswer) → T (event_says_cut answer) ↔ (answer ≡ told_cut true)
says_cut_iff (Ok counted) = go counted.cut
  where
    go : (cut : Bool) → T cut ↔ (told_cut cut ≡ told_cut true)
    go true = (λ t. refl, λ e. tt)
    go false = (λ t. absurd t, λ e. subst⁻¹ (λ answer. T (event_says_cut answer)) e tt)
says_cut_iff (Err house) = (λ t. absurd t, λ e. subst⁻¹ (λ answer. T (event_says_cut answer)) e tt)

told_to_events : (s : Shelf) (o : Operation) → T (says_cut (said s o))
    → (p : ℕ) × (source : ℕ) × (amount : ℕ) × (o ≡ Event p source amount)
unfolding said
told_to_events s (Ask g frame out) told = absurd told
told_to_events s (Event p source amount) told = (p, source, amount, refl)
told_to_events s (LinkChange p) told = absurd told
told_to_events s ReducedFunctionality told = absurd told
told_to_events s Ses told = absurd told
told_to_events s (QueryReach g) told = absurd told

-- ---- On the words

module _ {A : Type 0} (coded : Said → A) where
  -- the whole of what is seen, from the words that are handed in and what is asked for
  modelled : List ℕ → Operation → Asks A
  modelled ws o =
      record {
        before = ws;
        asked = o;
        after = laid_over ws (next (shelf_of ws) o);
        told = coded (said (shelf_of ws) o);
        buffer = buffer_after (shelf_of ws) o;
      }

  as_modelled : (c : Asks A) → Goes coded (shelf_of c.before) c → c ≡ modelled c.before c.asked
  unfolding modelled
  as_modelled c goes = λ i.
      record { before = c.before; asked = c.asked; after = goes.words i; told = goes.told i; buffer = goes.buffer i }

  -- so nothing else of the arguments matters
  pub goes_same : (c d : Asks A) → Goes coded (shelf_of c.before) c → Goes coded (shelf_of d.before) d
      → c.before ≡ d.before → c.asked ≡ d.asked → c ≡ d
  goes_same c d goes_c goes_d before asked = as_modelled c goes_c ∙ ap₂ modelled before asked ∙ sym (as_modelled d goes_d)

module _ {A : Type 0} (coded : Said → A) (c : Asks A) (goes : Goes coded (shelf_of c.before) c) where
  -- where the shelf stays, every word does
  stays : length c.before ≡ shelf_words → next (shelf_of c.before) c.asked ≡ shelf_of c.before → c.after ≡ c.before
  stays long same = goes.words ∙ ap (laid_over c.before) same ∙ laid_same c.before long

  -- the words that are left stand for the next shelf, and are such words again
  pub stand : Memory c.before → OperationFits c.asked → shelf_of c.after ≡ next (shelf_of c.before) c.asked
  stand memory fit = ap shelf_of goes.words ∙ next_stands c.before c.asked memory fit

  pub leaves_memory : Memory c.before → OperationFits c.asked → Memory c.after
  leaves_memory memory fit = subst⁻¹ Memory goes.words (next_memory c.before c.asked memory fit)

  -- where the words have their sizes, the shelf that they stand for has
  placed : Memory c.before → Placed (shelf_of c.before)
  placed memory = fits_placed (shelf_of c.before) (stands_fit c.before memory)

  -- an origination of Expander 1h or 2h and its entries come together, or not at all
  pub stores_together : Memory c.before → OperationFits c.asked → StoredTogether (shelf_of c.before) (shelf_of c.after)
  stores_together memory fit =
      subst⁻¹ (StoredTogether (shelf_of c.before)) (stand memory fit)
      (placed_next_stored (shelf_of c.before) (placed memory) c.asked)

  -- where it can be read off what is told that an event report's own addition was cut (#104)
  module _ (cut : A → Bool) (reads : (s : Shelf) (o : Operation) → cut (coded (said s o)) ≡ says_cut (said s o)) where
    pub cut_told_exactly : (p source amount : ℕ) → c.asked ≡ Event p source amount
        → let s = shelf_of c.before in
        T (cut c.told) ↔ (Reportable s p source amount × CutBy s p source amount)
    unfolding said
    cut_told_exactly p source amount asks =
        let s : Shelf = shelf_of c.before in
        let is : cut c.told ≡ event_says_cut (event s p source amount).answer =
        ap cut goes.told ∙ reads s c.asked ∙ ap (λ o. says_cut (said s o)) asks in
        rw is (Iff.trans (says_cut_iff (event s p source amount).answer) (event_cut s p source amount))

    -- and of no other call
    pub cut_told_to_events : T (cut c.told) → (p : ℕ) × (source : ℕ) × (amount : ℕ) × (c.asked ≡ Event p source amount)
    cut_told_to_events told =
        told_to_events (shelf_of c.before) c.asked (subst T (ap cut goes.told ∙ reads (shelf_of c.before) c.asked) told)

  -- where the number of a refusal can be read off what is told
  module _ (refusal : A → ℕ) (reads : (s : Shelf) (o : Operation) → refusal (coded (said s o)) ≡ said_number (said s o)) where
    number_told : refusal c.told ≡ said_number (said (shelf_of c.before) c.asked)
    number_told = ap refusal goes.told ∙ reads (shelf_of c.before) c.asked

    pub lowest_told : Gives (refusals (shelf_of c.before) c.asked) (refusal c.told)
    lowest_told =
        subst⁻¹ (Gives (refusals (shelf_of c.before) c.asked)) number_told
        (said_gives (shelf_of c.before) c.asked)

    pub refusal_stays : length c.before ≡ shelf_words → 1 ≤ refusal c.told
        → (c.after ≡ c.before) × (c.buffer ≡ lent_before c.asked)
    refusal_stays long refused =
        let same = said_stays (shelf_of c.before) c.asked (subst (λ n. 1 ≤ n) number_told refused) in
        (stays long same.0, goes.buffer ∙ same.1)

    -- H6 and H10 (#103)
    module _ (g : ℕ) (frame out : List ℕ) (asks : c.asked ≡ Ask g frame out) where
      request_told : refusal c.told ≡ answer_number (served (shelf_of c.before) g frame out).answer
      unfolding said
      request_told = number_told ∙ ap (λ o. said_number (said (shelf_of c.before) o)) asks

      pub cut_read : (refusal c.told ≡ 6) ↔ ((g ≤ 31) × (least_buffer ≤ length out) × (length frame < 4))
      cut_read = rw request_told (cut_told (shelf_of c.before) g frame out)

      pub wrong_read : (refusal c.told ≡ 10)
          ↔ ((g ≤ 31) × (least_buffer ≤ length out) × (4 ≤ length frame) × (byte frame 0 ≡ 0x40 → ⊥))
      wrong_read = rw request_told (wrong_told (shelf_of c.before) g frame out)

    -- a request that is not refused
    module _ (g : ℕ) (frame out : List ℕ) (asks : c.asked ≡ Ask g frame out) (answered : refusal c.told ≡ 0) where
      abbrev s : Shelf
      s = shelf_of c.before

      abbrev AsksGoes : ℕ → Type 0
      AsksGoes h =
          (c.after ≡ laid_over c.before (served s h frame out).shelf)
          × (c.told ≡ coded (ToRequest (served s h frame out).answer))
          × (c.buffer ≡ lent_after s h frame out)

      asks_goes : AsksGoes g
      unfolding next served said buffer_after
      asks_goes = (
        goes.words ∙ ap (λ o. laid_over c.before (next s o)) asks,
        goes.told ∙ ap (λ o. coded (said s o)) asks,
        goes.buffer ∙ ap (buffer_after s) asks,
      )

      not_refused : NotRefused s g frame out
      unfolding said
      not_refused = sym (ap (λ o. said_number (said s o)) asks) ∙ sym number_told ∙ answered

      -- one that fails, from what the model says of it
      failing : length c.before ≡ shelf_words → {code : ℕ} → Failed s g frame out code → Fails coded frame out code c
      failing long failed =
          let (words, told, buffer) = asks_goes in
          record {
            words = words ∙ ap (laid_over c.before) failed.stays ∙ laid_same c.before long;
            told = told ∙ ap (λ a. coded (ToRequest a)) failed.told;
            buffer = buffer ∙ failed.left;
          }

      pub fails : length c.before ≡ shelf_words → (code : ℕ) → byte c.buffer 2 ≡ code → 1 ≤ code → Fails coded frame out code c
      fails long code drawn some =
          failing long (failed_result s g frame out code not_refused (ap (λ b. byte b 2) (sym asks_goes.2) ∙ drawn) some)

      -- a 21h, of a group other than 1 and of group 1
      pub list_refuses : length c.before ≡ shelf_words → function_of frame ≡ 0x21 → (g ≡ 1 → ⊥) → Fails coded frame out (list_code frame) c
      list_refuses long e other = failing long (list_refused s g frame out not_refused e other)

      pub list_answers : length c.before ≡ shelf_words → g ≡ 1 → function_of frame ≡ 0x21 → length frame ≡ 8 → byte frame 3 ≡ 0x01
          → Answers coded (list_for s frame) out c
      list_answers long one e size byte_3 =
          let (words, told, buffer) = subst (λ h. AsksGoes h) one asks_goes in
          let given : ListGiven s frame out = list_given s frame out (subst (λ h. NotRefused s h frame out) one not_refused) e size byte_3 in
          record {
            words = words ∙ ap (laid_over c.before) given.stays ∙ laid_same c.before long;
            told = told ∙ ap (λ a. coded (ToRequest a)) given.told;
            buffer = buffer ∙ given.left;
          }

      -- a write, from what the model says of it
      writes : Memory c.before → BytesFit frame → {Passing : Type 0} {Full : Shelf → Type 0}
          → FullOrNone Passing Full s (served s g frame out).shelf
          → WordsFullOrNone Passing Full c.before c.after
      unfolding next served
      writes memory fit {Full = Full} write =
          let words = asks_goes.0 in
          let next_shelf : shelf_of c.after ≡ (served s g frame out).shelf =
          ap shelf_of words ∙ next_stands c.before (Ask g frame out) memory fit in
          record {
            full = λ passes. subst⁻¹ Full next_shelf (write.full passes);
            none = λ stopped. words ∙ ap (laid_over c.before) (write.none stopped) ∙ laid_same c.before memory.size;
          }

      pub control_writes : Memory c.before → BytesFit frame → function_of frame ≡ 0x91
          → WordsFullOrNone (ControlPasses s g frame) (Controlled s (byte frame 9) (byte frame 10)) c.before c.after
      control_writes memory fit e = writes memory fit (placed_control_write s (placed memory) g frame out not_refused e)

      pub configure_writes : Memory c.before → BytesFit frame → function_of frame ≡ 0x93
          → WordsFullOrNone (ConfigurePasses s g frame) (Configured s (byte frame 9) frame) c.before c.after
      configure_writes memory fit e = writes memory fit (placed_configure_write s (placed memory) g frame out not_refused e)

-- Two calls of a frame that is cut, or wrong, on whatever words: they are told the same, and each leaves its words and its buffer.
module _ {A : Type 0} (coded : Said → A) (c d : Asks A) (goes_c : Goes coded (shelf_of c.before) c)
    (goes_d : Goes coded (shelf_of d.before) d) where
  pub no_request_alike : (g : ℕ) (frame out : List ℕ) → NoRequest frame → c.asked ≡ Ask g frame out → d.asked ≡ Ask g frame out
      → length c.before ≡ shelf_words → (c.told ≡ d.told) × (c.after ≡ c.before) × (c.buffer ≡ out)
  unfolding said next buffer_after served
  no_request_alike g frame out no_request asks_c asks_d long =
      let s : Shelf = shelf_of c.before in
      let t : Shelf = shelf_of d.before in
      let (alike, shelf, buffer) = no_request_learns_nothing s t g frame out no_request in (
        goes_c.told
            ∙ ap (λ o. coded (said s o)) asks_c
            ∙ ap (λ a. coded (ToRequest a)) alike
            ∙ sym (goes_d.told ∙ ap (λ o. coded (said t o)) asks_d),
        stays coded c goes_c long (ap (next s) asks_c ∙ shelf),
        goes_c.buffer ∙ ap (buffer_after s) asks_c ∙ buffer,
      )
