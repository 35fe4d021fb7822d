-- What is done to a phy is carried out on the words: its record is put, with the change count after it, and what is stored of its
-- monitors is stored, one after another. One law for the two writes and the two reports. Assumes nothing.
use Rattle.std.specs.Prelude.{Option, Some, None}
use Prim.Native.Nat.{ℕ, zero, suc, ◌≤◌}
use native.Mathlib.Omega.{arith}
use mathlib.Core.Path.{◌≡◌, refl, sym, ap, ◌∙◌}
use mathlib.Core.List.{List, [], ◌∷◌, map}
use lib.ListN.{length, get_or}
use Rattle.model.specs.declared.Effect.{Effect}
use Rattle.model.specs.declared.Entry.{Entry}
use Rattle.model.specs.declared.Monitor.{Monitor}
use Rattle.model.specs.declared.Phy.{Phy}
use Rattle.model.specs.declared.Store.{Store}
use Rattle.model.specs.Counting.{originate_if, stored_ones}
use Rattle.model.specs.Shelf.{entry_of, put, put_store, phy_at}
use Rattle.model.specs.Store.{store_all, entries_of, carried_out}
use Rattle.model.proofs.Laws.Four.{four}
use Rattle.words.specs.Sizes.{shelf_words}
use Rattle.words.specs.Words.{shelf_of, laid_over}
use Rattle.words.proofs.Pieces.{EntryLow}
use Rattle.words.proofs.Storing.{laid_phy, laid_list, laid_nothing}
use Rattle.model.proofs.Laws.Places.{All}
use Rattle.server.specs.Stored.{if_there, stored_over, Narrow}
use Rattle.server.proofs.StoredFirst.{put_after}

-- ---- The four monitors of a phy, one after another, are what is stored of them

-- what is stored of a monitor whose source is narrow is low
there_low : (p : ℕ) → p ≤ 0xFF → (x : Option Monitor) → Narrow x → All EntryLow (if_there p x)
unfolding if_there
there_low p small None narrow = tt
there_low p small (Some m) narrow = (record { phy = small; source = narrow }, tt)

module _ (p : ℕ) where
  -- one more before others
  one_more : (x : Option Monitor) (k : Store) (ms : List (Option Monitor))
      → store_all (store_all k (if_there p x)) (map (entry_of p) (stored_ones ms)) ≡ store_all k (map (entry_of p) (stored_ones (x ∷ ms)))
  unfolding if_there
  one_more None k ms = refl
  one_more (Some m) k ms = refl

  all_four : (a b c d : Option Monitor) (k : Store)
      → store_all (store_all (store_all (store_all k (if_there p a)) (if_there p b)) (if_there p c)) (if_there p d)
      ≡ store_all k (map (entry_of p) (stored_ones (a ∷ b ∷ c ∷ d ∷ [])))
  all_four a b c d k = one_more d _ [] ∙ one_more c _ (d ∷ []) ∙ one_more b _ (c ∷ d ∷ []) ∙ one_more a k (b ∷ c ∷ d ∷ [])

-- What the type `Effect` says of an effect that a call gave: four places, and the monitors that are there have sources of 8 bits.
pub record Typed (e : Effect) : Type 0 where
  pub places : length e.stored ≡ 4
  pub narrow : (i : ℕ) → Narrow (get_or e.stored i None)

narrow_places : (xs : List (Option Monitor)) → length xs ≡ 4 → Narrow (get_or xs 0 None) → Narrow (get_or xs 1 None) → Narrow (get_or xs 2 None)
    → Narrow (get_or xs 3 None) → (i : ℕ) → Narrow (get_or xs i None)
narrow_places [] h a b c d i = absurd (omega arith)
narrow_places (x ∷ []) h a b c d i = absurd (omega arith)
narrow_places (x ∷ y ∷ []) h a b c d i = absurd (omega arith)
narrow_places (x ∷ y ∷ z ∷ []) h a b c d i = absurd (omega arith)
narrow_places (x ∷ y ∷ z ∷ w ∷ []) h a b c d zero = a
narrow_places (x ∷ y ∷ z ∷ w ∷ []) h a b c d (suc zero) = b
narrow_places (x ∷ y ∷ z ∷ w ∷ []) h a b c d (suc (suc zero)) = c
narrow_places (x ∷ y ∷ z ∷ w ∷ []) h a b c d (suc (suc (suc zero))) = d
narrow_places (x ∷ y ∷ z ∷ w ∷ []) h a b c d (suc (suc (suc (suc i)))) = tt
narrow_places (x ∷ y ∷ z ∷ w ∷ v ∷ vs) h a b c d i = absurd (omega arith)

-- .. from what the four calls were given
pub typed : (e : Effect) → length e.stored ≡ 4 → Narrow (get_or e.stored 0 None) → Narrow (get_or e.stored 1 None)
    → Narrow (get_or e.stored 2 None) → Narrow (get_or e.stored 3 None) → Typed e
typed e places a b c d = record { places = places; narrow = narrow_places e.stored places a b c d }

-- ---- From what the calls promise: the phy was read, this is done to it, and the count is the one after that

module _ (ws : List ℕ) (p : ℕ) (f : Phy → Effect) {x : Phy} {e : Effect} {count : ℕ} (read : x ≡ phy_at (shelf_of ws) p) (made : e ≡ f x)
    (moved : count ≡ originate_if e.change (shelf_of ws).changes)
  where
    -- where nothing is stored, both are put, and that is all
    pub carried : store_all (shelf_of ws).store (entries_of p (f (phy_at (shelf_of ws) p))) ≡ (shelf_of ws).store → {next : List ℕ}
        → next ≡ laid_over ws (put (shelf_of ws) p e.phy count) → next ≡ laid_over ws (carried_out (shelf_of ws) p (f (phy_at (shelf_of ws) p)))
    carried none is_next =
        rw (← read, ← made) (is_next ∙ ap (λ n. laid_over ws (put (shelf_of ws) p e.phy n)) moved
        ∙ ap (λ k. laid_over ws (put_store (put (shelf_of ws) p e.phy (originate_if e.change (shelf_of ws).changes)) k))
        (sym (rw (← read, ← made) at none)))

    module _ (long : length ws ≡ shelf_words) (small : p ≤ 0xFF) (typed : Typed e) where
      -- monitor i, if it is stored
      abbrev pub one : ℕ → List Entry
      one i = if_there p (get_or e.stored i None)

      one_low : (i : ℕ) → All EntryLow (one i)
      one_low i = there_low p small (get_or e.stored i None) (typed.narrow i)

      four_stored : (k : Store) → store_all (store_all (store_all (store_all k (one 0)) (one 1)) (one 2)) (one 3) ≡ store_all k (entries_of p e)
      four_stored k =
          four None (λ stored. store_all k (map (entry_of p) (stored_ones stored))) e.stored typed.places
          (all_four p (get_or e.stored 0 None) (get_or e.stored 1 None) (get_or e.stored 2 None) (get_or e.stored 3 None) k)

      -- all of it
      all_carried : let k : Store = (shelf_of ws).store in
          laid_over ws
          (put_store (put (shelf_of ws) p e.phy count) (store_all (store_all (store_all (store_all k (one 0)) (one 1)) (one 2)) (one 3)))
          ≡ laid_over ws (carried_out (shelf_of ws) p e)
      all_carried =
          let k : Store = (shelf_of ws).store in
          ap (λ l. laid_over ws (put_store (put (shelf_of ws) p e.phy count) l)) (four_stored k)
          ∙ ap (λ n. laid_over ws (put_store (put (shelf_of ws) p e.phy n) (store_all k (entries_of p e)))) moved

      -- each of the four that is there is stored, "in monitor order", on the words that the one before left: after both are put ..
      pub carried_stored : {now first second third fourth : List ℕ} → now ≡ laid_over ws (put (shelf_of ws) p e.phy count)
          → first ≡ stored_over now (one 0) → second ≡ stored_over first (one 1) → third ≡ stored_over second (one 2)
          → fourth ≡ stored_over third (one 3)
          → fourth ≡ laid_over ws (carried_out (shelf_of ws) p (f (phy_at (shelf_of ws) p)))
      carried_stored is_now a b c d =
          let laid_1 = laid_list ws _ (laid_phy ws long p e.phy count is_now) (one 0) (one_low 0) a in
          let laid_2 = laid_list ws _ laid_1 (one 1) (one_low 1) b in
          let laid_3 = laid_list ws _ laid_2 (one 2) (one_low 2) c in
          rw (← read, ← made) ((laid_list ws _ laid_3 (one 3) (one_low 3) d).words ∙ all_carried)

      -- .. or before
      pub stored_carried : {first second third fourth next : List ℕ} → first ≡ stored_over ws (one 0) → second ≡ stored_over first (one 1)
          → third ≡ stored_over second (one 2) → fourth ≡ stored_over third (one 3)
          → next ≡ laid_over fourth (put (shelf_of fourth) p e.phy count)
          → next ≡ laid_over ws (carried_out (shelf_of ws) p (f (phy_at (shelf_of ws) p)))
      stored_carried a b c d is_next =
          let laid_1 = laid_list ws _ (laid_nothing ws long) (one 0) (one_low 0) a in
          let laid_2 = laid_list ws _ laid_1 (one 1) (one_low 1) b in
          let laid_3 = laid_list ws _ laid_2 (one 2) (one_low 2) c in
          let laid_4 = laid_list ws _ laid_3 (one 3) (one_low 3) d in
          rw (← read, ← made)
          (put_after ws long _ laid_4.store.entries_size laid_4.words p e.phy count is_next ∙ all_carried)
