-- The blocks of a shelf, a monitor, a phy and an entry of the list of stored peak events: each is read off its own words, and laid over
-- them, as `Blocks` asks. What knows the fields of one stands here. Assumes nothing.
use Prim.Native.Nat.{ℕ, zero, suc, ◌+◌, ◌≤◌}
use native.Mathlib.Nat.{add-zero, add_assoc}
use native.Mathlib.Omega.{arith}
use mathlib.Core.Path.{◌≡◌, refl, sym, ap, ◌∙◌}
use mathlib.Core.Bool.{cond}
use mathlib.Core.List.{List, [], ◌∷◌, ◌++◌, map}
use lib.ListN.{length, get_or, take, drop}
use lib.Seq.{sets, drop-cons, get_or-drop, take_all}
use Rattle.model.specs.declared.Entry.{Entry}
use Rattle.model.specs.declared.Phy.{Phy}
use Rattle.model.specs.Fits.{MonitorFits, PhyFits, EntryFits}
use Rattle.model.specs.Reply.{monitor_at}
use Rattle.model.specs.Shelf.{fresh_monitor}
use Rattle.model.proofs.Laws.Places.{All, all_each, sets_append}
use Rattle.words.specs.Memory.{WordsFit}
use Rattle.words.specs.Sizes.{monitor_words, phy_monitors, phy_counts, phy_words, entry_words}
use Rattle.words.specs.Words.{word_at, low_set, monitor_of, monitor_over, four, monitors_of, monitors_over}
use Rattle.words.specs.Words.{head_over, counts_over, phy_of, phy_over, entry_from, entry_over}
use Rattle.words.proofs.Low.{low_same, low_back, low_anew, low_fits, bit_below, bit_back, bit_same}
use Rattle.words.proofs.Blocks.{Block, Fitting, append_fit, stands_at, row_each, row_laid, row_back}

-- ---- Lists, place by place

-- what stands at n places, from place k on
module _ {A : Type 0} (d : A) (xs : List A) where
  abbrev pub places : ℕ → ℕ → List A
  places zero k = []
  places (suc n) k = get_or xs k d ∷ places n (suc k)

  pub places_are : (n k : ℕ) → k + n ≤ length xs → places n k ≡ take n (drop k xs)
  places_are zero k h = refl
  places_are (suc n) k h = rw (drop-cons xs k d (omega arith), places_are n (suc k) (omega arith))

  -- all of them
  pub places_all : (n : ℕ) → length xs ≡ n → places n 0 ≡ xs
  places_all n e = places_are n 0 (omega arith) ∙ take_all n xs (omega arith)

pub map_all : {A : Type 0} (P : A → Type 0) (of : ℕ → A) → ((i : ℕ) → P (of i)) → (is : List ℕ) → All P (map of is)
map_all P of each [] = tt
map_all P of each (i ∷ is) = (each i, map_all P of each is)

pub all_fit : (ws : List ℕ) → All (λ w. w ≤ 0xFFFFFFFF) ws → WordsFit ws
all_fit ws all = all_each (λ w. w ≤ 0xFFFFFFFF) 0 ws (omega arith) all

-- a word with a broadcast count in its low bits
pub count_fits : (ws : List ℕ) → WordsFit ws → (k : ℕ) {n : ℕ} → n ≤ 0xFFFF → low_set 0x10000 (word_at ws k) n ≤ 0xFFFFFFFF
count_fits ws fit k {n} h = low_fits 0x10000 (word_at ws k) n refl (fit k) (omega arith)

-- ---- A monitor

pub monitor_block : Block monitor_words monitor_of monitor_over MonitorFits
monitor_block =
    record {
      of_from = λ ws at. simp (get_or-drop, add-zero);
      over_from = λ ws at m. simp (get_or-drop, add-zero);
      sized = λ ws m. refl;
      same = λ ws room. rw (low_same 0x100 (word_at ws 0)) (places_are 0 ws monitor_words 0 room);
      back = λ ws rest m f. rw (low_back 0x100 (word_at ws 0) m.source (omega (arith, f.source)));
      anew = λ ws rest m n f. rw (low_anew 0x100 (word_at ws 0) m.source n.source (omega (arith, f.source)));
    }

pub monitor_fitting : Fitting monitor_of monitor_over MonitorFits
monitor_fitting =
    record {
      stands = λ ws fit. record { source = omega arith; value = fit 1; threshold = fit 2 };
      laid = λ ws m fit f.
          all_fit (monitor_over ws 0 m)
          (low_fits 0x100 (word_at ws 0) m.source refl (fit 0) (omega (arith, f.source)), (f.value, (f.threshold, tt)));
    }

-- ---- A phy

module _ (ws : List ℕ) where
  phy_same : phy_words ≤ length ws → phy_over ws 0 (phy_of ws 0) ≡ take phy_words ws
  unfolding phy_of phy_over
  phy_same room = simp (bit_same, low_same) (places_are 0 ws phy_words 0 room)

  phy_back : (rest : List ℕ) (x : Phy) → PhyFits x → phy_of (phy_over ws 0 x ++ rest) 0 ≡ x
  unfolding phy_of phy_over
  phy_back rest x f =
      let monitors : monitors_of (phy_over ws 0 x ++ rest) phy_monitors ≡ x.monitors =
      row_back monitor_block ws (map (monitor_at x) four) phy_monitors phy_monitors (phy_over ws 0 x ++ rest)
      (counts_over ws phy_counts x ++ rest) (map_all MonitorFits (monitor_at x) f.monitors four) refl
      ∙ places_all fresh_monitor x.monitors 4 f.monitors_size in
      rw (
        monitors,
        low_back 2 (word_at ws 1) (cond x.enabled 1 0) (bit_below x.enabled),
        bit_back x.enabled,
        low_back 0x10000 _ x.change0 (omega (arith, f.change0)),
        low_back 0x10000 _ x.expander1 (omega (arith, f.expander1)),
        low_back 0x10000 _ x.expander2 (omega (arith, f.expander2)),
        places_all 0 x.errors 4 f.errors_size,
      )

  phy_anew : (rest : List ℕ) (x y : Phy) → PhyFits x → phy_over (phy_over ws 0 x ++ rest) 0 y ≡ phy_over ws 0 y
  unfolding phy_over
  phy_anew rest x y f =
      let sources : (i w n : ℕ) → low_set 0x100 (low_set 0x100 w (monitor_at x i).source) n ≡ low_set 0x100 w n =
      λ i w n. low_anew 0x100 w (monitor_at x i).source n (omega (arith, (f.monitors i).source)) in
      rw (
        low_anew 2 (word_at ws 1) (cond x.enabled 1 0) (cond y.enabled 1 0) (bit_below x.enabled),
        low_anew 0x10000 _ x.change0 y.change0 (omega (arith, f.change0)),
        low_anew 0x10000 _ x.expander1 y.expander1 (omega (arith, f.expander1)),
        low_anew 0x10000 _ x.expander2 y.expander2 (omega (arith, f.expander2)),
      )
      (simp sources)

  phy_stands : WordsFit ws → PhyFits (phy_of ws 0)
  unfolding phy_of
  phy_stands fit =
      record {
        group = fit 0;
        errors_size = refl;
        errors = all_fit (phy_of ws 0).errors (fit 2, (fit 3, (fit 4, (fit 5, tt))));
        monitors_size = refl;
        monitors =
            all_each MonitorFits fresh_monitor (monitors_of ws phy_monitors) (omega arith)
            (row_each monitor_block ws MonitorFits (stands_at monitor_block ws monitor_fitting fit) 4 phy_monitors);
        change0 = omega arith;
        expander1 = omega arith;
        expander2 = omega arith;
      }

  phy_laid : (x : Phy) → WordsFit ws → PhyFits x → WordsFit (phy_over ws 0 x)
  unfolding phy_over
  phy_laid x fit f =
      let change0 = count_fits ws fit phy_counts f.change0 in
      let expander1 = count_fits ws fit (phy_counts + 1) f.expander1 in
      let expander2 = count_fits ws fit (phy_counts + 2) f.expander2 in
      let enabled = low_fits 2 (word_at ws 1) (cond x.enabled 1 0) refl (fit 1) (bit_below x.enabled) in
      append_fit (head_over ws 0 x ++ monitors_over ws phy_monitors x) (counts_over ws phy_counts x)
      (append_fit (head_over ws 0 x) (monitors_over ws phy_monitors x)
      (all_fit (head_over ws 0 x) (f.group, (enabled, (f.errors 0, (f.errors 1, (f.errors 2, (f.errors 3, tt)))))))
      (row_laid monitor_block ws monitor_fitting fit phy_monitors (map (monitor_at x) four) (map_all MonitorFits (monitor_at x) f.monitors four)))
      (all_fit (counts_over ws phy_counts x) (change0, (expander1, (expander2, tt))))

-- a phy's words are stored in three runs
pub phy_stored : (ws : List ℕ) (at : ℕ) (x : Phy) {a b c first second third : List ℕ}
    → a ≡ head_over ws at x → b ≡ monitors_over ws (at + phy_monitors) x → c ≡ counts_over ws (at + phy_counts) x
    → first ≡ sets ws at a → second ≡ sets first (at + phy_monitors) b → third ≡ sets second (at + phy_counts) c
    → third ≡ sets ws at (phy_over ws at x)
unfolding phy_over
phy_stored ws at x {a} {b} {c} {third = third} is_a is_b is_c e₁ e₂ e₃ =
    let here : at + phy_monitors ≡ at + length a = ap (λ l. at + length l) (sym is_a) in
    let there : at + phy_counts ≡ at + length (a ++ b) = rw (is_a, is_b) in
    let runs : third ≡ sets ws at (a ++ b ++ c) =
    rw (e₃, e₂, e₁, here, sets_append ws a b at, there, sets_append ws (a ++ b) c at) in
    let parts : a ++ b ++ c ≡ phy_over ws at x = rw (is_a, is_b, is_c) in
    runs ∙ ap (λ values. sets ws at values) parts

pub phy_block : Block phy_words phy_of phy_over PhyFits
unfolding phy_of phy_over
phy_block =
    record {
      of_from = λ ws at. simp (get_or-drop, add_assoc, add-zero);
      over_from = λ ws at x. simp (get_or-drop, add_assoc);
      sized = λ ws x. refl;
      same = phy_same;
      back = phy_back;
      anew = phy_anew;
    }

pub phy_fitting : Fitting phy_of phy_over PhyFits
phy_fitting = record { stands = phy_stands; laid = phy_laid }

-- ---- An entry of the list of stored peak events

-- of its numbers these stand in low bits
pub record EntryLow (e : Entry) : Type 0 where
  pub phy : e.phy ≤ 0xFF
  pub source : e.monitor.source ≤ 0xFF

pub entry_low : (e : Entry) → EntryFits e → EntryLow e
entry_low e f = record { phy = f.phy; source = f.monitor.source }

module _ (ws : List ℕ) where
  entry_back : (rest : List ℕ) (e : Entry) → EntryLow e → entry_from (entry_over ws 0 e ++ rest) 0 ≡ e
  entry_back rest e f =
      rw (
        low_back 0x100 (word_at ws 0) e.phy (omega (arith, f.phy)),
        low_back 0x100 (word_at ws 1) e.monitor.source (omega (arith, f.source)),
      )

  entry_anew : (rest : List ℕ) (e d : Entry) → EntryLow e → entry_over (entry_over ws 0 e ++ rest) 0 d ≡ entry_over ws 0 d
  entry_anew rest e d f =
      rw (
        low_anew 0x100 (word_at ws 0) e.phy d.phy (omega (arith, f.phy)),
        low_anew 0x100 (word_at ws 1) e.monitor.source d.monitor.source (omega (arith, f.source)),
      )

  entry_laid : (e : Entry) → WordsFit ws → EntryFits e → WordsFit (entry_over ws 0 e)
  entry_laid e fit f =
      let phy = low_fits 0x100 (word_at ws 0) e.phy refl (fit 0) (omega (arith, f.phy)) in
      let source = low_fits 0x100 (word_at ws 1) e.monitor.source refl (fit 1) (omega (arith, f.monitor.source)) in
      all_fit (entry_over ws 0 e) (phy, (source, (f.monitor.value, (f.monitor.threshold, tt))))

pub entry_block : Block entry_words entry_from entry_over EntryLow
entry_block =
    record {
      of_from = λ ws at. simp (get_or-drop, add_assoc, add-zero);
      over_from = λ ws at e. simp (get_or-drop, add_assoc, add-zero);
      sized = λ ws e. refl;
      same = λ ws room. simp low_same (places_are 0 ws entry_words 0 room);
      back = entry_back;
      anew = entry_anew;
    }

pub entry_fitting : Fitting entry_from entry_over EntryFits
entry_fitting =
    record {
      stands = λ ws fit. record { phy = omega arith; monitor = record { source = omega arith; value = fit 2; threshold = fit 3 } };
      laid = entry_laid;
    }
