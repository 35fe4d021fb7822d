-- A fresh shelf written over its words: one phy after another, and then the words before them. Assumes nothing.
use Prim.Native.Nat.{ℕ, ◌+◌, ◌≤◌, ◌<◌}
use native.Mathlib.Nat.{zero-add}
use native.Mathlib.Omega.{arith}
use mathlib.Core.Path.{◌≡◌, refl, sym, ap, ◌∙◌}
use mathlib.Core.List.{List, [], ◌∷◌, ◌++◌, map, append_assoc}
use lib.ListN.{length, get_or, take, drop, replicate, length-append}
use lib.Seq.{sets, sets-eq, drop_at, length-take-le}
use Rattle.model.specs.Bytes.{byte}
use Rattle.model.specs.Shelf.{no_phy, fresh_phy, start_group, fresh_phys, fresh_store, fresh_shelf}
use Rattle.model.proofs.Plain.Start.{fresh_phys_lem, fresh_size}
use Rattle.model.proofs.Laws.Places.{sets_append}
use Rattle.words.specs.Sizes.{first_row, first_phy, store_last, shelf_words}
use Rattle.words.specs.Words.{phys_over, entries_over, store_over, eight, front_over, laid_over, words_of}
use Rattle.words.proofs.Blocks.{row_laid_size}
use Rattle.words.proofs.Pieces.{phy_block}

-- what values stored from a place on leave there
sets_from : (ws values : List ℕ) (at : ℕ) → at + length values ≤ length ws
    → drop at (sets ws at values) ≡ values ++ drop (at + length values) ws
sets_from ws values at room =
    rw (sets-eq values ws at room, append_assoc)
    (drop_at (take at ws) (values ++ drop (at + length values) ws) at (length-take-le at ws (omega arith)))

-- the words before the phys are stored in two runs
pub front_stored : (ws device table : List ℕ) {first second : List ℕ}
    → length ws ≡ shelf_words → length device ≡ first_row → length table ≡ 32
    → first ≡ sets ws 0 device → second ≡ sets first first_row table → second ≡ device ++ table ++ drop first_phy ws
front_stored ws device table long wide rows e₁ e₂ =
    let size : length (device ++ table) ≡ first_phy = simp length-append (omega arith) in
    let there : first_row ≡ 0 + length device = omega arith in
    rw (e₂, e₁, there, sets_append ws device table 0, sets-eq (device ++ table) ws 0 (omega arith), size)

-- each of the fresh phys is fresh in its group
pub fresh_at : (n : ℕ) (groups : List ℕ) (p : ℕ) → p < 24 → get_or (fresh_phys n groups) p no_phy ≡ fresh_phy (start_group n groups p)
unfolding fresh_shelf
fresh_at n groups p h = fresh_phys_lem n groups [] [] p h

-- no entry was stored: all its words are 0
fresh_store_lem : drop store_last (replicate shelf_words 0) ≡ store_over (replicate shelf_words 0) fresh_store
unfolding store_over entries_over
fresh_store_lem = refl

-- every word is 0, then the fresh phys are laid, then the words before them
pub fresh_laid : (n : ℕ) (groups table identifier : List ℕ) {first second third : List ℕ}
    → first ≡ replicate shelf_words 0
    → second ≡ sets first first_phy (phys_over first (fresh_phys n groups))
    → third ≡ (n ∷ 0x0001 ∷ 0 ∷ 0 ∷ map (byte identifier) eight) ++ table ++ drop first_phy second
    → third ≡ words_of (fresh_shelf n groups table identifier)
unfolding laid_over front_over phys_over fresh_shelf
fresh_laid n groups table identifier e₁ e₂ e₃ =
    let zeros : List ℕ = replicate shelf_words 0 in
    let phys : List ℕ = phys_over zeros (fresh_phys n groups) in
    let size : first_phy + length phys ≡ store_last =
    rw (row_laid_size phy_block zeros first_phy (fresh_phys n groups), fresh_size n groups) in
    let behind : drop first_phy (sets zeros first_phy phys) ≡ phys ++ store_over zeros fresh_store =
    sets_from zeros phys first_phy (omega arith) ∙ rw size (ap (λ l. phys ++ l) fresh_store_lem) in
    let front : List ℕ = (n ∷ 0x0001 ∷ 0 ∷ 0 ∷ map (byte identifier) eight) ++ table in
    let all : front ++ phys ++ store_over zeros fresh_store ≡ words_of (fresh_shelf n groups table identifier) = simp zero-add in
    let head : List ℕ = n ∷ 0x0001 ∷ 0 ∷ 0 ∷ map (byte identifier) eight in
    e₃
    ∙ ap (λ l. head ++ table ++ drop first_phy l) (e₂ ∙ ap (λ l. sets l first_phy (phys_over l (fresh_phys n groups))) e₁)
    ∙ ap (λ l. head ++ table ++ l) behind
    ∙ (sym (append_assoc front phys (store_over zeros fresh_store)) ∙ all)
