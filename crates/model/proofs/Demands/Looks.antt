-- What a shelf looks like to a source group. Assumes nothing.
use Prim.Native.Nat.{ℕ}
use mathlib.Core.Path.{◌≡◌, refl, sym, ap, ap₂, fun_ext, ◌∙◌}
use mathlib.Core.Logic.{◌↔◌}
use mathlib.Core.Bool.{Bool, true, false, cond}
use mathlib.Core.List.{map, map-map}
use borrow.Author.Tests.{eqb-true, eqb-false, eq-eqb}
use lib.Dec.{T, eqb}
use lib.ListN.{length, get_or, length-map, get_or-map}
use lib.Seq.{set-get_or, ext_get_or}
use Rattle.model.specs.declared.Effect.{Effect}
use Rattle.model.specs.declared.Phy.{Phy}
use Rattle.model.specs.declared.Shelf.{Shelf}
use Rattle.model.specs.Counting.{originate_if, quiet}
use Rattle.model.specs.Reach.{reaches}
use Rattle.model.specs.Shelf.{fresh_phy, no_phy, phy_at, phy_with, shelf_with, put, fresh_store}
use Rattle.model.specs.Store.{carried_out}
use Rattle.model.specs.Zone.{row, row_reaches}
use Rattle.model.proofs.Laws.PhyChanges.{Inner, Quiet}
use Rattle.model.proofs.Laws.Places.{map_set}
use Rattle.model.proofs.Laws.Tests.{is_true}

-- A phy as a row sees it: whole where the row reaches it. Where it does not, its numbers are not seen, and 0 stands for each;
-- its group and whether it is enabled stay, since a disable moves the change count, which all may read, only if the phy was
-- enabled.
abbrev pub seen : ℕ → Phy → Phy
seen r x =
    phy_with x x.enabled
    (cond (row_reaches r x.group) x.errors no_phy.errors)
    (cond (row_reaches r x.group) x.monitors no_phy.monitors)
    (cond (row_reaches r x.group) x.change0 0)
    (cond (row_reaches r x.group) x.expander1 0)
    (cond (row_reaches r x.group) x.expander2 0)

-- the shelf as a group other than 1 sees it: of the stored peak events it sees nothing (#101)
abbrev by_row : ℕ → Shelf → Shelf
by_row g s = shelf_with s (map (seen (row s.table g)) s.phys) s.changes s.expander3 s.ses0 fresh_store

-- The shelf as group g sees it. Group 1 may ask for the stored peak events, which tell about every phy: it sees them, and every phy whole.
-- (In a legal table its row is all ones, so it reaches every phy anyway.)
abbrev pub looks : ℕ → Shelf → Shelf
looks g s =
    shelf_with s
    (cond (eqb g 1) s.phys (map (seen (row s.table g)) s.phys))
    s.changes
    s.expander3
    s.ses0
    (cond (eqb g 1) s.store fresh_store)

-- ---- one phy

-- what is left of a phy that is out of reach
abbrev hidden : ℕ → Bool → Phy
hidden group enabled = phy_with (fresh_phy group) enabled no_phy.errors no_phy.monitors 0 0 0

module _ (r : ℕ) where
  seen_reached : (x : Phy) → row_reaches r x.group ≡ true → seen r x ≡ x
  seen_reached x e = rw e

  seen_hidden : (x : Phy) → row_reaches r x.group ≡ false → seen r x ≡ hidden x.group x.enabled
  seen_hidden x e = rw e

  seen_none : seen r no_phy ≡ no_phy
  seen_none = go (row_reaches r 0) refl
    where
      go : (b : Bool) → row_reaches r 0 ≡ b → seen r no_phy ≡ no_phy
      go true e = seen_reached no_phy e
      go false e = seen_hidden no_phy e

  -- how a change looks that keeps the group, and makes enabled or not by that alone, depends on how the phy looked
  seen_change : (f : Phy → Effect) {enables originates : Bool → Bool} → Inner f enables originates → (x : Phy)
      → seen r (f (seen r x)).phy ≡ seen r (f x).phy
  seen_change f {enables} inner x = go (row_reaches r x.group) refl
    where
      unseen : (y : Phy) → y.group ≡ x.group → y.enabled ≡ x.enabled → row_reaches r x.group ≡ false
          → seen r (f y).phy ≡ hidden x.group (enables x.enabled)
      unseen y same still out =
          let group : (f y).phy.group ≡ x.group = inner.group y ∙ same in
          let enabled : (f y).phy.enabled ≡ enables x.enabled = inner.enabled y ∙ ap enables still in
          seen_hidden (f y).phy (ap (row_reaches r) group ∙ out) ∙ ap₂ hidden group enabled

      go : (b : Bool) → row_reaches r x.group ≡ b → seen r (f (seen r x)).phy ≡ seen r (f x).phy
      go true e = ap (λ y. seen r (f y).phy) (seen_reached x e)
      go false e = unseen (seen r x) refl refl e ∙ sym (unseen x refl refl e)

  -- and such a change that leaves it enabled or not as it was is not seen out of reach
  seen_stays : (f : Phy → Effect) → Quiet f → (x : Phy) → row_reaches r x.group ≡ false → seen r (f x).phy ≡ seen r x
  seen_stays f inner x out =
      seen_hidden (f x).phy (ap (row_reaches r) (inner.group x) ∙ out)
      ∙ ap₂ hidden (inner.group x) (inner.enabled x)
      ∙ sym (seen_hidden x out)

-- ---- the shelf, to a group other than 1

module _ (g : ℕ) (s : Shelf) where
  row_phy : (p : ℕ) → phy_at (by_row g s) p ≡ seen (row s.table g) (phy_at s p)
  row_phy p =
      ap (λ d. get_or (map (seen (row s.table g)) s.phys) p d) (sym (seen_none (row s.table g)))
      ∙ get_or-map (seen (row s.table g)) s.phys p no_phy

  row_reaches_lem : (h p : ℕ) → reaches (by_row g s) h p ≡ reaches s h p
  row_reaches_lem h p = ap (λ x. row_reaches (row s.table h) x.group) (row_phy p)

  row_twice : by_row g (by_row g s) ≡ by_row g s
  row_twice =
      ap (λ phys. shelf_with s phys s.changes s.expander3 s.ses0 fresh_store)
      (map-map (seen (row s.table g)) (seen (row s.table g)) s.phys
      ∙ ap (λ f. map f s.phys) (fun_ext (λ x. seen_change (row s.table g) quiet same x)))
    where
      same : Quiet quiet
      same = record { group = λ x. refl; enabled = λ x. refl; change = λ x. refl; change0 = λ x. refl }

  -- whatever is stored besides
  row_put : (p : ℕ) (x : Phy) (count : ℕ)
      → by_row g (put s p x count) ≡ put (by_row g s) p (seen (row s.table g) x) count
  row_put p x count =
      ap (λ phys. shelf_with s phys count s.expander3 s.ses0 fresh_store) (map_set (seen (row s.table g)) s.phys p x)

  row_stays : (p : ℕ) (f : Phy → Effect) → Quiet f → reaches s g p ≡ false
      → by_row g (carried_out s p (f (phy_at s p))) ≡ by_row g s
  row_stays p f inner out =
      rw (inner.change (phy_at s p))
      (row_put p (f (phy_at s p)).phy s.changes
      ∙ ap (λ x. put (by_row g s) p x s.changes) (seen_stays (row s.table g) f inner (phy_at s p) out ∙ sym (row_phy p))
      ∙ ap (λ phys. shelf_with s phys s.changes s.expander3 s.ses0 fresh_store) (set-get_or (by_row g s).phys p no_phy))

row_change : (g : ℕ) (s : Shelf) (p : ℕ) (f : Phy → Effect) {enables originates : Bool → Bool} → Inner f enables originates
    → by_row g (carried_out (by_row g s) p (f (phy_at (by_row g s) p))) ≡ by_row g (carried_out s p (f (phy_at s p)))
row_change g s p f inner =
    let r : ℕ = row s.table g in
    let x : Phy = phy_at s p in
    let count : Effect → ℕ = λ e. originate_if e.change s.changes in
    ap (λ y. by_row g (carried_out (by_row g s) p (f y))) (row_phy g s p)
    ∙ row_put g (by_row g s) p (f (seen r x)).phy (count (f (seen r x)))
    ∙ ap (λ t. put t p (seen r (f (seen r x)).phy) (count (f (seen r x)))) (row_twice g s)
    ∙ ap₂ (λ y b. put (by_row g s) p y (originate_if b s.changes)) (seen_change r f inner x)
    (inner.change (seen r x) ∙ sym (inner.change x))
    ∙ sym (row_put g s p (f x).phy (count (f x)))

-- ---- the shelf, to any group: what holds of the whole shelf, and of what a row sees of it

either_looks : (g : ℕ) (P : (Shelf → Shelf) → Type 0) → (g ≡ 1 → P (λ s. s)) → ((g ≡ 1 → ⊥) → P (by_row g)) → P (looks g)
either_looks g P whole part = go (eqb g 1) refl
  where
    go : (b : Bool) → eqb g 1 ≡ b
        → P (λ s.
        shelf_with s (cond b s.phys (map (seen (row s.table g)) s.phys)) s.changes s.expander3 s.ses0 (cond b s.store fresh_store))
    go true e = whole (eqb-true g 1 e)
    go false e = part (eqb-false g 1 e)

module _ (g : ℕ) (s : Shelf) where
  -- who reaches what is all to be seen
  pub looks_reaches : (h p : ℕ) → reaches (looks g s) h p ≡ reaches s h p
  looks_reaches h p = either_looks g (λ see. reaches (see s) h p ≡ reaches s h p) (λ e. refl) (λ e. row_reaches_lem g s h p)

  -- a phy that g reaches is seen whole
  pub looks_reached : (p : ℕ) → reaches s g p ≡ true → phy_at (looks g s) p ≡ phy_at s p
  looks_reached p e =
      either_looks g (λ see. phy_at (see s) p ≡ phy_at s p) (λ one. refl)
      (λ other. row_phy g s p ∙ seen_reached (row s.table g) (phy_at s p) e)

  -- and group 1 sees what is stored
  pub looks_store : g ≡ 1 → (looks g s).store ≡ s.store
  looks_store one = rw (eq-eqb g 1 one)

  -- to look twice shows no less
  pub looks_twice : looks g (looks g s) ≡ looks g s
  looks_twice = either_looks g (λ see. see (see s) ≡ see s) (λ e. refl) (λ e. row_twice g s)

  -- What is done to a phy out of the reach of a group other than 1, and leaves the change count, and the phy enabled or not as it was, is
  -- not seen by that group.
  pub looks_stays : (p : ℕ) (f : Phy → Effect) → Quiet f → (g ≡ 1 → ⊥) → reaches s g p ≡ false
      → looks g (carried_out s p (f (phy_at s p))) ≡ looks g s
  looks_stays p f inner other out =
      either_looks g (λ see. see (carried_out s p (f (phy_at s p))) ≡ see s) (λ one. absurd (other one)) (λ e. row_stays g s p f inner out)

-- How a shelf looks after what is done to phy p depends on how it looked before alone.
pub looks_change : (g : ℕ) (s : Shelf) (p : ℕ) (f : Phy → Effect) {enables originates : Bool → Bool} → Inner f enables originates
    → looks g (carried_out (looks g s) p (f (phy_at (looks g s) p))) ≡ looks g (carried_out s p (f (phy_at s p)))
looks_change g s p f inner =
    either_looks g (λ see. see (carried_out (see s) p (f (phy_at (see s) p))) ≡ see (carried_out s p (f (phy_at s p))))
    (λ one. refl)
    (λ other. row_change g s p f inner)

-- ---- The same with named fields: two shelves look the same to g.
pub record LooksSame (g : ℕ) (s t : Shelf) : Type 0 where
  pub number : s.number ≡ t.number
  pub table : s.table ≡ t.table
  pub identifier : s.identifier ≡ t.identifier
  pub changes : s.changes ≡ t.changes
  pub expander3 : s.expander3 ≡ t.expander3
  pub ses0 : s.ses0 ≡ t.ses0
  -- as many phys, each in the same group, and enabled in both or in neither
  pub size : length s.phys ≡ length t.phys
  pub groups : (p : ℕ) → (phy_at s p).group ≡ (phy_at t p).group
  pub enabled : (p : ℕ) → (phy_at s p).enabled ≡ (phy_at t p).enabled
  -- and each phy that g reaches is the same in all its numbers
  pub reached : (p : ℕ) → T (reaches s g p) → phy_at s p ≡ phy_at t p
  -- to group 1 they are the same, with the stored peak events
  pub one : g ≡ 1 → s ≡ t

module _ (g : ℕ) (s t : Shelf) where
  -- to group 1
  whole_fields : g ≡ 1 → (s ≡ t) ↔ LooksSame g s t
  whole_fields one = (
    λ e.
        record {
          number = ap (λ u. u.number) e;
          table = ap (λ u. u.table) e;
          identifier = ap (λ u. u.identifier) e;
          changes = ap (λ u. u.changes) e;
          expander3 = ap (λ u. u.expander3) e;
          ses0 = ap (λ u. u.ses0) e;
          size = ap (λ u. length u.phys) e;
          groups = λ p. ap (λ u. (phy_at u p).group) e;
          enabled = λ p. ap (λ u. (phy_at u p).enabled) e;
          reached = λ p r. ap (λ u. phy_at u p) e;
          one = λ same. e;
        },
    λ l. l.one one,
  )

  -- to another
  same_fields : (g ≡ 1 → ⊥) → by_row g s ≡ by_row g t → LooksSame g s t
  same_fields other e =
      record {
        number = ap (λ u. u.number) e;
        table = ap (λ u. u.table) e;
        identifier = ap (λ u. u.identifier) e;
        changes = ap (λ u. u.changes) e;
        expander3 = ap (λ u. u.expander3) e;
        ses0 = ap (λ u. u.ses0) e;
        size = sym (length-map s.phys (seen (row s.table g))) ∙ ap (λ u. length u.phys) e ∙ length-map t.phys (seen (row t.table g));
        groups = λ p. ap (λ x. x.group) (phys p);
        enabled = λ p. ap (λ x. x.enabled) (phys p);
        reached = λ p r.
            let here : reaches s g p ≡ true = is_true (reaches s g p) r in
            let there : reaches t g p ≡ true = sym (row_reaches_lem g t g p) ∙ ap (λ u. reaches u g p) (sym e) ∙ row_reaches_lem g s g p ∙ here in
            sym (seen_reached (row s.table g) (phy_at s p) here) ∙ phys p ∙ seen_reached (row t.table g) (phy_at t p) there;
        one = λ same. absurd (other same);
      }
    where
      phys : (p : ℕ) → seen (row s.table g) (phy_at s p) ≡ seen (row t.table g) (phy_at t p)
      phys p = sym (row_phy g s p) ∙ ap (λ u. phy_at u p) e ∙ row_phy g t p

  fields_same : LooksSame g s t → by_row g s ≡ by_row g t
  fields_same e = rw (phys, e.number, e.table, e.identifier, e.changes, e.expander3, e.ses0)
    where
      reach : (p : ℕ) → reaches t g p ≡ reaches s g p
      reach p = sym (ap₂ (λ table x. row_reaches (row table g) x) e.table (e.groups p))

      each : (p : ℕ) → (b : Bool) → reaches s g p ≡ b
          → seen (row s.table g) (phy_at s p) ≡ seen (row t.table g) (phy_at t p)
      each p true here = rw (here, reach p ∙ here) (e.reached p (rw here tt))
      each p false out = rw (out, reach p ∙ out) (ap₂ hidden (e.groups p) (e.enabled p))

      phys : (by_row g s).phys ≡ (by_row g t).phys
      phys =
          ext_get_or no_phy (by_row g s).phys (by_row g t).phys
          (length-map s.phys (seen (row s.table g)) ∙ e.size ∙ sym (length-map t.phys (seen (row t.table g))))
          (λ p h. row_phy g s p ∙ each p (reaches s g p) refl ∙ sym (row_phy g t p))

  pub looks_same : (looks g s ≡ looks g t) ↔ LooksSame g s t
  looks_same =
      either_looks g (λ see. (see s ≡ see t) ↔ LooksSame g s t) whole_fields (λ other. (same_fields other, fields_same))
