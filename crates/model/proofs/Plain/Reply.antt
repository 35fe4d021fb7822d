-- What 06h lists, in plain logic: "Every non-zero count of that type that the source may see is listed: FFh first, then phys
-- rising, then reason rising. A source sees FFh and the phys it reaches." And how long the descriptors of 06h, 14h and 21h are. Assumes nothing.
use Prim.Native.Nat.{ℕ, suc, ◌+◌, ◌*◌, ◌≤◌, ◌<◌}
use native.Mathlib.Nat.{mul-zero, mul-suc}
use native.Mathlib.Omega.{arith}
use mathlib.Core.Path.{◌≡◌, refl, sym, ap, subst⁻¹}
use mathlib.Core.Logic.{◌↔◌, ◌⊎◌, inl, inr, ⊎_elim}
use mathlib.Core.Bool.{Bool, true, false, cond}
use mathlib.Core.List.Memᴰ
use mathlib.Core.List.{List, [], ◌∷◌, ◌++◌, Memᴰ}
use borrow.Author.Tests.{eqb-true, eqb-false, eq-eqb, ne_eqb}
use lib.Dec.{T, eqb}
use lib.ListN.{length, length-append}
use Rattle.model.specs.declared.Entry.{Entry}
use Rattle.model.specs.declared.Monitor.{Monitor}
use Rattle.model.specs.declared.Phy.{Phy}
use Rattle.model.specs.declared.Shelf.{Shelf}
use Rattle.model.specs.Reach.{reaches}
use Rattle.model.specs.Reply.{Broadcast, event_descriptor, descriptors, broadcast_descriptor, broadcast_bytes, entry, listed, device_listed, phy_listed}
use Rattle.model.specs.Reply.{seen_listed, broadcasts, entry_descriptor}
use Rattle.model.specs.Shelf.{phy_number, exists, phy_at}
use Rattle.model.specs.Tests.{join_below}
use Rattle.model.specs.Zone.{row}
use Rattle.model.proofs.Laws.Join.{join_has, has_join, join_rising}
use Rattle.model.proofs.Laws.Picked.{only_if_iff}
use Rattle.model.proofs.Laws.Rising.{Rising, rising_one, rising_append}
use Rattle.model.proofs.Laws.Tests.{ltb_iff, cond_by, cond_both}

-- "descriptors of 12 bytes" (14h) and "of 8 bytes" (06h)
pub event_descriptor_length : (m : Monitor) → length (event_descriptor m) ≡ 12
event_descriptor_length m = refl

-- of descriptors that have as many bytes each
pub descriptors_length : {A : Type 0} (of : A → List ℕ) (size : ℕ) → ((x : A) → length (of x) ≡ size) → (xs : List A)
    → length (descriptors of xs) ≡ size * length xs
unfolding descriptors
descriptors_length of size each [] = sym (mul-zero size)
descriptors_length of size each (x ∷ xs) =
    simp length-append (omega (arith, each x, descriptors_length of size each xs, mul-suc size (length xs)))

pub broadcast_bytes_length : (bs : List Broadcast) → length (broadcast_bytes bs) ≡ 8 * length bs
broadcast_bytes_length bs = descriptors_length broadcast_descriptor 8 (λ b. refl) bs

-- #101: "descriptors of 12 bytes as in 14h with the phy at byte 2"
pub entry_bytes_length : (es : List Entry) → length (descriptors entry_descriptor es) ≡ 12 * length es
entry_bytes_length es = descriptors_length entry_descriptor 12 (λ e. refl) es

-- The broadcast counts that a shelf keeps, each under its type, its phy or FFh, and its reason: "Per phy: .. Change reason 0h,
-- Expander 1h and 2h", "Device wide: .. Expander 3h (reduced functionality) and SES 0h". Change is type 0h, SES 3h, Expander 4h.
pub data Kept (s : Shelf) (kind p r n : ℕ) : Type 0 where
  Change0 : kind ≡ 0x0 → T (exists s p) → r ≡ 0x0 → n ≡ (phy_at s p).change0 → Kept s kind p r n
  Expander1 : kind ≡ 0x4 → T (exists s p) → r ≡ 0x1 → n ≡ (phy_at s p).expander1 → Kept s kind p r n
  Expander2 : kind ≡ 0x4 → T (exists s p) → r ≡ 0x2 → n ≡ (phy_at s p).expander2 → Kept s kind p r n
  Expander3 : kind ≡ 0x4 → p ≡ 0xFF → r ≡ 0x3 → n ≡ s.expander3 → Kept s kind p r n
  Ses0 : kind ≡ 0x3 → p ≡ 0xFF → r ≡ 0x0 → n ≡ s.ses0 → Kept s kind p r n

-- "A source sees FFh and the phys it reaches."
abbrev pub Sees : Shelf → ℕ → ℕ → Type 0
Sees s g p = (p ≡ 0xFF) ⊎ (T (exists s p) × T (reaches s g p))

-- ---- one count

listed_has : (p r n p' r' n' : ℕ) → Memᴰ (entry p r n) (listed p' r' n')
    → (n ≡ 0 → ⊥) × (p ≡ p') × (r ≡ r') × (n ≡ n')
listed_has p r n p' r' n' =
    cond_by (λ bs. Memᴰ (entry p r n) bs → (n ≡ 0 → ⊥) × (p ≡ p') × (r ≡ r') × (n ≡ n')) (eqb n' 0) [] (entry p' r' n' ∷ [])
    (λ e m. absurd (Memᴰ.not-nil m))
    (λ e m.
    let same : entry p r n ≡ entry p' r' n' = Memᴰ.eq_of_singleton m in
    let en : n ≡ n' = ap (λ b. b.count) same in
    (λ z. eqb-false n' 0 e (omega arith), ap (λ b. b.phy) same, ap (λ b. b.reason) same, en))

has_listed : (p r n n' : ℕ) → (n ≡ 0 → ⊥) → n ≡ n' → Memᴰ (entry p r n) (listed p r n')
has_listed p r n n' some en = rw (← en, ne_eqb n 0 some) (Memᴰ.head refl)

-- ---- what is listed is kept, and is not 0

-- a list that is chosen by the type
chosen : {A : Type 0} (kind k : ℕ) (xs ys : List A) {a : A} → Memᴰ a (cond (eqb kind k) xs ys)
    → ((kind ≡ k) × Memᴰ a xs) ⊎ Memᴰ a ys
chosen kind k xs ys {a} =
    cond_by (λ l. Memᴰ a l → ((kind ≡ k) × Memᴰ a xs) ⊎ Memᴰ a ys) (eqb kind k) xs ys
    (λ e m. inl (eqb-true kind k e, m))
    (λ e m. inr m)

abbrev Due : Shelf → ℕ → ℕ → ℕ → ℕ → Type 0
Due s kind p r n = Kept s kind p r n × (n ≡ 0 → ⊥)

device_has : (s : Shelf) (kind p r n : ℕ) → Memᴰ (entry p r n) (device_listed kind s.expander3 s.ses0)
    → (p ≡ 0xFF) × Due s kind p r n
unfolding device_listed
device_has s kind p r n m =
    ⊎_elim
    (λ h.
    let (some, ep, er, en) = listed_has p r n 0xFF 0x0 s.ses0 h.1 in
    (ep, (Ses0 h.0 ep er en, some)))
    (λ m'.
    ⊎_elim
    (λ h.
    let (some, ep, er, en) = listed_has p r n 0xFF 0x3 s.expander3 h.1 in
    (ep, (Expander3 h.0 ep er en, some)))
    (λ nil. absurd (Memᴰ.not-nil nil))
    (chosen kind 0x4 (listed 0xFF 0x3 s.expander3) [] m'))
    (chosen kind 0x3 (listed 0xFF 0x0 s.ses0) (cond (eqb kind 0x4) (listed 0xFF 0x3 s.expander3) []) m)

-- q is the phy that is looked at
phy_has : (s : Shelf) (kind q p r n : ℕ) → T (exists s q)
    → Memᴰ (entry p r n) (phy_listed kind q (phy_at s q)) → (p ≡ q) × Due s kind q r n
unfolding phy_listed
phy_has s kind q p r n there m =
    let first : List Broadcast = listed q 0x1 (phy_at s q).expander1 in
    let second : List Broadcast = listed q 0x2 (phy_at s q).expander2 in
    ⊎_elim
    (λ h.
    let (some, ep, er, en) = listed_has p r n q 0x0 (phy_at s q).change0 h.1 in
    (ep, (Change0 h.0 there er en, some)))
    (λ m'.
    ⊎_elim
    (λ h.
    ⊎_elim
    (λ m₁.
    let (some, ep, er, en) = listed_has p r n q 0x1 (phy_at s q).expander1 m₁ in
    (ep, (Expander1 h.0 there er en, some)))
    (λ m₂.
    let (some, ep, er, en) = listed_has p r n q 0x2 (phy_at s q).expander2 m₂ in
    (ep, (Expander2 h.0 there er en, some)))
    (Memᴰ.append_cases first h.1))
    (λ nil. absurd (Memᴰ.not-nil nil))
    (chosen kind 0x4 (first ++ second) [] m'))
    (chosen kind 0x0 (listed q 0x0 (phy_at s q).change0) (cond (eqb kind 0x4) (first ++ second) []) m)

-- what one phy gives to a source
abbrev pub of_phy : Shelf → ℕ → ℕ → ℕ → List Broadcast
of_phy s g kind p = seen_listed (row s.table g) kind p (phy_at s p)

broadcasts_has : (s : Shelf) (g kind p r n : ℕ) → Memᴰ (entry p r n) (broadcasts s g kind)
    → Kept s kind p r n × Sees s g p × (n ≡ 0 → ⊥)
unfolding broadcasts
broadcasts_has s g kind p r n m =
    ⊎_elim
    (λ m'.
    let (ff, due) = device_has s kind p r n m' in
    (due.0, inl ff, due.1))
    (λ m'.
    let (q, below, one) = join_has (phy_number s) (of_phy s g kind) m' in
    let (reached, two) = (only_if_iff (reaches s g q) (phy_listed kind q (phy_at s q))).0 one in
    let there : T (exists s q) = (ltb_iff q (phy_number s)).1 below in
    let (same, due) = phy_has s kind q p r n there two in (
      subst⁻¹ (λ (k : ℕ). Kept s kind k r n) same due.0,
      inr (subst⁻¹ (λ (k : ℕ). T (exists s k) × T (reaches s g k)) same (there, reached)),
      due.1,
    ))
    (Memᴰ.append_cases (device_listed kind s.expander3 s.ses0) m)

-- ---- what is kept, seen and not 0 is listed

module _ (s : Shelf) (g : ℕ) where
  -- a count of a phy that exists
  has_phy : (kind p r n : ℕ) → T (exists s p) → Sees s g p
      → Memᴰ (entry p r n) (phy_listed kind p (phy_at s p)) → Memᴰ (entry p r n) (broadcasts s g kind)
  unfolding broadcasts
  has_phy kind p r n there (inl ff) m = absurd (omega (arith, (ltb_iff p (phy_number s)).0 there))
  has_phy kind p r n there (inr (here, reached)) m =
      Memᴰ.append_right (device_listed kind s.expander3 s.ses0)
      (has_join (phy_number s) (of_phy s g kind) p ((ltb_iff p (phy_number s)).0 there) ((only_if_iff (reaches s g p) (phy_listed kind p (phy_at s p))).1 (reached, m)))

  -- a count at its own type, phy and reason
  placed : (kind k p q r r' n : ℕ) → kind ≡ k → p ≡ q → r ≡ r' → Memᴰ (entry q r' n) (broadcasts s g k)
      → Memᴰ (entry p r n) (broadcasts s g kind)
  placed kind k p q r r' n ek ep er m = rw (ek, ep, er) m

  has_broadcasts : (kind p r n : ℕ) → Kept s kind p r n → Sees s g p → (n ≡ 0 → ⊥)
      → Memᴰ (entry p r n) (broadcasts s g kind)
  unfolding broadcasts device_listed phy_listed
  has_broadcasts kind p r n (Change0 ek there er en) sees some =
      placed kind 0x0 p p r 0x0 n ek refl er (has_phy 0x0 p 0x0 n there sees (has_listed p 0x0 n (phy_at s p).change0 some en))
  has_broadcasts kind p r n (Expander1 ek there er en) sees some =
      placed kind 0x4 p p r 0x1 n ek refl er
      (has_phy 0x4 p 0x1 n there sees
      (Memᴰ.append_left (listed p 0x2 (phy_at s p).expander2) (has_listed p 0x1 n (phy_at s p).expander1 some en)))
  has_broadcasts kind p r n (Expander2 ek there er en) sees some =
      placed kind 0x4 p p r 0x2 n ek refl er
      (has_phy 0x4 p 0x2 n there sees
      (Memᴰ.append_right (listed p 0x1 (phy_at s p).expander1) (has_listed p 0x2 n (phy_at s p).expander2 some en)))
  has_broadcasts kind p r n (Expander3 ek ep er en) sees some =
      placed kind 0x4 p 0xFF r 0x3 n ek ep er
      (Memᴰ.append_left (join_below (phy_number s) (of_phy s g 0x4)) (has_listed 0xFF 0x3 n s.expander3 some en))
  has_broadcasts kind p r n (Ses0 ek ep er en) sees some =
      placed kind 0x3 p 0xFF r 0x0 n ek ep er
      (Memᴰ.append_left (join_below (phy_number s) (of_phy s g 0x3)) (has_listed 0xFF 0x0 n s.ses0 some en))

-- 06h lists exactly the counts of that type that are kept, that the source sees, and that are not 0
pub listed_iff : (s : Shelf) (g kind p r n : ℕ)
    → Memᴰ (entry p r n) (broadcasts s g kind)
    ↔ (Kept s kind p r n × Sees s g p × (n ≡ 0 → ⊥))
listed_iff s g kind p r n =
    (broadcasts_has s g kind p r n, λ h. has_broadcasts s g kind p r n h.0 h.1 h.2)

-- ---- the order

-- the place in the order, as a number: FFh first, then phys rising, then reason rising
abbrev pub place : Broadcast → ℕ
place b = cond (eqb b.phy 0xFF) b.reason (4 * suc b.phy + b.reason)

-- every phy, and FFh, fits a byte, and every reason is below 4
pub kept_small : (s : Shelf) (kind p r n : ℕ) → Kept s kind p r n → (p ≤ 0xFF) × (r < 4)
kept_small s kind p r n (Change0 ek there er en) = omega (arith, (ltb_iff p (phy_number s)).0 there)
kept_small s kind p r n (Expander1 ek there er en) = omega (arith, (ltb_iff p (phy_number s)).0 there)
kept_small s kind p r n (Expander2 ek there er en) = omega (arith, (ltb_iff p (phy_number s)).0 there)
kept_small s kind p r n (Expander3 ek ep er en) = omega arith
kept_small s kind p r n (Ses0 ek ep er en) = omega arith

place_device : (b : Broadcast) → b.phy ≡ 0xFF → place b ≡ b.reason
place_device b e = rw (eq-eqb b.phy 0xFF e)

place_phy : (b : Broadcast) → b.phy < 24 → place b ≡ 4 * suc b.phy + b.reason
place_phy b h = rw (ne_eqb b.phy 0xFF (λ e. omega arith))

rising_listed : (p r n : ℕ) → Rising place (listed p r n)
rising_listed p r n = cond_both (Rising place) (eqb n 0) [] (entry p r n ∷ []) tt (rising_one place (entry p r n))

rising_device : (s : Shelf) (kind : ℕ) → Rising place (device_listed kind s.expander3 s.ses0)
unfolding device_listed
rising_device s kind =
    cond_both (Rising place) (eqb kind 0x3) _ _ (rising_listed 0xFF 0x0 s.ses0)
    (cond_both (Rising place) (eqb kind 0x4) _ _ (rising_listed 0xFF 0x3 s.expander3) tt)

-- of one phy, the lower reason comes first
place_reason : (b c : Broadcast) → b.phy ≡ c.phy → b.reason < c.reason → place b < place c
place_reason b c e h = rw e (go (eqb c.phy 0xFF))
  where
    go : (t : Bool)
        → cond t b.reason (4 * suc c.phy + b.reason) < cond t c.reason (4 * suc c.phy + c.reason)
    go true = h
    go false = omega arith

rising_phy : (kind p : ℕ) (x : Phy) → Rising place (phy_listed kind p x)
unfolding phy_listed
rising_phy kind p x =
    let first : List Broadcast = listed p 0x1 x.expander1 in
    let second : List Broadcast = listed p 0x2 x.expander2 in
    cond_both (Rising place) (eqb kind 0x0) _ _ (rising_listed p 0x0 x.change0)
    (cond_both (Rising place) (eqb kind 0x4) _ _
    (rising_append place first second (rising_listed p 0x1 x.expander1) (rising_listed p 0x2 x.expander2)
    (λ b c mb mc.
    let (_, bp, br, _) = listed_has b.phy b.reason b.count p 0x1 x.expander1 mb in
    let (_, cp, cr, _) = listed_has c.phy c.reason c.count p 0x2 x.expander2 mc in
    place_reason b c (omega arith) (omega arith)))
    tt)

-- what one phy gives lies between its own places and the next phy's
phy_places : (s : Shelf) (g kind p : ℕ) (b : Broadcast) → p < phy_number s → Memᴰ b (of_phy s g kind p)
    → (4 * suc p ≤ place b) × (place b < 4 * suc (suc p))
phy_places s g kind p b h m =
    let listed_there = ((only_if_iff (reaches s g p) (phy_listed kind p (phy_at s p))).0 m).1 in
    let (same, due) = phy_has s kind p b.phy b.reason b.count ((ltb_iff p (phy_number s)).1 h) listed_there in
    let small : b.reason < 4 = (kept_small s kind p b.reason b.count due.0).1 in
    let at : place b ≡ 4 * suc b.phy + b.reason = place_phy b (omega arith) in
    (omega arith, omega arith)

pub listed_rising : (s : Shelf) (g kind : ℕ) → Rising place (broadcasts s g kind)
unfolding broadcasts
listed_rising s g kind =
    rising_append place (device_listed kind s.expander3 s.ses0) (join_below (phy_number s) (of_phy s g kind)) (rising_device s kind)
    (join_rising place (of_phy s g kind) (λ p. 4 * suc p) (λ p. omega arith) (phy_number s)
    (λ p b h m. phy_places s g kind p b h m)
    (λ p. cond_both (Rising place) (reaches s g p) (phy_listed kind p (phy_at s p)) [] (rising_phy kind p (phy_at s p)) tt))
    (λ b c mb mc.
    let (ff, due) = device_has s kind b.phy b.reason b.count mb in
    let small : b.reason < 4 = (kept_small s kind b.phy b.reason b.count due.0).1 in
    let (p, h, there) = join_has (phy_number s) (of_phy s g kind) mc in
    let above : 4 * suc p ≤ place c = (phy_places s g kind p c h there).0 in
    let at : place b ≡ b.reason = place_device b ff in
    omega arith)
