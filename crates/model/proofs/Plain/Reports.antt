-- When a report is accepted, in plain logic. Assumes nothing.
use Rattle.std.specs.Prelude.{Ok}
use Prim.Native.Nat.{ℕ, ◌≤◌, ◌<◌}
use native.Mathlib.Nat.{not-le_of_lt}
use mathlib.Core.Path.{◌≡◌, subst}
use mathlib.Core.Logic.Iff
use mathlib.Core.Logic.{◌↔◌, ◌⊎◌, inl, inr, ⊎_elim}
use mathlib.Core.Bool.{Bool, not, ◌&&◌, ◌||◌}
use mathlib.Core.List.{List, [], ◌∷◌}
use lib.Dec.{T, ltb, eqb, T_not}
use Rattle.model.specs.declared.Shelf.{Shelf}
use Rattle.model.specs.House.{taken_number}
use Rattle.model.specs.Reports.{amount_too_large, event_taken, link_change_taken, link_change}
use Rattle.model.specs.Shelf.{exists}
use Rattle.model.specs.Sources.{supported}
use Rattle.model.proofs.Laws.Checks.{done_iff, outcome_taken}
use Rattle.model.proofs.Laws.Lowest.{first_given, none_given}
use Rattle.model.proofs.Laws.Tests.{both_iff, either_iff, or_iff, not_not_iff, eqb_iff, ltb_iff, not_above, check_map}
use Rattle.model.proofs.Plain.Sources.{zero_unsupported}

-- H9: "amount above FFh for 2Bh, or above FFFFh for 2Ch"
pub amount_iff : (source amount : ℕ)
    → T (amount_too_large source amount)
    ↔ (((source ≡ 0x2B) × (0xFF < amount)) ⊎ ((source ≡ 0x2C) × (0xFFFF < amount)))
unfolding amount_too_large
amount_iff source amount =
    either_iff (eqb source 0x2B && ltb 0xFF amount) (eqb source 0x2C && ltb 0xFFFF amount)
    (both_iff (eqb source 0x2B) (ltb 0xFF amount) (eqb_iff source 0x2B) (ltb_iff 0xFF amount))
    (both_iff (eqb source 0x2C) (ltb 0xFFFF amount) (eqb_iff source 0x2C) (ltb_iff 0xFFFF amount))

-- none of H7, H8 and H9 applies: the phy exists, the source is supported (00h is not), and the amount is not too large
pub record Reportable (s : Shelf) (p source amount : ℕ) : Type 0 where
  pub phy_exists : T (exists s p)
  pub source_supported : T (supported source)
  pub amount_2_b : source ≡ 0x2B → amount ≤ 0xFF
  pub amount_2_c : source ≡ 0x2C → amount ≤ 0xFFFF

source_iff : (source : ℕ) → (T (eqb source 0x00 || not (supported source)) → ⊥) ↔ T (supported source)
source_iff source = (
  λ no. (not_not_iff (supported source)).0 (λ t. no ((or_iff (eqb source 0x00) (not (supported source))).1 (inr t))),
  λ t bad.
      ⊎_elim (λ zero. zero_unsupported (subst (λ (n : ℕ). T (supported n)) ((eqb_iff source 0x00).0 zero) t))
      (λ unsupported. T_not (supported source) unsupported t)
      ((or_iff (eqb source 0x00) (not (supported source))).0 bad),
)

amounts_iff : (source amount : ℕ)
    → (T (amount_too_large source amount) → ⊥)
    ↔ ((source ≡ 0x2B → amount ≤ 0xFF) × (source ≡ 0x2C → amount ≤ 0xFFFF))
amounts_iff source amount = (
  λ no. (
    λ e. not_above (λ l. no ((amount_iff source amount).1 (inl (e, l)))),
    λ e. not_above (λ l. no ((amount_iff source amount).1 (inr (e, l)))),
  ),
  λ f t.
      ⊎_elim (λ h. not-le_of_lt h.1 (f.0 h.0))
      (λ h. not-le_of_lt h.1 (f.1 h.0))
      ((amount_iff source amount).0 t),
)

-- what an event report and a link change are told, as the first of these tests that holds
abbrev pub event_tests : Shelf → ℕ → ℕ → ℕ → List (ℕ × Bool)
event_tests s p source amount =
    (7, not (exists s p)) ∷ (8, eqb source 0x00 || not (supported source)) ∷ (9, amount_too_large source amount) ∷ []

abbrev pub phy_tests : Bool → List (ℕ × Bool)
phy_tests there = (7, not there) ∷ []

pub event_number_lem : (s : Shelf) (p source amount : ℕ)
    → taken_number (event_taken (exists s p) source amount) ≡ first_given (event_tests s p source amount)
unfolding event_taken
event_number_lem s p source amount = simp (check_map taken_number)

pub link_change_number : (there : Bool) → taken_number (link_change_taken there) ≡ first_given (phy_tests there)
link_change_number there = simp (check_map taken_number)

pub event_done : (s : Shelf) (p source amount : ℕ)
    → (event_taken (exists s p) source amount ≡ Ok tt)
    ↔ Reportable s p source amount
event_done s p source amount =
    Iff.trans (done_iff (event_taken (exists s p) source amount))
    (rw (event_number_lem s p source amount)
    (Iff.trans (none_given (event_tests s p source amount) tt) (
      λ h.
          let (fits_2_b, fits_2_c) = (amounts_iff source amount).0 h.1.1.0 in
          record {
            phy_exists = (not_not_iff (exists s p)).0 h.0;
            source_supported = (source_iff source).0 h.1.0;
            amount_2_b = fits_2_b;
            amount_2_c = fits_2_c;
          },
      λ r. (
        (not_not_iff (exists s p)).1 r.phy_exists,
        (
          (source_iff source).1 r.source_supported,
          ((amounts_iff source amount).1 (r.amount_2_b, r.amount_2_c), tt),
        ),
      ),
    )))

-- a link change is accepted exactly if the phy exists
pub link_change_done : (s : Shelf) (p : ℕ) → ((link_change s p).taken ≡ Ok tt) ↔ T (exists s p)
unfolding link_change
link_change_done s p =
    Iff.trans (done_iff (link_change s p).taken)
    (rw (outcome_taken, link_change_number (exists s p))
    (Iff.trans (none_given (phy_tests (exists s p)) tt)
    (λ h. (not_not_iff (exists s p)).0 h.0, λ t. ((not_not_iff (exists s p)).1 t, tt))))
