-- What is crossed out for a group, in plain logic. Assumes nothing.
use Prim.Native.Nat.{ℕ, ◌≤◌}
use mathlib.Core.Path.{◌≡◌}
use mathlib.Core.Logic.Iff
use mathlib.Core.Logic.{◌↔◌}
use mathlib.Core.Bool.{not, ◌&&◌}
use mathlib.Core.List.{List, [], ◌∷◌, Memᴰ}
use lib.Dec.{T, leb, eqb}
use lib.ListN.{length}
use Rattle.model.specs.declared.Shelf.{Shelf}
use Rattle.model.specs.Bytes.{byte}
use Rattle.model.specs.CrossedOut.{about_phy, link_reset_or_disable, crossed_out}
use Rattle.model.specs.Reach.{reaches}
use Rattle.model.specs.Request.{function_of}
use Rattle.model.specs.Runs.{Ask, Event}
use Rattle.model.specs.Shelf.{exists}
use Rattle.model.specs.Tests.{one_of}
use Rattle.model.proofs.Laws.Tests.{denied_iff, both_iff, all_three_iff, leb_iff, eqb_iff, one_of_iff}
use Rattle.model.proofs.Plain.Request.{phy_functions}

-- "a request is about a phy when its function is 11h, 14h, 91h or 93h, it has at least 12 bytes and byte 9 names an existing phy"
abbrev pub AboutPhy : Shelf → List ℕ → Type 0
AboutPhy s frame =
    Memᴰ (function_of frame) phy_functions × (12 ≤ length frame) × T (exists s (byte frame 9))

pub about_iff : (s : Shelf) (frame : List ℕ) → T (about_phy s frame) ↔ AboutPhy s frame
unfolding about_phy
about_iff s frame =
    all_three_iff (one_of phy_functions (function_of frame)) (leb 12 (length frame)) (exists s (byte frame 9))
    (one_of_iff phy_functions (function_of frame))
    (leb_iff 12 (length frame))
    Iff.rfl

-- "a link reset or disable is such a 91h with byte 10 at 01h or 03h"
abbrev pub LinkResetOrDisable : Shelf → List ℕ → Type 0
LinkResetOrDisable s frame =
    AboutPhy s frame × (function_of frame ≡ 0x91) × Memᴰ (byte frame 10) (0x01 ∷ 0x03 ∷ [])

pub link_reset_or_disable_iff : (s : Shelf) (frame : List ℕ) → T (link_reset_or_disable s frame) ↔ LinkResetOrDisable s frame
unfolding link_reset_or_disable
link_reset_or_disable_iff s frame =
    all_three_iff (about_phy s frame) (eqb (function_of frame) 0x91) (one_of (0x01 ∷ 0x03 ∷ []) (byte frame 10))
    (about_iff s frame)
    (eqb_iff (function_of frame) 0x91)
    (one_of_iff (0x01 ∷ 0x03 ∷ []) (byte frame 10))

-- "other groups' requests about phys it can't reach, save link resets and disables"
pub record CrossedRequest (g : ℕ) (s : Shelf) (h : ℕ) (frame : List ℕ) : Type 0 where
  pub of_another : h ≡ g → ⊥
  pub about : AboutPhy s frame
  pub unreached : T (reaches s g (byte frame 9)) → ⊥
  pub no_reset_or_disable : LinkResetOrDisable s frame → ⊥

pub crossed_request_iff : (g : ℕ) (s : Shelf) (h : ℕ) (frame out : List ℕ)
    → T (crossed_out g s (Ask h frame out))
    ↔ CrossedRequest g s h frame
unfolding crossed_out
crossed_request_iff g s h frame out =
    Iff.trans
    (both_iff
    (not (eqb h g) && about_phy s frame && not (reaches s g (byte frame 9)))
    (not (link_reset_or_disable s frame))
    (all_three_iff (not (eqb h g)) (about_phy s frame) (not (reaches s g (byte frame 9)))
    (denied_iff (eqb h g) (eqb_iff h g))
    (about_iff s frame)
    (denied_iff (reaches s g (byte frame 9)) Iff.rfl))
    (denied_iff (link_reset_or_disable s frame) (link_reset_or_disable_iff s frame))) (
      λ c. record { of_another = c.0.0; about = c.0.1; unreached = c.0.2; no_reset_or_disable = c.1 },
      λ r. ((r.of_another, r.about, r.unreached), r.no_reset_or_disable),
    )

-- "reports of events on such phys, save link changes"
pub crossed_event_iff : (g : ℕ) (s : Shelf) (p source amount : ℕ)
    → T (crossed_out g s (Event p source amount))
    ↔ (T (exists s p) × (T (reaches s g p) → ⊥))
unfolding crossed_out
crossed_event_iff g s p source amount =
    both_iff (exists s p) (not (reaches s g p)) Iff.rfl (denied_iff (reaches s g p) Iff.rfl)
