-- Which event sources are counting, peak and supported, in plain logic. Assumes nothing.
use Prim.Native.Nat.{ℕ, ◌≤◌}
use native.Mathlib.Omega.{arith}
use mathlib.Core.Logic.{◌↔◌, ◌⊎◌, ⊎_elim}
use lib.Dec.{T}
use Rattle.model.specs.Sources.{counting, peak, supported}
use Rattle.model.specs.Tests.{within}
use Rattle.model.proofs.Laws.Tests.{or_iff, one_of_three_iff, within_iff}

-- "counting 01h to 06h, 20h to 2Ah, 40h to 45h"
pub counting_iff : (source : ℕ)
    → T (counting source)
    ↔ (((0x01 ≤ source) × (source ≤ 0x06)) ⊎ ((0x20 ≤ source) × (source ≤ 0x2A)) ⊎ ((0x40 ≤ source) × (source ≤ 0x45)))
unfolding counting
counting_iff source =
    one_of_three_iff (within 0x01 0x06 source) (within 0x20 0x2A source) (within 0x40 0x45 source)
    (within_iff 0x01 0x06 source)
    (within_iff 0x20 0x2A source)
    (within_iff 0x40 0x45 source)

-- "peak 2Bh to 2Eh"
pub peak_iff : (source : ℕ) → T (peak source) ↔ ((0x2B ≤ source) × (source ≤ 0x2E))
unfolding peak
peak_iff source = within_iff 0x2B 0x2E source

pub supported_iff : (source : ℕ) → T (supported source) ↔ (T (counting source) ⊎ T (peak source))
unfolding supported
supported_iff source = or_iff (counting source) (peak source)

-- no source is both, and 00h is neither
pub counting_not_peak : (source : ℕ) → T (counting source) → T (peak source) → ⊥
counting_not_peak source c p =
    let (low, high) = (peak_iff source).0 p in
    ⊎_elim (λ r. omega arith) (⊎_elim (λ r. omega arith) (λ r. omega arith)) ((counting_iff source).0 c)

pub zero_unsupported : T (supported 0x00) → ⊥
unfolding supported counting peak
zero_unsupported t = t
