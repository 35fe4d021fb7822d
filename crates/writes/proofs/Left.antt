-- What is left of the descriptors at each turn of `first_unsupported`. Assumes nothing.
use Rattle.std.proofs.Common.{◌≡◌, ℕ, suc, ◌+◌, ◌-◌, ◌<◌, cond, List, Some, None, add-one, arith}
use Rattle.model.specs.Request.{descriptor_source, allowed, first_unsupported}

-- past the last there is none
pub none_left : (frame : List ℕ) (d i : ℕ) → i ≡ d → first_unsupported frame (d - i) i ≡ None
unfolding first_unsupported
none_left frame d i past =
    let none : d - i ≡ 0 = omega arith in
    rw none

-- the next descriptor is judged, and the rest only where it is allowed
pub next_judged : (frame : List ℕ) (d i : ℕ) → i < d
    → first_unsupported frame (d - i) i
    ≡ cond (allowed (descriptor_source frame i)) (first_unsupported frame (d - (i + 1)) (i + 1)) (Some i)
unfolding first_unsupported
next_judged frame d i below =
    let one_more : d - i ≡ suc (d - (i + 1)) = omega arith in
    rw (one_more, add-one)
