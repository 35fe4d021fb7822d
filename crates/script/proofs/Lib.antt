-- Facts of one turn of a loop, or of its end: of the bytes of a line or a form that are left, and of the times.
pub mod Left
-- Each public promise settles its outcome.
pub mod Settled
-- What the readings with flags told, as they were before docs/DESIGN-PASS.md, is told still.
pub mod Flagged
-- .. and what they told while they gave an `Option`, too.
pub mod Fitting
