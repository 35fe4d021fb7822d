-- How a function's proof is written, here and in writes: its `Answers.antt` proves each goal that the toolchain's search leaves, under the
-- goal's name, and where there is a loop `Invariants.antt` has what holds at each turn. A function without such a file is proved by the
-- search alone, with the lemmas and the definitions that its `tactic` line names.

-- Which monitors a report takes to their thresholds.
pub mod Crossings
-- Each public promise settles its outcome.
pub mod Settled
