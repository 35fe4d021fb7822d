-- The further cases hold of the definitions too, by computation.
use mathlib.Core.Path.{◌≡◌, refl}
use mathlib.Core.Bool.{true, false}
use Rattle.model.specs.CrossedOut.{remains}
use Rattle.model.specs.Runs.{answers}
use Rattle.model.specs.ShelfW.{shelf_w}
use Rattle.model.specs.Vectors.CrossedOut.{crossed, stay, whole, rest}
use Rattle.model.specs.Vectors.Cut.{cut, tallies}
use Rattle.model.specs.Vectors.EasilyWrong.{easily_wrong1to4, easily_wrong5}
use Rattle.model.specs.Vectors.Frames.{reads, controls, configures, ignored}
use Rattle.model.specs.Vectors.Peaks.{peaks}
use Rattle.model.specs.Vectors.Sources.{sources}
use Rattle.model.specs.Vectors.Stored.{stored}
use Rattle.model.specs.Vectors.Refusals.{refusals}
use Rattle.model.specs.Vectors.Results.{results}
use Rattle.model.specs.Vectors.Starts.{fresh_starts, starts_taken}
use Rattle.model.specs.Vectors.Stays.{stays}
use Rattle.model.specs.Vectors.Told.{mixed, to8, to32}
use Rattle.model.proofs.Computes.{computes}
use Rattle.model.proofs.Holds.{Holds, Fate}

pub easily_wrong_1_to_4_hold : Holds easily_wrong1to4
unfolding easily_wrong1to4 computes
easily_wrong_1_to_4_hold =
    (refl, (refl, (refl, (refl, (refl, (refl, (refl, tt)))))))

pub easily_wrong_5_hold : Holds easily_wrong5
unfolding easily_wrong5 computes
easily_wrong_5_hold =
    (refl, (refl, (refl, (refl, tt))))

pub fresh_starts_hold : Holds fresh_starts
unfolding fresh_starts computes
fresh_starts_hold =
    (refl, (refl, (refl, (refl, (refl, (refl, (refl, (refl, tt))))))))

pub starts_taken_hold : Holds starts_taken
unfolding starts_taken computes
starts_taken_hold =
    (refl, (refl, (refl, tt)))

pub refusals_hold : Holds refusals
unfolding refusals computes
refusals_hold =
    (refl, (refl, (refl, (refl, (refl, (refl, (refl, (refl, (refl, (refl, (refl, (refl, (refl, (refl, (refl, (refl, (refl, (refl, (refl, (refl, (refl, (refl, (refl, tt)))))))))))))))))))))))

pub results_hold : Holds results
unfolding results computes
results_hold =
    (refl, (refl, (refl, (refl, (refl, (refl, (refl, (refl, (refl, (refl, (refl, (refl, (refl, (refl, (refl, (refl, (refl, (refl, (refl, (refl, (refl, (refl, (refl, (refl, tt))))))))))))))))))))))))

pub reads_hold : Holds reads
unfolding reads computes
reads_hold =
    (refl, (refl, (refl, (refl, (refl, (refl, (refl, tt)))))))

pub controls_hold : Holds controls
unfolding controls computes
controls_hold =
    (refl, (refl, (refl, (refl, (refl, (refl, (refl, tt)))))))

pub configures_hold : Holds configures
unfolding configures computes
configures_hold =
    (refl, (refl, (refl, (refl, (refl, tt)))))

pub ignored_hold : Holds ignored
unfolding ignored computes
ignored_hold =
    (refl, (refl, (refl, (refl, tt))))

pub stays_hold : Holds stays
unfolding stays computes
stays_hold =
    (refl, (refl, (refl, (refl, (refl, (refl, (refl, (refl, (refl, (refl, (refl, (refl, (refl, (refl, (refl, (refl, (refl, (refl, tt))))))))))))))))))

pub peaks_hold : Holds peaks
unfolding peaks computes
peaks_hold =
    (refl, (refl, (refl, (refl, (refl, (refl, (refl, tt)))))))

-- the list of stored peak events
pub cut_hold : Holds cut
unfolding cut computes
cut_hold =
    (refl, (refl, (refl, (refl, (refl, (refl, (refl, (refl, (refl, (refl, (refl, tt)))))))))))

pub tallies_hold : Holds tallies
unfolding tallies computes
tallies_hold =
    (refl, (refl, (refl, (refl, (refl, (refl, tt))))))

pub stored_hold : Holds stored
unfolding stored computes
stored_hold =
    (refl, (refl, (refl, (refl, (refl, (refl, (refl, (refl, (refl, (refl, (refl, (refl, (refl, (refl, (refl, (refl, (refl, (refl, (refl, (refl, (refl, (refl, (refl, (refl, (refl, (refl, (refl, (refl, tt))))))))))))))))))))))))))))

-- demand 3's crossing-out
pub crossed_hold : Fate true crossed
unfolding crossed computes
crossed_hold =
    (refl, (refl, (refl, (refl, (refl, (refl, (refl, (refl, (refl, (refl, (refl, (refl, (refl, (refl, (refl, (refl, (refl, (refl, (refl, (refl, (refl, (refl, (refl, (refl, (refl, tt)))))))))))))))))))))))))

pub stay_hold : Fate false stay
unfolding stay computes
stay_hold =
    (refl, (refl, (refl, (refl, (refl, (refl, (refl, (refl, (refl, (refl, (refl, (refl, (refl, (refl, (refl, (refl, (refl, (refl, (refl, (refl, (refl, (refl, (refl, (refl, (refl, (refl, (refl, (refl, (refl, (refl, (refl, (refl, (refl, (refl, tt))))))))))))))))))))))))))))))))))

pub remains_hold : remains 8 shelf_w whole ≡ rest
unfolding whole rest computes
remains_hold = refl

-- what a group gets in a run
pub told_hold : (answers 8 shelf_w mixed ≡ to8) × (answers 32 shelf_w mixed ≡ to32)
unfolding mixed to8 to32 computes
told_hold = (refl, refl)

pub sources_hold : Holds sources
unfolding sources computes
sources_hold =
    (refl, (refl, (refl, (refl, tt))))
