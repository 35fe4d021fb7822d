-- When a peak originates Expander 1h, and a clear Expander 2h. The first entry is document 01's case 12;
-- the others have no number there, and bear 0.
use Rattle.std.specs.Prelude.{List, [], ◌∷◌, ◌++◌}
use Rattle.model.specs.Cases.{Case, Look, Numbers, on, sent}
use Rattle.model.specs.Runs.{Event, LinkChange}
use Rattle.model.specs.ShelfW.{shelf_w}
use Rattle.model.specs.Vectors.Tools.{configure_frame, watch, monitors0, counts0, errors0, watching}

unfoldable pub peaks : List Case
peaks =
    -- 12. Threshold 10 on 2Dh, reports 9, 10, 12: Expander 1h is 1. (With a second monitor at threshold 11 it is 2.)
    on 12 shelf_w
    (sent 8 (configure_frame 0x04 0x01 0x00 0 1 (watch 0x2D 10)) ∷ Event 0 0x2D 9 ∷ Event 0 0x2D 10 ∷ Event 0 0x2D 12 ∷ [])
    (Look counts0)
    (Numbers (0 ∷ 1 ∷ 0 ∷ 0x0001 ∷ []))
    ∷ on 0 shelf_w
    (watching ∷ Event 0 0x2D 9 ∷ Event 0 0x2D 10 ∷ Event 0 0x2D 12 ∷ Event 0 0x2D 5 ∷ [])
    (Look (λ s. counts0 s ++ monitors0 s))
    (Numbers (0 ∷ 2 ∷ 0 ∷ 0x0001 ∷ 0x2D ∷ 12 ∷ 10 ∷ 0x2D ∷ 12 ∷ 11 ∷ 0x02 ∷ 0 ∷ 5 ∷ 0x00 ∷ 0 ∷ 0 ∷ []))
    -- "once per monitor": a report that takes two monitors over their thresholds originates twice
    ∷ on 0 shelf_w (watching ∷ Event 0 0x2D 12 ∷ []) (Look counts0) (Numbers (0 ∷ 2 ∷ 0 ∷ 0x0001 ∷ []))
    -- "Threshold 0 thus never does"; a counting monitor never does
    ∷ on 0 shelf_w
    (sent 8 (configure_frame 0x04 0x01 0x00 0 1 (watch 0x2D 0)) ∷ Event 0 0x2D 9 ∷ [])
    (Look counts0)
    (Numbers (0 ∷ 0 ∷ 0 ∷ 0x0001 ∷ []))
    ∷ on 0 shelf_w (watching ∷ Event 0 0x02 9 ∷ []) (Look counts0) (Numbers (0 ∷ 0 ∷ 0 ∷ 0x0001 ∷ []))
    -- a clear of peaks that are 0 already originates Expander 2h all the same
    ∷ on 0 shelf_w
    (watching ∷ sent 8 (configure_frame 0x02 0x01 0x01 0 0 []) ∷ sent 8 (configure_frame 0x02 0x01 0x01 0 0 []) ∷ [])
    (Look counts0)
    (Numbers (0 ∷ 0 ∷ 2 ∷ 0x0001 ∷ []))
    -- a report of one phy leaves the others
    ∷ on 0 shelf_w
    (Event 1 0x01 9 ∷ LinkChange 1 ∷ [])
    (Look (λ s. errors0 s ++ counts0 s))
    (Numbers (0 ∷ 0 ∷ 0 ∷ 0 ∷ 0 ∷ 0 ∷ 0 ∷ 0x0002 ∷ []))
    ∷ []
