-- What an operation doesn't name stays as it was: on busyW, where no number of phy 0 is 0, and on countsW, where every phy has counts.
-- No entry has a number: 0.
use Rattle.std.specs.Prelude.{ℕ, cond, List, [], ◌∷◌, ◌++◌, set}
use Rattle.model.specs.declared.Shelf.{Shelf}
use Rattle.model.specs.Bytes.{zeros}
use Rattle.model.specs.Cases.{Case, Look, Numbers, on, sent}
use Rattle.model.specs.Reply.{error_at, monitor_at}
use Rattle.model.specs.Runs.{Operation, Event, LinkChange, ReducedFunctionality, Ses, QueryReach}
use Rattle.model.specs.Shelf.{phy_at}
use Rattle.model.specs.Vectors.Tools.{control_frame, configure_frame, watch, monitors0, counts_w, busy_w}

-- all numbers of phy 0, with the counts under FFh and the change count
abbrev pub all0 : Shelf → List ℕ
all0 s =
    ((phy_at s 0).group ∷ cond (phy_at s 0).enabled 1 0 ∷ [])
    ++ (phy_at s 0).errors
    ++ monitors0 s
    ++ ((phy_at s 0).change0 ∷ (phy_at s 0).expander1 ∷ (phy_at s 0).expander2 ∷ [])
    ++ (s.expander3 ∷ s.ses0 ∷ s.changes ∷ [])

-- as they stand on busyW, in five parts
abbrev pub link : List ℕ
link = 8 ∷ 1 ∷ []

abbrev pub errors : List ℕ
errors = 11 ∷ 12 ∷ 13 ∷ 14 ∷ []

abbrev pub monitors : List ℕ
monitors = 0x2D ∷ 9 ∷ 10 ∷ 0x2C ∷ 8 ∷ 20 ∷ 0x02 ∷ 7 ∷ 5 ∷ 0x40 ∷ 6 ∷ 1 ∷ []

abbrev pub counts : List ℕ
counts = 0x0100 ∷ 0x0200 ∷ 0x0300 ∷ []

abbrev pub others : List ℕ
others = 0x0400 ∷ 0x0500 ∷ 0x0007 ∷ []

-- one operation on busyW, and the five parts afterwards
abbrev pub leaves : Operation → List ℕ → List ℕ → List ℕ → List ℕ → List ℕ → Case
leaves operation link' errors' monitors' counts' others' =
    on 0 busy_w (operation ∷ []) (Look all0) (Numbers (link' ++ errors' ++ monitors' ++ counts' ++ others'))

-- of a phy: its group, the first error count, the first monitor's source, and its three broadcast counts
abbrev pub some : Shelf → ℕ → List ℕ
some s p =
    (phy_at s p).group
    ∷ error_at (phy_at s p) 0
    ∷ (monitor_at (phy_at s p) 0).source
    ∷ (phy_at s p).change0
    ∷ (phy_at s p).expander1
    ∷ (phy_at s p).expander2
    ∷ []

-- one operation about phy 2 where every phy has counts: phy 2 afterwards, and phy 0, which stays
abbrev pub about2 : Operation → List ℕ → Case
about2 operation phy2 =
    on 0 counts_w
    (operation ∷ [])
    (Look (λ s. some s 2 ++ some s 0))
    (Numbers (phy2 ++ (8 ∷ 0 ∷ 0x00 ∷ 0x0100 ∷ 0x0200 ∷ 0x0300 ∷ [])))

unfoldable pub stays : List Case
stays =
    -- a reach query; a peak that crosses its threshold; 02h counts, in its monitor and its error count
    leaves (QueryReach 8) link errors monitors counts others
    ∷ leaves (Event 0 0x2D 10) link errors (set monitors 1 10) (set counts 1 0x0201) others
    ∷ leaves (Event 0 0x02 3) link (set errors 1 15) (set monitors 7 10) counts others
    -- a link change; the two notices
    ∷ leaves (LinkChange 0) link errors monitors (set counts 0 0x0101) (set others 2 0x0008)
    ∷ leaves ReducedFunctionality link errors monitors counts (set others 0 0x0401)
    ∷ leaves Ses link errors monitors counts (set others 1 0x0501)
    -- 91h: none, link reset, disable, errors to 0
    ∷ leaves (sent 8 (control_frame 0x09 0x07 0 0x00)) link errors monitors counts others
    ∷ leaves (sent 8 (control_frame 0x09 0x07 0 0x01)) link errors monitors (set counts 0 0x0101) (set others 2 0x0008)
    ∷ leaves (sent 8 (control_frame 0x09 0x07 0 0x03)) (set link 1 0) errors monitors (set counts 0 0x0101) (set others 2 0x0008)
    ∷ leaves (sent 8 (control_frame 0x09 0x07 0 0x05)) link (zeros 4) monitors counts others
    -- 93h: one descriptor, and the clear
    ∷ leaves (sent 8 (configure_frame 0x04 0x07 0x00 0 1 (watch 0x2D 0x63))) link errors (set monitors 2 0x63) counts others
    ∷ leaves (sent 8 (configure_frame 0x02 0x07 0x01 0 0 [])) link errors (set (set monitors 1 0) 4 0) (set counts 2 0x0301) others
    -- the phy that is named changes, and no other
    ∷ about2 (Event 2 0x01 5) (9 ∷ 5 ∷ 0x00 ∷ 0x0102 ∷ 0x0202 ∷ 0x0302 ∷ [])
    ∷ about2 (LinkChange 2) (9 ∷ 0 ∷ 0x00 ∷ 0x0103 ∷ 0x0202 ∷ 0x0302 ∷ [])
    ∷ about2 (sent 9 (control_frame 0x09 0x01 2 0x01)) (9 ∷ 0 ∷ 0x00 ∷ 0x0103 ∷ 0x0202 ∷ 0x0302 ∷ [])
    ∷ about2 (sent 9 (control_frame 0x09 0x01 2 0x05)) (9 ∷ 0 ∷ 0x00 ∷ 0x0102 ∷ 0x0202 ∷ 0x0302 ∷ [])
    ∷ about2 (sent 9 (configure_frame 0x04 0x01 0x00 2 1 (watch 0x2D 10))) (9 ∷ 0 ∷ 0x2D ∷ 0x0102 ∷ 0x0202 ∷ 0x0302 ∷ [])
    -- a disabled phy stays so, counts, and originates Change on a link change
    ∷ on 0 busy_w
    (sent 8 (control_frame 0x09 0x07 0 0x03)
    ∷ Event 0 0x02 3
    ∷ sent 8 (control_frame 0x09 0x00 0 0x05)
    ∷ sent 8 (configure_frame 0x02 0x00 0x01 0 0 [])
    ∷ LinkChange 0
    ∷ [])
    (Look all0)
    (Numbers
    (set link 1 0
    ++ zeros 4
    ++ set (set (set monitors 1 0) 4 0) 7 10
    ++ (0x0102 ∷ 0x0200 ∷ 0x0301 ∷ [])
    ++ set others 2 0x0009))
    ∷ []
