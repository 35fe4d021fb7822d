-- A proof that says `unfolding computes` may run every definition of document 01 on numbers: the names are listed here, once.
use Prim.Native.Nat.{ℕ}
use Rattle.model.specs.CrossedOut.{about_phy, link_reset_or_disable, crossed_out, remains}
use Rattle.model.specs.Counting.{originate, counted, crosses}
use Rattle.model.specs.Counting.{add_error, error_cut, event_on, change_on}
use Rattle.model.specs.Reach.{reach_set, reach_number, reach_query}
use Rattle.model.specs.Reply.{report_general, report_manufacturer, report_phy_error_log, report_phy_event}
use Rattle.model.specs.Reply.{device_listed, phy_listed, broadcasts, descriptors, report_broadcast, report_phy_event_list, respond}
use Rattle.model.specs.Reports.{amount_too_large, event_taken, event, link_change, reduced_functionality, ses_notice}
use Rattle.model.specs.Request.{cut_frame, wrong_frame, known, length_right, asked, judge, allowed, first_unsupported}
use Rattle.model.specs.Results.{count_right, known_operation, result_of, decide}
use Rattle.model.specs.Runs.{next, after, told, answers}
use Rattle.model.specs.Server.{handle, served, lent_after}
use Rattle.model.specs.Shelf.{fresh_shelf, no_shelf, start_taken, start}
use Rattle.model.specs.ShelfW.{shelf_w}
use Rattle.model.specs.Sources.{counting, peak, supported}
use Rattle.model.specs.Store.{store, entries, up_to, indexes, first_index, first_returned, returned}
use Rattle.model.specs.Tally.{tallied, tally_from}
use Rattle.model.specs.Tests.{all_below, sum_below, join_below}
use Rattle.model.specs.Writes.{controlled, set_monitor, set_monitors, set_on, clear_monitor, any_peak}
use Rattle.model.specs.Writes.{clear_on, configured, doing, effect}
use Rattle.model.specs.Zone.{row_reaches, symmetric, legal_table}

-- `unfolding f` opens whatever f's own `unfolding` line names: each set below is a name for such a line, and its value is of no interest.
unfoldable pub zones : ℕ
unfolding all_below sum_below join_below row_reaches symmetric legal_table reach_set reach_number reach_query
zones = 0

unfoldable pub counts : ℕ
unfolding counting peak supported originate counted crosses add_error error_cut event_on change_on
counts = 0

unfoldable pub stores : ℕ
unfolding store entries up_to indexes first_index first_returned returned
stores = 0

unfoldable pub shelves : ℕ
unfolding fresh_shelf no_shelf start_taken start amount_too_large event_taken event link_change reduced_functionality ses_notice
shelves = 0

unfoldable pub requests : ℕ
unfolding cut_frame wrong_frame known length_right asked judge allowed first_unsupported count_right known_operation result_of decide
requests = 0

unfoldable pub replies : ℕ
unfolding report_general report_manufacturer report_phy_error_log report_phy_event device_listed phy_listed broadcasts descriptors report_broadcast report_phy_event_list respond
replies = 0

unfoldable pub writes : ℕ
unfolding controlled set_monitor set_monitors set_on clear_monitor any_peak clear_on configured doing effect
writes = 0

unfoldable pub runs : ℕ
unfolding next after told answers tallied tally_from about_phy link_reset_or_disable crossed_out remains
runs = 0

unfoldable pub computes : ℕ
unfolding zones counts stores shelves requests replies writes runs handle served lent_after shelf_w
computes = 0
