-- What each function here asks and promises is what the function of `host` asks and promises that has its name: so what crates/calls has of
-- those is said of these, which C links. Assumes nothing.
use Rattle.std.specs.Prelude.{◌≡◌, refl}
use Rattle.host.proofs.smp_start as start_of_host
use Rattle.host.proofs.smp_serve as serve_of_host
use Rattle.host.proofs.smp_event as event_of_host
use Rattle.host.proofs.smp_link_change as link_change_of_host
use Rattle.host.proofs.smp_notice as notice_of_host
use Rattle.host.proofs.smp_reach as reach_of_host
use Rattle.host_c.proofs.smp_start
use Rattle.host_c.proofs.smp_serve
use Rattle.host_c.proofs.smp_event
use Rattle.host_c.proofs.smp_link_change
use Rattle.host_c.proofs.smp_notice
use Rattle.host_c.proofs.smp_reach

pub start_asks : smp_start.Reads.Pre ≡ start_of_host.Reads.Pre
start_asks = refl

pub start_promises : smp_start.Reads.Post ≡ start_of_host.Reads.Post
start_promises = refl

pub serve_asks : smp_serve.Reads.Pre ≡ serve_of_host.Reads.Pre
serve_asks = refl

pub serve_promises : smp_serve.Reads.Post ≡ serve_of_host.Reads.Post
serve_promises = refl

pub event_asks : smp_event.Reads.Pre ≡ event_of_host.Reads.Pre
event_asks = refl

pub event_promises : smp_event.Reads.Post ≡ event_of_host.Reads.Post
event_promises = refl

pub link_change_asks : smp_link_change.Reads.Pre ≡ link_change_of_host.Reads.Pre
link_change_asks = refl

pub link_change_promises : smp_link_change.Reads.Post ≡ link_change_of_host.Reads.Post
link_change_promises = refl

pub notice_asks : smp_notice.Reads.Pre ≡ notice_of_host.Reads.Pre
notice_asks = refl

pub notice_promises : smp_notice.Reads.Post ≡ notice_of_host.Reads.Post
notice_promises = refl

pub reach_asks : smp_reach.Reads.Pre ≡ reach_of_host.Reads.Pre
reach_asks = refl

pub reach_promises : smp_reach.Reads.Post ≡ reach_of_host.Reads.Post
reach_promises = refl
