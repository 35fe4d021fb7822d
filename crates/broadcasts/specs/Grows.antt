-- The list as it is written grows by some broadcasts: it keeps its buffer, and they stand behind those that were there.
use Rattle.std.specs.Prelude.{◌≡◌, List}
use Rattle.model.specs.Reply.{Broadcast}
use Rattle.replies.specs.Listed.{Lists}
use Rattle.broadcasts.specs.declared.List.{List as Listing}
use Rattle.broadcasts.specs.Listed.{broadcast_list}

pub record Grows (before : Listing) (bs : List Broadcast) (after : Listing) : Type 0 where
  pub same_buffer : after.out.ghost_name ≡ before.out.ghost_name
  pub lists : Lists broadcast_list before.out.now before.number bs after.number after.out.now
