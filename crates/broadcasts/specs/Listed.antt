-- 06h: "then n descriptors of 8 bytes". The list is written into the lent buffer as it is walked (`Lists` of crates/replies/specs).
use Rattle.std.specs.Prelude.{refl}
use Rattle.model.specs.Reply.{Broadcast, broadcast_descriptor}
use Rattle.replies.specs.Listed.{Layout}

-- 8 bytes come before the first descriptor
abbrev pub broadcast_list : Layout Broadcast
broadcast_list = record { head = 8; size = 8; bytes = broadcast_descriptor; each = λ b. refl }
