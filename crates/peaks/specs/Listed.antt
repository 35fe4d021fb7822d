-- 21h: "then from 12 descriptors of 12 bytes". The list is written into the lent buffer as it is read (`Lists` of crates/replies/specs).
use Rattle.std.specs.Prelude.{refl}
use Rattle.model.specs.declared.Entry.{Entry}
use Rattle.model.specs.Reply.{entry_descriptor}
use Rattle.replies.specs.Listed.{Layout}

-- 12 bytes come before the first descriptor
abbrev pub entry_list : Layout Entry
entry_list = record { head = 12; size = 12; bytes = entry_descriptor; each = λ e. refl }
