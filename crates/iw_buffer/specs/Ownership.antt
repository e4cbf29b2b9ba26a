-- What a buffer owns: nothing, or what it has in a block of its own.
use Rattle.std.specs.Prelude.{Option, Some, None, List, ℕ}
use Rattle.std.specs.Coded.{Coded, coded_option, coded_list, coded_ℕ}
use base.Fml.{Fml, feq}
use denote.RattleType.{RattleType}
use denote.RawPtr.{Ptr, null_ptr}
use Rattle.std.specs.declared.alloc.Global.{Global}
use Rattle.std.specs.contracts.impls.GlobalAllocator.TheImpl.{ghosts}
use Rattle.std.specs.Box.Ownership.{box_owns}
use Rattle.iw_buffer.specs.contracts.contents.Contents as contents

abbrev pub contents_row : RattleType
contents_row = contents.the_row

abbrev pub state_coded : Coded (Option (List ℕ))
state_coded = coded_option (coded_list coded_ℕ)

abbrev pub room_coded : Coded ℕ
room_coded = coded_ℕ

-- nothing if there is no buffer, and the pointer is null; else what it has, and the right to free its block
abbrev pub buffer_owns : Global → Ptr → Option (List ℕ) → ℕ → Fml
buffer_owns alloc at None room = feq Ptr at null_ptr
buffer_owns alloc at (Some octets) room = box_owns (ghosts.dealloc_token alloc) contents_row at (record { octets = octets; room = room })
