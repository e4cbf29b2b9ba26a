-- What a handle owns: nothing, or a block of memory with what it has.
use Rattle.std.specs.Prelude.{Option, Some, None}
use Rattle.std.specs.Coded.{Coded, coded_option}
use base.Fml.{Fml, feq}
use denote.RattleType.{RattleType}
use denote.RawPtr.{Ptr, null_ptr}
use Rattle.std.specs.declared.alloc.Global.{Global}
use Rattle.std.specs.contracts.impls.GlobalAllocator.TheImpl.{ghosts}
use Rattle.std.specs.Box.Ownership.{box_owns}
use Rattle.iw_handle.specs.declared.open_handle.Held.{Held}
use Rattle.iw_handle.specs.contracts.open_handle.Held as held

abbrev pub held_row : RattleType
held_row = held.the_row

abbrev pub state_coded : Coded (Option Held)
state_coded = coded_option held_row.coded

-- nothing if there is no endpoint, and then the pointer is null; else what the handle has, and the right to free its
-- block
abbrev pub handle_owns : Global → Ptr → Option Held → Fml
handle_owns alloc at None = feq Ptr at null_ptr
handle_owns alloc at (Some held) = box_owns (ghosts.dealloc_token alloc) held_row at held
