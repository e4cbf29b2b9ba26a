-- RDMAP's operations, by what carries them (RFC 5040 4.1, figure 4).
use Rattle.std.specs.Prelude.{ℕ, ◌+◌, ◌/◌, ◌%◌, ◌==◌, true, false, Option, Some, None, if◌then◌else◌}
use Rattle.iw_octets.specs.declared.operation.TaggedOperation.{TaggedOperation}
use Rattle.iw_octets.specs.declared.operation.TaggedOperation.TheVariants.{Write, ReadResponse}
use Rattle.iw_octets.specs.declared.operation.UntaggedOperation.{UntaggedOperation}
use Rattle.iw_octets.specs.declared.operation.UntaggedOperation.TheVariants.{Send, ReadRequest, Terminate}

-- RDMAP's octet of a header: the version, 1, in the two high bits, two reserved bits, the opcode in the four low ones (RFC 5040 4.1, figure 3)
abbrev pub rdmap_version : ℕ → ℕ
rdmap_version control = control / 0x40

abbrev pub opcode_of : ℕ → ℕ
opcode_of control = control % 16

abbrev pub control_of : ℕ → ℕ
control_of opcode = 0x40 + opcode

-- the operations of tagged segments, with their opcodes
abbrev pub tagged_opcode : TaggedOperation → ℕ
tagged_opcode Write = 0
tagged_opcode ReadResponse = 2

-- those of untagged segments, with their opcodes: a Send is solicited or not, and has an STag to invalidate or not
abbrev pub untagged_opcode : UntaggedOperation → ℕ
untagged_opcode ReadRequest = 1
untagged_opcode (Send false false) = 3
untagged_opcode (Send false true) = 4
untagged_opcode (Send true false) = 5
untagged_opcode (Send true true) = 6
untagged_opcode Terminate = 7

-- and the number of the queue that carries each
abbrev pub queue_of : UntaggedOperation → ℕ
queue_of (Send solicited invalidates) = 0
queue_of ReadRequest = 1
queue_of Terminate = 2

-- the operation of an opcode; none where tagged segments, or untagged ones, have no such opcode
abbrev pub tagged_operation : ℕ → Option TaggedOperation
tagged_operation opcode =
    if opcode == tagged_opcode Write then Some Write
    else if opcode == tagged_opcode ReadResponse then Some ReadResponse
    else None

abbrev pub untagged_operation : ℕ → Option UntaggedOperation
untagged_operation opcode =
    if opcode == untagged_opcode ReadRequest then Some ReadRequest
    else if opcode == untagged_opcode (Send false false) then Some (Send false false)
    else if opcode == untagged_opcode (Send false true) then Some (Send false true)
    else if opcode == untagged_opcode (Send true false) then Some (Send true false)
    else if opcode == untagged_opcode (Send true true) then Some (Send true true)
    else if opcode == untagged_opcode Terminate then Some Terminate
    else None
