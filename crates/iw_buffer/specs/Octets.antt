-- What calls on a buffer say.
use Rattle.std.specs.Prelude.{ℕ, List, replicate, Option, None, Some}
use Rattle.iw_buffer.specs.declared.refusal.BufferRefusal.{BufferRefusal}
use Rattle.iw_buffer.specs.declared.refusal.BufferRefusal.TheVariants.{BufferMissing}

-- octets, and room: so many there may be before a call that puts some behind asks for memory
pub record Stored : Type 0 where
  pub octets : List ℕ
  pub room : ℕ

-- none, or its octets
abbrev pub State : Type 0
State = Option (List ℕ)

-- there is no buffer
abbrev pub buffer_refusal : State → Option BufferRefusal
buffer_refusal None = Some BufferMissing
buffer_refusal (Some octets) = None

abbrev pub zeroes : ℕ → List ℕ
zeroes n = replicate n 0
