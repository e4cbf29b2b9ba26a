-- Octets are due where an emission is neither nothing nor a fault.
use Rattle.std.proofs.Common.{◌≡◌, refl}
use Rattle.iw_octets.specs.declared.fault.Fault.{Fault}
use Rattle.iw_stream.specs.declared.answer.Emission.{Emission}
use Rattle.iw_stream.specs.declared.answer.Emission.TheVariants as emissions
use Rattle.iw_handle.specs.Events.{IsFrame}

pub is_frame : (emission : Emission) → (emission ≡ emissions.Nothing → ⊥) → ((fault : Fault) → emission ≡ emissions.Fault fault → ⊥) → IsFrame emission
is_frame emissions.Nothing some kept = some refl
is_frame (emissions.Frame from len) some kept = tt
is_frame (emissions.Fetched from len stag to n) some kept = tt
is_frame (emissions.Fault fault) some kept = kept fault refl
