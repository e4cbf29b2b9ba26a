-- A stream that is there may do a step as long as it has not come too far.
use Rattle.std.proofs.Common.{◌≡◌, ℕ, ◌≤◌, ◌^◌, Bool, true, false, Option, Some, None, refl, sym, arith}
use Rattle.std.specs.Prelude.{not, nat_lt, if◌then◌else◌}
use Rattle.std.proofs.lemmas.Bool.{true≢false}
use Rattle.std.proofs.lemmas.Bool.Decides.{nat_tests}
use Rattle.iw_connection.specs.declared.working.Refusal.{Refusal}
use Rattle.iw_connection.specs.declared.working.Refusal.TheVariants.{NoSuchStream, TooFar}
use Rattle.iw_connection.specs.Steps.{work_refusal}
use Rattle.iw_endpoint.specs.Endpoint.{EndpointState, has_stream, point_at}

abbrev refusal_by : Bool → Bool → Option Refusal
refusal_by there far = if not there then Some NoSuchStream else if far then Some TooFar else None

none_by : (there far : Bool) → there ≡ true → far ≡ false → refusal_by there far ≡ None
none_by false far is near = absurd (true≢false (sym is))
none_by true true is near = absurd (true≢false near)
none_by true false is near = refl

is_near : (n : ℕ) → n ≤ 2 ^ 62 → nat_lt (2 ^ 62) n ≡ false
is_near n low = grind (arith, nat_tests)

pub may_work : (e : EndpointState) (number : ℕ) → has_stream e number ≡ true → point_at e number ≤ 2 ^ 62 → work_refusal e number ≡ None
may_work e number there near = none_by (has_stream e number) (nat_lt (2 ^ 62) (point_at e number)) there (is_near (point_at e number) near)
