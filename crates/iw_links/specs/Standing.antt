-- The state and the plan of a connection, from the code's types.
use Rattle.std.specs.Prelude.{◌≡◌, ℕ, List, [], ◌||◌, Bool, true, false, is_some, Option, None, Some}
use Rattle.iw_endpoint.specs.Endpoint.{EndpointState}
use Rattle.iw_links.specs.declared.exchange.Until.{Until}
use Rattle.iw_links.specs.declared.exchange.Until.TheVariants as untils
use Rattle.iw_links.specs.declared.link.Link.{Link}
use Rattle.iw_links.specs.declared.link.Next.{Next}
use Rattle.iw_links.specs.declared.link.Next.TheVariants as nexts
use Rattle.iw_links.specs.declared.link.Stop.{Stop}
use Rattle.iw_links.specs.declared.link.Stop.TheVariants as stops
use Rattle.iw_links.specs.declared.plan.Part.{Part as CodePart}
use Rattle.iw_links.specs.declared.plan.Part.TheVariants as parts
use Rattle.iw_links.specs.declared.plan.Plan.{Plan as CodePlan}
use Rattle.iw_links.specs.declared.report.Ended.{Ended}
use Rattle.iw_links.specs.Exchange.{Standing, Told, Part, Serves, Asks, Plan, plan_for, Phase, Working, Accepting, Speaking, Closing, MayHear, Did, Failed, Closes}

abbrev pub told_in : Link → Told
told_in link = record { received = link.received; ended = link.ended }

abbrev pub standing : EndpointState → Link → Phase → ℕ → Standing
standing endpoint link phase posted =
    record { endpoint = endpoint; told = told_in link; phase = phase; posted = posted }

abbrev pub part_of : CodePart → Part
part_of (parts.Serves region) = Serves region
part_of (parts.Asks text) = Asks text.now

abbrev pub plan_of : CodePlan → Plan
plan_of plan = plan_for plan.terms (part_of plan.part)

-- the phase after a step of work
abbrev pub phase_of : Next → Phase
phase_of nexts.Accept = Accepting
phase_of nexts.Work = Working
phase_of nexts.Close = Closing
phase_of nexts.Rest = Speaking

-- how many messages an asking end posts once the peer's Reply came, by whether the stream has ended
abbrev pub count_said : Option Ended → ℕ
count_said None = 2
count_said (Some end) = 0

-- what was done up to where work stops
abbrev pub Halts : Stop → Plan → Standing → (Phase → ℕ → Standing) → ℕ → Type 0
Halts stops.Broken p s at k = (phase : Phase) × Did p s (at phase k) [] []
Halts stops.Closed p s at k = Did p s (at Closing k) [] []

-- and up to where an exchange does
abbrev pub Stopped : Stop → Plan → Standing → Option (List ℕ) → Option (List ℕ) → (Phase → ℕ → Standing) → Option (List ℕ) → Option (List ℕ) → Type 0
Stopped stops.Broken p s i o at i' o' = Failed p s i o at i' o'
Stopped stops.Closed p s i o at i' o' = Closes p s i o at i' o'

-- ---- how long to read

-- how many messages a serving end posts after the peer's Send, by whether the stream has ended
abbrev pub count_answered : Option Ended → ℕ
count_answered None = 1
count_answered (Some end) = 0

-- whether what was read is enough, by whether the Reply opened the stream
abbrev pub is_over : Until → Bool → Told → Bool
is_over untils.Reply is_open told = is_open || is_some told.ended
is_over untils.Send is_open told = is_some told.received || is_some told.ended
is_over untils.End is_open told = false

-- an end may read until then, whatever comes; a stream that has ended stays so
abbrev pub ReadsOn : Until → Plan → Told → ℕ → Type 0
ReadsOn until p told k = (told' : Told) → (is_open : Bool) → is_over until is_open told' ≡ false →
    (is_some told.ended ≡ true → is_some told'.ended ≡ true) → MayHear p told' k
