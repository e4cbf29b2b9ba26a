-- Reading step by step: the first fault ends it.
use Rattle.std.specs.Prelude.{◌≡◌, ℕ, Result, Ok, Err}
use Rattle.iw_schedules.specs.declared.fault.FaultName.{FaultName}
use Rattle.iw_schedules.specs.declared.fault.ScheduleFault.{ScheduleFault}
use Rattle.iw_schedules.specs.declared.fault.ScheduleFault.TheVariants as faults
use Rattle.iw_schedules.specs.declared.fault.ReadError.{ReadError}
use Rattle.iw_schedules.specs.declared.fault.ReadError.TheVariants as errors

infixl 10 ◌>>=◌
abbrev pub ◌>>=◌ : {A B : Type 0} → Result A FaultName → (A → Result B FaultName) → Result B FaultName
(Ok x) >>= f = f x
(Err fault) >>= f = Err fault

-- what another crate reads, with any error turned into this fault
abbrev pub or_fault : {A E : Type 0} → FaultName → Result A E → Result A FaultName
or_fault fault (Ok x) = Ok x
or_fault fault (Err e) = Err fault

-- the fault of a schedule, given that of a line
abbrev pub fault_at : ℕ → ReadError → ScheduleFault
fault_at number (errors.Fault name) = faults.Line number name
fault_at number errors.NoMemory = faults.NoMemory

-- what a function returned is what reading gives, unless memory ran out
abbrev pub Fails : {Y : Type 0} → ReadError → Result Y FaultName → Type 0
Fails errors.NoMemory read = Unit {0}
Fails (errors.Fault fault) read = read ≡ Err fault

abbrev pub Gives : {X Y : Type 0} → (X → Y) → Result X ReadError → Result Y FaultName → Type 0
Gives view (Ok x) read = read ≡ Ok (view x)
Gives view (Err e) read = Fails e read
