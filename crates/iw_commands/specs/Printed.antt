-- What a command prints, and its status. The octets of an output before and after are an option: None if they are not
-- known.
use Rattle.std.specs.Prelude.{◌≡◌, ℕ, List, [], ◌∷◌, ◌++◌, ◌+◌, ◌≤◌, ◌⊎◌, Option, Bool, true, false, length, take}
use Rattle.std.specs.Io.KnownBytes.{Appends}
use Rattle.iw_output.specs.declared.status.Status.{Status}
use Rattle.iw_output.specs.Status.{with}
use Rattle.iw_startup.specs.declared.config.Establishment.{Establishment}
use Rattle.iw_startup.specs.declared.config.Establishment.TheVariants as establishments
use Rattle.iw_endpoint.specs.Endpoint.{EndpointState}
use Rattle.iw_links.specs.declared.exchange.Terms.{Terms}
use Rattle.iw_links.specs.declared.report.Report.{Report}
use Rattle.iw_links.specs.Exchange.{Part, Serves, Plan, plan_for, Served, listening, shared_region}
use Rattle.iw_commands.specs.declared.options.Options.{Options}
use Rattle.iw_commands.specs.Lines.{lines_from}
use Rattle.iw_commands.specs.Port.{port_line}
use Rattle.iw_commands.specs.Status.{status_of, unmade}

-- ---- connections

-- a connection was made at this endpoint, as its plan says; its input and output before and after are options as well
pub record IsMade (p : Plan) (e e' : EndpointState) (report : Report) : Type 0 where
  pub input : Option (List ℕ)
  pub output : Option (List ℕ)
  pub input' : Option (List ℕ)
  pub output' : Option (List ℕ)
  pub served : Served p e input output e' input' output' report

-- or it could not be made, and nothing changed there
abbrev pub IsTold : Plan → EndpointState → EndpointState → Report → Type 0
IsTold p e e' report = IsMade p e e' report ⊎ ((report ≡ unmade) × (e' ≡ e))

-- the revision of MPA, by whether 2 is asked for
abbrev pub establishment_of : Bool → Establishment
establishment_of false = establishments.Plain
establishment_of true = establishments.Enhanced

-- the options with which the connection of this stream is opened
abbrev pub terms_at : Options → ℕ → Terms
terms_at options stream = record {
  number = stream;
  markers = options.markers;
  crc = options.crc;
  establishment = establishment_of options.enhanced;
}

-- connections one after the other; the first has this stream number
abbrev pub AreTold : Options → Part → ℕ → EndpointState → List Report → EndpointState → Type 0
AreTold options part stream e [] e' = e' ≡ e
AreTold options part stream e (report ∷ reports) e' =
    (m : EndpointState) × IsTold (plan_for (terms_at options stream) part) e m report × AreTold options part (1 + stream) m reports e'

-- ---- what is printed

-- `count` connections were made or tried, the first as stream 0, and the lines of each were printed, in order; the
-- command's status follows from their reports.
pub record Prints (options : Options) (part : Part) (e e' : EndpointState) (count : ℕ) (output output' : Option (List ℕ)) (status : Status) :
    Type 0 where
  pub reports : List Report
  pub all : length reports ≡ count
  pub told : AreTold options part 0 e reports e'
  pub prints : Appends output output' (lines_from 0 reports)
  pub ends : status ≡ status_of reports

-- At most `count` connections were made or tried, and the front of their lines was printed.
pub record PrintsFront (options : Options) (part : Part) (e e' : EndpointState) (count : ℕ) (output output' : Option (List ℕ)) :
    Type 0 where
  pub reports : List Report
  pub few : length reports ≤ count
  pub told : AreTold options part 0 e reports e'
  pub octets : ℕ
  pub prints : Appends output output' (take octets (lines_from 0 reports))

-- The same of a command that listens and prints its port first: the one that was asked for, unless that was 0.
abbrev pub IsPort : ℕ → ℕ → Type 0
IsPort asked port = (asked ≡ 0) ⊎ (port ≡ asked)

pub record PrintsPort (options : Options) (asked count : ℕ) (output output' : Option (List ℕ)) (status : Status) : Type 0 where
  pub port : ℕ
  pub is_port : IsPort asked port
  pub last : EndpointState
  pub reports : List Report
  pub all : length reports ≡ count
  pub told : AreTold options (Serves shared_region) 0 listening reports last
  pub prints : Appends output output' (port_line port ++ lines_from 0 reports)
  pub ends : status ≡ status_of reports

pub record PrintsPortFront (options : Options) (asked count : ℕ) (output output' : Option (List ℕ)) : Type 0 where
  pub port : ℕ
  pub is_port : IsPort asked port
  pub last : EndpointState
  pub reports : List Report
  pub few : length reports ≤ count
  pub told : AreTold options (Serves shared_region) 0 listening reports last
  pub octets : ℕ
  pub prints : Appends output output' (take octets (port_line port ++ lines_from 0 reports))

-- The same of a command whose status follows also from that of another process.
pub record PrintsBeside (options : Options) (part : Part) (e : EndpointState) (count : ℕ) (output output' : Option (List ℕ)) (status : Status) :
    Type 0 where
  pub last : EndpointState
  pub own : Status
  pub other : Status
  pub prints : Prints options part e last count output output' own
  pub ends : status ≡ with own other
