-- The lines of one more connection, past those that were printed.
use Rattle.std.proofs.Common.{◌≡◌, ℕ, ◌+◌, ◌<◌, List, [], ◌∷◌, ◌++◌, Option, length, take, refl, sym, inr, ◌∙◌, ap}
use Rattle.std.proofs.Common.{arith, append_assoc, append-nil, length-append, zero-add}
use Rattle.std.proofs.Math.Seq.{take-append-add}
use Rattle.std.specs.Io.KnownBytes.{Appends}
use Rattle.std.proofs.KnownBytes.{Appends-trans, Appends-nil}
use Rattle.iw_output.specs.declared.status.Status.{Status}
use Rattle.iw_output.specs.declared.status.Status.TheVariants.{Completed, Failed, Refused}
use Rattle.iw_output.specs.Status.{with}
use Rattle.iw_endpoint.specs.Endpoint.{EndpointState}
use Rattle.iw_links.specs.declared.report.Report.{Report}
use Rattle.iw_links.specs.Exchange.{Part, Serves, plan_for, listening, shared_region}
use Rattle.iw_commands.specs.declared.options.Options.{Options}
use Rattle.iw_commands.specs.Lines.{lines, lines_from}
use Rattle.iw_commands.specs.Port.{port_line}
use Rattle.iw_commands.specs.Printed.{AreTold, IsTold, IsPort, terms_at, Prints, PrintsFront, PrintsPort, PrintsPortFront}
use Rattle.iw_commands.specs.Status.{report_status, status_of}

lines_from-more : (n : ℕ) (os : List Report) (o : Report)
    → lines_from n (os ++ o ∷ []) ≡ lines_from n os ++ lines (n + length os) o
lines_from-more n [] o = append-nil (lines n o) ∙ ap (λ k. lines k o) (omega arith)
lines_from-more n (x ∷ os) o =
    let rest = lines_from-more (1 + n) os o in
    let place : 1 + n + length os ≡ n + length (x ∷ os) = omega arith in
    ap (λ t. lines n x ++ t) rest ∙ sym (append_assoc (lines n x) (lines_from (1 + n) os) _)
    ∙ ap (λ k. (lines n x ++ lines_from (1 + n) os) ++ lines k o) place

with-assoc : (a b c : Status) → with (with a b) c ≡ with a (with b c)
with-assoc Completed b c = refl
with-assoc Failed b c = refl
with-assoc Refused b c = refl

with-completed : (a : Status) → with a Completed ≡ a
with-completed Completed = refl
with-completed Failed = refl
with-completed Refused = refl

status_of-more : (os : List Report) (o : Report)
    → status_of (os ++ o ∷ []) ≡ with (status_of os) (report_status o)
status_of-more [] o = with-completed (report_status o)
status_of-more (x ∷ os) o =
    ap (with (report_status x)) (status_of-more os o)
    ∙ sym (with-assoc (report_status x) (status_of os) (report_status o))

at-stream : (options : Options) (part : Part) (j k : ℕ) (e e' : EndpointState) (o : Report) → j ≡ k
    → IsTold (plan_for (terms_at options j) part) e e' o → IsTold (plan_for (terms_at options k) part) e e' o
at-stream options part j k e e' o is told = rw is at told

-- one more connection
told-more : (options : Options) (part : Part) (n : ℕ) (e m e' : EndpointState) (os : List Report) (o : Report)
    → AreTold options part n e os m → IsTold (plan_for (terms_at options (n + length os)) part) m e' o
    → AreTold options part n e (os ++ o ∷ []) e'
told-more options part n e m e' [] o before more =
    (e', rw (← before) (at-stream options part (n + 0) n m e' o (omega arith) more), refl)
told-more options part n e m e' (x ∷ os) o before more =
    let place : n + length (x ∷ os) ≡ 1 + n + length os = omega arith in
    (before.0, before.1, told-more options part (1 + n) before.0 m e' os o before.2 (rw place at more))

pub nothing_yet : (options : Options) (part : Part) (e : EndpointState) (output : Option (List ℕ)) → Prints options part e e 0 output output Completed
nothing_yet options part e output = record { reports = []; all = refl; told = refl; prints = Appends-nil output; ends = refl }

pub nothing_printed : (options : Options) (part : Part) (e : EndpointState) (count : ℕ) (output : Option (List ℕ))
    → PrintsFront options part e e count output output
nothing_printed options part e count output =
    record { reports = []; few = omega arith; told = refl; octets = 0; prints = Appends-nil output }

-- one more connection
pub prints_on : (options : Options) (part : Part) (e m e' : EndpointState) (count : ℕ) (output between after : Option (List ℕ)) (status : Status) (o : Report)
    → Prints options part e m count output between status
    → IsTold (plan_for (terms_at options count) part) m e' o → Appends between after (lines count o)
    → Prints options part e e' (count + 1) output after (with status (report_status o))
prints_on options part e m e' count output between after status o before made more = record {
  reports = before.reports ++ o ∷ [];
  all = omega (arith, before.all, length-append before.reports (o ∷ []));
  told = told-more options part 0 e m e' before.reports o before.told (rw (before.all, zero-add) made);
  prints = rw (lines_from-more 0 before.reports o, before.all, zero-add) (Appends-trans _ _ _ _ _ before.prints more);
  ends = rw before.ends (sym (status_of-more before.reports o));
}

-- one more connection, of whose lines the front was printed
pub stops_at : (options : Options) (part : Part) (e m e' : EndpointState) (count most : ℕ) (output between after : Option (List ℕ)) (status : Status) (o : Report) (n : ℕ)
    → Prints options part e m count output between status → count < most
    → IsTold (plan_for (terms_at options count) part) m e' o → Appends between after (take n (lines count o))
    → PrintsFront options part e e' most output after
stops_at options part e m e' count most output between after status o n before few made more = record {
  reports = before.reports ++ o ∷ [];
  few = omega (arith, before.all, length-append before.reports (o ∷ []));
  told = told-more options part 0 e m e' before.reports o before.told (rw (before.all, zero-add) made);
  octets = length (lines_from 0 before.reports) + n;
  prints =
      let cut = take-append-add (lines_from 0 before.reports) (lines count o) n in
      rw (lines_from-more 0 before.reports o, before.all, zero-add, cut) (Appends-trans _ _ _ _ _ before.prints more);
}

-- ---- behind the line of the port

pub prints_port : (options : Options) (asked port count : ℕ) (e' : EndpointState) (output between after : Option (List ℕ)) (status : Status)
    → IsPort asked port → Appends output between (port_line port)
    → Prints options (Serves shared_region) listening e' count between after status → PrintsPort options asked count output after status
prints_port options asked port count e' output between after status is named lines = record {
  port = port;
  is_port = is;
  last = e';
  reports = lines.reports;
  all = lines.all;
  told = lines.told;
  prints = Appends-trans _ _ _ _ _ named lines.prints;
  ends = lines.ends;
}

pub no_port : (options : Options) (asked count : ℕ) (output : Option (List ℕ)) → PrintsPortFront options asked count output output
no_port options asked count output = record {
  port = asked;
  is_port = inr refl;
  last = listening;
  reports = [];
  few = omega arith;
  told = refl;
  octets = 0;
  prints = Appends-nil output;
}

pub port_stops : (options : Options) (asked port count n : ℕ) (output after : Option (List ℕ))
    → IsPort asked port → Appends output after (take n (port_line port)) → PrintsPortFront options asked count output after
port_stops options asked port count n output after is named = record {
  port = port;
  is_port = is;
  last = listening;
  reports = [];
  few = omega arith;
  told = refl;
  octets = n;
  prints = rw (append-nil (port_line port)) named;
}

pub lines_stop : (options : Options) (asked port count : ℕ) (e' : EndpointState) (output between after : Option (List ℕ))
    → IsPort asked port → Appends output between (port_line port)
    → PrintsFront options (Serves shared_region) listening e' count between after → PrintsPortFront options asked count output after
lines_stop options asked port count e' output between after is named front = record {
  port = port;
  is_port = is;
  last = e';
  reports = front.reports;
  few = front.few;
  told = front.told;
  octets = length (port_line port) + front.octets;
  prints =
      let cut = take-append-add (port_line port) (lines_from 0 front.reports) front.octets in
      rw cut (Appends-trans _ _ _ _ _ named front.prints);
}
