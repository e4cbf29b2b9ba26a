-- A tagged frame, a Write's or a Read Response's: its verdict, and its turn.
use Rattle.std.proofs.Common.{◌≡◌, ℕ, ◌-◌, ◌≤◌, Bool, true, false, List, ◌++◌, length, drop, take, get_or, if◌then◌else◌, Option, Some, None, Ok, Err, refl, sym, ap, ◌∙◌, arith, inl, inr, length-drop}
use Rattle.std.specs.Prelude.{Result, IfOk, IfSome, OnOk}
use Rattle.std.proofs.lemmas.Bool.{cases_lt}
use Rattle.std.proofs.Math.ListN.{get_or-append}
use Rattle.std.proofs.lemmas.List.{drop_at, take-append-le}
use Rattle.std.proofs.lemmas.Option.{none-some, same_Some}
use Rattle.iw_octets.specs.declared.fault.Fault.{Fault}
use Rattle.iw_octets.specs.declared.head.TaggedHead.{TaggedHead}
use Rattle.iw_octets.specs.declared.operation.TaggedOperation.{TaggedOperation}
use Rattle.iw_octets.specs.declared.operation.TaggedOperation.TheVariants as tagged
use Rattle.iw_octets.specs.declared.segment.Segment.TheVariants.{Tagged}
use Rattle.iw_octets.specs.Head.{is_tagged}
use Rattle.iw_octets.specs.Operation.{opcode_of, tagged_operation}
use Rattle.iw_octets.specs.Segment.{read_segment}
use Rattle.iw_memory.specs.declared.peer.Peer.{Peer}
use Rattle.iw_memory.specs.Table.{Table, put}
use Rattle.iw_ranges.specs.Arrived.{Missing, cell_at}
use Rattle.iw_fpdu.specs.declared.layout.Layout.{Layout}
use Rattle.iw_fpdu.specs.Places.{frame_start}
use Rattle.iw_octets.proofs.Front.{read_segment-append, read_segment-long_untagged, read_segment-short_untagged}
use Rattle.iw_rdmap.specs.Judging.{judged_tagged, passed_by, tagged_in}
use Rattle.iw_rdmap.proofs.Tags.{Passes, operation_is, passes, tagged_judged}
use Rattle.iw_reads.specs.declared.reads.Outstanding.{Outstanding}
use Rattle.iw_reads.specs.Outstanding.{sink_fault}
use Rattle.iw_tagged.specs.declared.placing.Placed.{Placed}
use Rattle.iw_tagged.specs.Placing.{placing_fault}
use Rattle.iw_untagged.specs.Receiving.{Receiving}
use Rattle.iw_stream.specs.declared.answer.Step.TheVariants as steps
use Rattle.iw_stream.specs.declared.landing.Landing.{Landing}
use Rattle.iw_stream.specs.Judging.{Standing, fault_or, or_else, as_tagged, is_read_response, is_response, landing_of, place_in, right_of, head_verdict, segment_verdict, receiving_landed, judged_head, may_be_early, landing_in, early_verdict, verdict}
use Rattle.iw_stream.specs.Frames.{Frame, frame_at, header_in, payload_of, placed, segment_in}
use Rattle.iw_stream.specs.Kept.{Keeps}
use Rattle.iw_stream.specs.Starting.{expecting, first_place_in}
use Rattle.iw_stream.specs.Stream.{StreamState}
use Rattle.iw_stream.specs.Work.{next_frame, after_judging, judged_step, table_judged}
use Rattle.iw_stream.proofs.Fronts.{none_there, start_near}
use Rattle.iw_stream.proofs.Heads.{segment_past}
use Rattle.iw_stream.proofs.Keeping.{IsPlacing}

-- ---- the frame that is next
pub next_is : (s : StreamState) (layout : Layout) (base start floor : ℕ) (o : Option Frame) → layout ≡ expecting s.start → base ≡ first_place_in s.start → floor ≡ s.arrived.floor
    → start ≡ frame_start layout.markers (floor - base) → o ≡ frame_at layout s.arrived base start → next_frame s ≡ o
next_is s layout base start floor o l b f at is =
    sym (is ∙ ap (frame_at layout s.arrived base) at ∙ (λ i. frame_at (l i) s.arrived (b i) (frame_start (l i).markers (f i - b i))))

pub none_next : (s : StreamState) (missing floor : ℕ) → Keeps s → cell_at s.arrived missing ≡ Missing → floor ≡ s.arrived.floor → missing ≤ floor → next_frame s ≡ None
none_next s missing floor k gap f low =
    let m : Bool = (expecting s.start).markers in
    let base : ℕ = first_place_in s.start in
    let near = start_near m (s.arrived.floor - base) k.between in
    none_there (expecting s.start) s.arrived base (frame_start m (s.arrived.floor - base)) missing k.started.beyond k.between refl gap (omega (arith, low, f, near.0, k.started.beyond))

-- ---- it is told by the octets at the front
pub tagged_front : (u front : List ℕ) (head : TaggedHead) → (beyond : List ℕ) × (u ≡ front ++ beyond) → Passes front head → Passes u head
tagged_front u front head f p = record {
  payload = p.payload ++ f.0;
  operation = p.operation;
  read = ap read_segment f.1 ∙ read_segment-append front f.0 (Tagged head p.payload) p.read;
  checked = p.checked;
}

pub header_front : (u front : List ℕ) → (beyond : List ℕ) × (u ≡ front ++ beyond) → is_tagged (get_or front 0 0) ≡ true → 14 ≤ length front → take 14 front ≡ header_in u
header_front u front f tagged long =
    let same : is_tagged (get_or u 0 0) ≡ true = ap (λ xs. is_tagged (get_or xs 0 0)) f.1 ∙ ap is_tagged (get_or-append front f.0 0 0 (omega arith)) ∙ tagged in
    sym (take-append-le 14 front f.0 long) ∙ ap (take 14) (sym f.1) ∙ ap (λ b. take (if b then 14 else 18) u) (sym same)

pub tagged_there : (u : List ℕ) (head : TaggedHead) → Passes u head → Some head ≡ tagged_in (read_segment u)
tagged_there u head p = sym (ap tagged_in p.read ∙ ap (passed_by head) p.checked)

pub front_there : (u front : List ℕ) (o : Option TaggedHead) → (beyond : List ℕ) × (u ≡ front ++ beyond) → o ≡ tagged_in (read_segment front) → IfSome o (λ head. Some head ≡ tagged_in (read_segment u))
front_there u front None f e = tt
front_there u front (Some head) f e = tagged_there u head (tagged_front u front head f (passes front head e))

pub payload_past : (u front payload : List ℕ) → (u ≡ front ++ payload) × (length front ≡ 14) → payload ≡ drop 14 u
payload_past u front payload parts = sym (ap (drop 14) parts.0 ∙ drop_at front payload 14 parts.1)

pub tagged_long : (u : List ℕ) (head : TaggedHead) → Passes u head → 14 ≤ length u
tagged_long u head p = (segment_past u (Tagged head p.payload) p.read).long

pub tagged_first : (u : List ℕ) (head : TaggedHead) → Passes u head → is_tagged (get_or u 0 0) ≡ true
tagged_first u head p = go (is_tagged (get_or u 0 0)) refl
  where
    go : (tagged : Bool) → is_tagged (get_or u 0 0) ≡ tagged → tagged ≡ true
    go true e = refl
    go false e = elim (cases_lt (length u) 18) [
      | inl short ↦ absurd (none-some _ (sym (read_segment-short_untagged u short e) ∙ p.read))
      | inr long ↦ absurd (let same = same_Some _ _ (sym (read_segment-long_untagged u long e) ∙ p.read) in let no : ⊥ = cc in no)
    ]

pub tagged_payload : (u : List ℕ) (head : TaggedHead) → Passes u head → payload_of (read_segment u) ≡ drop 14 u
tagged_payload u head p = ap payload_of p.read ∙ (segment_past u (Tagged head p.payload) p.read).payload

-- ---- its verdict
abbrev pub tagged_verdict : Bool → Table → Peer → List Outstanding → TaggedHead → ℕ → Result Landing Fault
tagged_verdict response table peer reads head n =
    fault_or (or_else (if response then sink_fault reads head n else None) (placing_fault table peer head n (right_of response))) (landing_of response (place_in head n))

pub tagged_verdict_is : (at : Standing) (u : List ℕ) (head : TaggedHead) → Passes u head → segment_verdict at u ≡ tagged_verdict (is_response head) at.table at.peer at.reads head (length u - 14)
tagged_verdict_is at u head p =
    ap (λ r. head_verdict at r (length (payload_of (read_segment u)))) (tagged_judged u head (length u) at.asked.next (length at.asked.unanswered) p)
    ∙ ap (head_verdict at (judged_tagged head (Ok p.operation))) (ap length (tagged_payload u head p) ∙ length-drop 14 u)
    ∙ by p.operation (operation_is head p.operation p.checked)
  where
    by : (operation : TaggedOperation) → tagged_operation (opcode_of head.control) ≡ Some operation
        → head_verdict at (judged_tagged head (Ok operation)) (length u - 14) ≡ tagged_verdict (is_response head) at.table at.peer at.reads head (length u - 14)
    by tagged.Write e = ap (λ o. tagged_verdict (is_read_response o) at.table at.peer at.reads head (length u - 14)) (sym e)
    by tagged.ReadResponse e = ap (λ o. tagged_verdict (is_read_response o) at.table at.peer at.reads head (length u - 14)) (sym e)

-- the first check that fails is that of its sink
pub unasked : (response : Bool) (table : Table) (peer : Peer) (reads : List Outstanding) (head : TaggedHead) (n : ℕ) (fault : Fault)
    → Some fault ≡ (if response then sink_fault reads head n else None) → Err fault ≡ tagged_verdict response table peer reads head n
unasked response table peer reads head n fault e =
    ap (λ o. fault_or (or_else o (placing_fault table peer head n (right_of response))) (landing_of response (place_in head n))) e

-- or it is placed, or that of its region fails
pub as_placed : (response : Bool) (table : Table) (peer : Peer) (reads : List Outstanding) (head : TaggedHead) (n : ℕ)
    → None ≡ (if response then sink_fault reads head n else None)
    → as_tagged response (fault_or (placing_fault table peer head n (right_of response)) (place_in head n)) ≡ tagged_verdict response table peer reads head n
as_placed response table peer reads head n e =
    go (placing_fault table peer head n (right_of response)) ∙ ap (λ o. fault_or (or_else o (placing_fault table peer head n (right_of response))) (landing_of response (place_in head n))) e
  where
    go : (o : Option Fault) → as_tagged response (fault_or o (place_in head n)) ≡ fault_or o (landing_of response (place_in head n))
    go None = refl
    go (Some fault) = refl

-- it may be judged before its turn
pub tagged_early : (at : Standing) (u : List ℕ) (head : TaggedHead) → Passes u head → may_be_early (judged_head at u) ≡ true
tagged_early at u head p = ap may_be_early (tagged_judged u head (length u) at.asked.next (length at.asked.unanswered) p) ∙ by p.operation
  where
    by : (operation : TaggedOperation) → may_be_early (judged_tagged head (Ok operation)) ≡ true
    by tagged.Write = refl
    by tagged.ReadResponse = refl

pub lands_early : (at : Standing) (frame : Frame) (head : TaggedHead) (r : Result Landing Fault) → Passes frame.ulpdu head → r ≡ verdict at frame → landing_in r ≡ early_verdict at frame
lands_early at frame head r p e = ap landing_in e ∙ ap (λ b. if b then landing_in (verdict at frame) else None) (sym (tagged_early at frame.ulpdu head p))

-- what a placement leaves, if it was one
pub placed_is : (o : Option Fault) (p q : Placed) → Ok q ≡ fault_or o p → q ≡ p
placed_is None p q e = cc
placed_is (Some fault) p q e = absurd (let no : ⊥ = cc in no)

pub put_there : (r : Result Placed Fault) (o : Option Fault) (p : Placed) (table new : Table) (payload octets : List ℕ) → r ≡ fault_or o p → payload ≡ octets → OnOk r (new ≡ put table p.stag p.to octets)
    → IfOk r (λ at. new ≡ put table at.stag at.to payload)
put_there (Err fault) o p table new payload octets is same done = tt
put_there (Ok x) (Some fault) p table new payload octets is same done = absurd (let no : ⊥ = cc in no)
put_there (Ok x) None p table new payload octets is same done = let at : x ≡ p = cc in done ∙ (λ i. put table (sym at i).stag (sym at i).to (sym same i))

-- ---- if it was placed
pub is_placing : (response : Bool) (at : Placed) → IsPlacing (landing_of response at)
is_placing true at = tt
is_placing false at = tt

pub leaves_receiving : (response : Bool) (at : Placed) (r : Receiving) (payload : List ℕ) → r ≡ receiving_landed r payload (landing_of response at)
leaves_receiving true at r payload = refl
leaves_receiving false at r payload = refl

pub step_placed : (response : Bool) (at : Placed) → steps.Placed (right_of response) at.stag at.to at.n ≡ judged_step (Ok (landing_of response at))
step_placed true at = refl
step_placed false at = refl

pub stream_placed : (response : Bool) (at : Placed) (s : StreamState) (frame : Frame) → record s { front = Some (placed frame) } ≡ after_judging s frame (Ok (landing_of response at))
stream_placed true at s frame = refl
stream_placed false at s frame = refl

pub table_placed : (response : Bool) (at : Placed) (table : Table) (frame : Frame) → put table at.stag at.to (payload_of (segment_in frame)) ≡ table_judged table frame (Ok (landing_of response at))
table_placed true at table frame = refl
table_placed false at table frame = refl
