use Rattle.std.proofs.Common.{◌≡◌, ℕ, subst, arith, inl, inr}
use Rattle.std.proofs.lemmas.Bool.{cases_lt}
use Rattle.iw_locate.specs.Free.{Scene, scene_of, EndsBefore, IsMarkerSeen, PointsTo}
use Rattle.iw_locate.proofs.Open.{pointer_seen, not_open_before, not_seen_missing}
use Rattle.iw_locate.proofs.Lowest.{points_by}
use Rattle.iw_locate.proofs.Told.{pointed_nowhere, not_open_front}
use Rattle.iw_locate.proofs.locator.Locator.points_nowhere_else.Goals as goal

pub markers-init : goal.markers-init
markers-init g c =
    let v : Scene g.row.T.Denot = scene_of c.args.self.now.layout c.args.self.now.base c.args.islands.now.arrived c.args.judged.now.records in
    let place = c.round_up-place.ensures in record {
      marker = place.marker;
      past = place.low;
      none = λ p s lt seen points open_. not_open_before v c.requires.can c.requires.markers p s seen.marker (omega (arith, lt, seen.marker, place.marker, place.near, c.requires.point)) points open_;
    }

pub markers-preserved : goal.markers-preserved
markers-preserved g c =
    let v : Scene g.row.T.Denot = scene_of c.args.self.now.layout c.args.self.now.base c.args.islands.now.arrived c.args.judged.now.records in
    let place = c.markers.place in record {
      marker = omega (arith, c.markers.invariant.marker);
      past = omega (arith, c.markers.invariant.past);
      none = λ p s lt seen points open_.
          elim (cases_lt p place) [
            | inl before ↦ c.markers.invariant.none p s before seen points open_
            | inr from ↦
                let same : p ≡ place = omega (arith, seen.marker, lt, from, c.markers.invariant.marker) in
                let here = subst (IsMarkerSeen v) same seen in
                let value = pointer_seen v c.requires.can c.requires.markers place c.pointer-back.result (omega (arith, c.markers.invariant.past, c.requires.point)) c.pointer-back.ensures.value here in
                let by = points_by v place s c.pointer-back.result value (subst (λ x. PointsTo v x s) same points) in
                not_open_front v c.requires.can c.requires.markers c.start_past-front.result s (subst (λ x. EndsBefore x c.start_past-front.result) c.requires.point c.start_past-front.ensures.ends)
                (c.if-points_past.ensures s by) open_
          ];
    }

pub returns : goal.returns
returns g c =
    let v : Scene g.row.T.Denot = scene_of c.args.self.now.layout c.args.self.now.base c.args.islands.now.arrived c.args.judged.now.records in
    λ test. pointed_nowhere v c.requires.can c.requires.markers c.requires.none (λ p s seen points open_.
    elim (cases_lt p c.markers.place) [
      | inl before ↦ c.markers.invariant.none p s before seen points open_
      | inr far ↦ not_seen_missing v p (c.requires.reach p (omega (arith, far, c.markers-test.false))) seen
    ])
