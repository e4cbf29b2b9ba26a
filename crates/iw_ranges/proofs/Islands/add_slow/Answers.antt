use Rattle.std.proofs.Common.{◌≡◌, ◌≤◌, ◌<◌, ◌+◌, List, ℕ, length, drop, true, false, sym, ap, subst, ◌∙◌, refl, arith, rules}
use Rattle.iw_ranges.specs.Arrived.{Arrived, Held, is_dropped, window, delivery, delivered, BringsOctets}
use Rattle.iw_ranges.specs.declared.Delivery.TheVariants.{Kept}
use Rattle.iw_ranges.specs.Spans.{add_span, IsFromStart}
use Rattle.iw_ranges.proofs.Adds.{add_from_start}
use Rattle.iw_ranges.specs.Fields.{Fields, fields_of, arrived_in, IsSound}
use Rattle.iw_ranges.proofs.Cells.{come_via, top_reaches}
use Rattle.iw_ranges.proofs.Counts.{AllCame, all_low, all_from, dropped_came, dropped_put}
use Rattle.iw_ranges.proofs.Keeps.{taken_came, sound_put, put_delivers, PutsIn, kept_is, dropped_is, delivered_kept, delivered_dropped, kept_after}
use Rattle.iw_ranges.proofs.Moves.{Shortens, shorter, shorter_sound, shorter_same, sound_same}
use Rattle.iw_ranges.proofs.Islands.add_slow.Given as given
use Rattle.iw_ranges.proofs.Islands.add_slow.Goals as goal

-- all came before
came_kept : (f : Fields) → IsSound f → (a : Arrived) → arrived_in f ≡ a → (place n : ℕ) → place + n ≤ f.floor + window → AllCame f place (place + n) → Kept ≡ delivery a place n
came_kept f ok a e place n near all = kept_is a place n (subst (λ x. is_dropped x place n ≡ false) e (dropped_came f ok place n near all))

came_same : (f : Fields) → IsSound f → (a : Arrived) → arrived_in f ≡ a → (place : ℕ) (octets : List ℕ) → 0 < length octets → place + length octets ≤ f.floor + window
    → AllCame f place (place + length octets) → a ≡ delivered a place octets
came_same f ok a e place octets some near all =
    subst (λ x. x ≡ delivered x place octets) e
    (sym (taken_came f ok place octets some all) ∙ delivered_kept (arrived_in f) place octets (dropped_came f ok place (length octets) near all))

pub returns-then-to-self-clause-answer : goal.returns-then-to-self-clause-answer
returns-then-to-self-clause-answer g c =
    let f : Fields = fields_of c.self.inside in
    came_kept f c.self.invariant.sound c.args.self.now.arrived (ap (λ (h : Held). h.arrived) c.self.view_is) c.args.place (length c.args.octets.now) (omega (arith, c.requires.near, ap (λ (h : Held). h.arrived.floor) c.self.view_is))
    (all_low f c.self.invariant.sound c.args.place (c.args.place + length c.args.octets.now) (omega (arith, c.if-to-self.true, c.self.invariant.sound.missing)))

pub returns-then-to-self-clause-ok : goal.returns-then-to-self-clause-ok
returns-then-to-self-clause-ok g c =
    let f : Fields = fields_of c.self.inside in
    came_same f c.self.invariant.sound c.args.self.now.arrived (ap (λ (h : Held). h.arrived) c.self.view_is) c.args.place c.args.octets.now
    c.requires.some (omega (arith, c.requires.near, ap (λ (h : Held). h.arrived.floor) c.self.view_is))
    (all_low f c.self.invariant.sound c.args.place (c.args.place + length c.args.octets.now) (omega (arith, c.if-to-self.true, c.self.invariant.sound.missing)))

pub returns-then-holds_all-clause-answer : goal.returns-then-holds_all-clause-answer
returns-then-holds_all-clause-answer g c =
    let f : Fields = fields_of c.self.inside in
    came_kept f c.self.invariant.sound c.args.self.now.arrived (ap (λ (h : Held). h.arrived) c.self.view_is) c.args.place (length c.args.octets.now) (omega (arith, c.requires.near, ap (λ (h : Held). h.arrived.floor) c.self.view_is))
    (all_from f c.self.invariant.sound c.args.place (c.args.place + c.saturating_sub-before.result) (c.args.place + length c.args.octets.now)
    (omega (arith, c.saturating_sub-before.ensures, c.self.invariant.sound.missing)) c.if-holds_all.ensures)

pub returns-then-holds_all-clause-ok : goal.returns-then-holds_all-clause-ok
returns-then-holds_all-clause-ok g c =
    let f : Fields = fields_of c.self.inside in
    came_same f c.self.invariant.sound c.args.self.now.arrived (ap (λ (h : Held). h.arrived) c.self.view_is) c.args.place c.args.octets.now
    c.requires.some (omega (arith, c.requires.near, ap (λ (h : Held). h.arrived.floor) c.self.view_is))
    (all_from f c.self.invariant.sound c.args.place (c.args.place + c.saturating_sub-before.result) (c.args.place + length c.args.octets.now)
    (omega (arith, c.saturating_sub-before.ensures, c.self.invariant.sound.missing)) c.if-holds_all.ensures)

-- one island too many
many : (g : given.Over) (c : goal.Then-is_one_too_many g) → is_dropped c.args.self.now.arrived c.args.place (length c.args.octets.now) ≡ true
many g c =
    let f : Fields = fields_of c.self.inside in
    let n = length c.args.octets.now in
    let some : 0 < n = c.requires.some in
    subst (λ (h : Held). is_dropped h.arrived c.args.place n ≡ true) c.self.view_is
    (dropped_put f c.self.invariant.sound c.args.place n (c.args.place + c.saturating_sub-before.result)
    (omega (arith, c.saturating_sub-before.ensures, c.self.invariant.sound.missing)) (omega (arith, c.if-to-self.false, c.self.invariant.sound.missing))
    (omega (arith, c.requires.near, ap (λ (h : Held). h.arrived.floor) c.self.view_is)) some c.if-is_one_too_many.ensures)

pub returns-then-is_one_too_many-clause-answer : goal.returns-then-is_one_too_many-clause-answer
returns-then-is_one_too_many-clause-answer g c = dropped_is c.args.self.now.arrived c.args.place (length c.args.octets.now) (many g c)

pub returns-then-is_one_too_many-clause-ok : goal.returns-then-is_one_too_many-clause-ok
returns-then-is_one_too_many-clause-ok g c = delivered_dropped c.args.self.now.arrived c.args.place c.args.octets.now (many g c)

-- taken in, or out of memory
pub returns-in_err-put-clause-memory : goal.returns-in_err-put-clause-memory
returns-in_err-put-clause-memory g c =
    let f : Fields = fields_of c.self.inside in
    let e = ap (λ (h : Held). h.arrived) c.self.view_is in
    let a = c.args.self.now.arrived in
    let n = length c.args.octets.now in
    let from = c.args.place + c.saturating_sub-before.result in
    let lacking = c.if-holds_all.ensures in
    let brings : BringsOctets a c.args.place n = (
      sym (kept_is a c.args.place n (kept_after f c.self.invariant.sound a e c.args.place n from
          (omega (arith, c.saturating_sub-before.ensures, c.self.invariant.sound.missing)) (omega (arith, c.if-to-self.false, c.self.invariant.sound.missing))
          (omega (arith, c.requires.near, ap (λ (h : Held). h.arrived.floor) c.self.view_is)) c.requires.some c.if-is_one_too_many.ensures)),
      (lacking.0, omega (arith, lacking.1), lacking.2, come_via f c.self.invariant.sound a e lacking.0 ∙ lacking.3),
    ) in
    search (rules, brings)

-- where they belong
pub invariant_of-self-2 : goal.invariant_of-self-2
invariant_of-self-2 g c =
    let start : Fields = fields_of c.self.inside in
    let f : Fields = shorter start c.shorten.new.octets.items c.shorten.new.base in
    let cut : Shortens start c.shorten.new.octets.items c.shorten.new.base = record {
      octets = c.shorten.ensures.octets;
      len = omega (arith, c.shorten.ensures.len, c.shorten.new.octets.ok.0, c.self.inside.octets.ok.0);
      low = c.shorten.ensures.low;
      high = c.shorten.ensures.high;
    } in
    let sound : IsSound f = shorter_sound start c.self.invariant.sound _ _ cut in
    let n = length c.args.octets.now in
    let from = c.args.place + c.saturating_sub-before.result in
    let some : 0 < n = c.requires.some in
    let end : from + length c.split_at.result.1.now ≡ c.args.place + n = omega (arith, c.split_at.ensures.back_len) in
    let spans : c.put.new.spans.items ≡ add_span from (c.args.place + n) f.spans = c.in_ok-put.ensures.spans ∙ ap (λ t. add_span from t f.spans) end in
    let after : Fields = record { base = f.base; floor = f.floor; missing = c.end_of_first-self-inside.result; end = c.max-self-inside.result; octets = c.put.new.buffer.items; spans = c.put.new.spans.items; gone = f.gone } in
    let puts : PutsIn f after from (c.args.place + n) c.split_at.result.1.now = record {
      base = refl;
      floor = refl;
      missing = c.end_of_first-self-inside.ensures;
      gone = refl;
      spans = spans;
      end = sym end;
      last = c.max-self-inside.ensures;
      len = omega (arith, c.in_ok-put.ensures.len, end, c.put.new.buffer.ok.0, c.shorten.new.octets.ok.0);
      written = c.in_ok-put.ensures.octets;
    } in
    record {
      sound = sound_put f after sound from (c.args.place + n) c.split_at.result.1.now (omega (arith, some, c.saturating_sub-before.ensures, c.if-to-self.false)) (omega (arith, c.requires.near, ap (λ (h : Held). h.arrived.floor) c.self.view_is)) (omega (arith, c.shorten.ensures.room)) puts c.if-is_one_too_many.ensures;
      idle = λ e. absurd (omega (arith, e, c.max-self-inside.ensures, c.if-to-self.false, c.self.invariant.sound.missing, c.self.invariant.sound.reached));
      most = omega (arith, c.put.ensures.memory, c.shorten.ensures.memory, c.self.invariant.most);
    }

pub returns-clause-answer : goal.returns-clause-answer
returns-clause-answer g c =
    let f : Fields = fields_of c.self.inside in
    let n = length c.args.octets.now in
    let from = c.args.place + c.saturating_sub-before.result in
    let some : 0 < n = c.requires.some in
    let end : from + length c.split_at.result.1.now ≡ c.args.place + n = omega (arith, c.split_at.ensures.back_len) in
    kept_is c.args.self.now.arrived c.args.place n
    (kept_after f c.self.invariant.sound c.args.self.now.arrived (ap (λ (h : Held). h.arrived) c.self.view_is) c.args.place n from (omega (arith, c.saturating_sub-before.ensures, c.self.invariant.sound.missing)) (omega (arith, c.if-to-self.false, c.self.invariant.sound.missing)) (omega (arith, c.requires.near, ap (λ (h : Held). h.arrived.floor) c.self.view_is)) some c.if-is_one_too_many.ensures)

pub returns-clause-ok : goal.returns-clause-ok
returns-clause-ok g c =
    let start : Fields = fields_of c.self.inside in
    let f : Fields = shorter start c.shorten.new.octets.items c.shorten.new.base in
    let cut : Shortens start c.shorten.new.octets.items c.shorten.new.base = record {
      octets = c.shorten.ensures.octets;
      len = omega (arith, c.shorten.ensures.len, c.shorten.new.octets.ok.0, c.self.inside.octets.ok.0);
      low = c.shorten.ensures.low;
      high = c.shorten.ensures.high;
    } in
    let sound : IsSound f = shorter_sound start c.self.invariant.sound _ _ cut in
    let same : arrived_in f ≡ c.args.self.now.arrived =
    shorter_same start c.self.invariant.sound _ _ cut ∙ ap (λ (h : Held). h.arrived) c.self.view_is in
    let n = length c.args.octets.now in
    let from = c.args.place + c.saturating_sub-before.result in
    let some : 0 < n = c.requires.some in
    let end : from + length c.split_at.result.1.now ≡ c.args.place + n = omega (arith, c.split_at.ensures.back_len) in
    let spans : c.put.new.spans.items ≡ add_span from (c.args.place + n) f.spans = c.in_ok-put.ensures.spans ∙ ap (λ t. add_span from t f.spans) end in
    let after : Fields = record { base = f.base; floor = f.floor; missing = c.end_of_first-self-inside.result; end = c.max-self-inside.result; octets = c.put.new.buffer.items; spans = c.put.new.spans.items; gone = f.gone } in
    let puts : PutsIn f after from (c.args.place + n) c.split_at.result.1.now = record {
      base = refl;
      floor = refl;
      missing = c.end_of_first-self-inside.ensures;
      gone = refl;
      spans = spans;
      end = sym end;
      last = c.max-self-inside.ensures;
      len = omega (arith, c.in_ok-put.ensures.len, end, c.put.new.buffer.ok.0, c.shorten.new.octets.ok.0);
      written = c.in_ok-put.ensures.octets;
    } in
    put_delivers f after sound c.args.self.now.arrived same c.args.place from c.args.octets.now c.split_at.result.1.now
    (omega (arith, c.if-to-self.false, c.self.invariant.sound.missing)) some (omega (arith, c.saturating_sub-before.ensures, c.self.invariant.sound.missing)) (c.split_at.ensures.back ∙ ap (λ k. drop k c.args.octets.now) (omega (arith, c.saturating_sub-before.ensures, c.self.invariant.sound.missing))) (omega (arith, c.requires.near, ap (λ (h : Held). h.arrived.floor) c.self.view_is)) c.if-is_one_too_many.ensures puts

pub end_of_first-self-inside-requires : goal.end_of_first-self-inside-requires
end_of_first-self-inside-requires g c =
    let f : Fields = fields_of c.self.inside in
    let n = length c.args.octets.now in
    let from = c.args.place + c.saturating_sub-before.result in
    let some : 0 < n = c.requires.some in
    let end : from + length c.split_at.result.1.now ≡ c.args.place + n = omega (arith, c.split_at.ensures.back_len) in
    subst IsFromStart (sym c.in_ok-put.ensures.spans)
    (add_from_start from (from + length c.split_at.result.1.now) f.spans (omega (arith, end, some, c.saturating_sub-before.ensures, c.if-to-self.false)) c.self.invariant.sound.order)

pub overflow_add-to : goal.overflow_add-to
overflow_add-to g c = omega (arith, c.requires.near, ap (λ (h : Held). h.arrived.floor) c.self.view_is, c.self.invariant.sound.low)

-- what stood before the in-order point was let go, and that is all
pub invariant_of-self : goal.invariant_of-self
invariant_of-self g c =
    let start : Fields = fields_of c.self.inside in
    let f : Fields = shorter start c.shorten.new.octets.items c.shorten.new.base in
    let cut : Shortens start c.shorten.new.octets.items c.shorten.new.base = record {
      octets = c.shorten.ensures.octets;
      len = omega (arith, c.shorten.ensures.len, c.shorten.new.octets.ok.0, c.self.inside.octets.ok.0);
      low = c.shorten.ensures.low;
      high = c.shorten.ensures.high;
    } in
    let sound : IsSound f = shorter_sound start c.self.invariant.sound _ _ cut in
    record {
      sound = sound_same f _ _ c.in_err-put.ensures.err_octets c.in_err-put.ensures.err_spans sound;
      idle = λ e. omega (arith, c.in_err-put.ensures.err_memory, c.shorten.ensures.memory, c.self.invariant.idle e);
      most = omega (arith, c.put.ensures.memory, c.shorten.ensures.memory, c.self.invariant.most);
    }

pub returns-in_err-put-clause-err : goal.returns-in_err-put-clause-err
returns-in_err-put-clause-err g c =
    let start : Fields = fields_of c.self.inside in
    let f : Fields = shorter start c.shorten.new.octets.items c.shorten.new.base in
    let cut : Shortens start c.shorten.new.octets.items c.shorten.new.base = record {
      octets = c.shorten.ensures.octets;
      len = omega (arith, c.shorten.ensures.len, c.shorten.new.octets.ok.0, c.self.inside.octets.ok.0);
      low = c.shorten.ensures.low;
      high = c.shorten.ensures.high;
    } in
    let sound : IsSound f = shorter_sound start c.self.invariant.sound _ _ cut in
    let same : arrived_in f ≡ c.args.self.now.arrived =
    shorter_same start c.self.invariant.sound _ _ cut ∙ ap (λ (h : Held). h.arrived) c.self.view_is in
    search (rules, same)

pub shorten-requires-clause-high : goal.shorten-requires-clause-high
shorten-requires-clause-high g c =
    let f : Fields = fields_of c.self.inside in
    omega (arith, c.self.invariant.sound.reached, top_reaches f c.self.invariant.sound)

pub shorten-requires-clause-within : goal.shorten-requires-clause-within
shorten-requires-clause-within g c = omega (arith, c.self.invariant.sound.stand, c.self.inside.octets.ok.0)

pub put-requires-clause-within : goal.put-requires-clause-within
put-requires-clause-within g c =
    let start : Fields = fields_of c.self.inside in
    let f : Fields = shorter start c.shorten.new.octets.items c.shorten.new.base in
    let cut : Shortens start c.shorten.new.octets.items c.shorten.new.base = record {
      octets = c.shorten.ensures.octets;
      len = omega (arith, c.shorten.ensures.len, c.shorten.new.octets.ok.0, c.self.inside.octets.ok.0);
      low = c.shorten.ensures.low;
      high = c.shorten.ensures.high;
    } in
    let sound : IsSound f = shorter_sound start c.self.invariant.sound _ _ cut in
    λ p t. omega (arith, sound.within p t, sound.stand, c.shorten.new.octets.ok.0)
