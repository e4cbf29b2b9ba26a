-- A record of the frame that was answered is added.
use Rattle.std.proofs.Common.{◌≡◌, ℕ, Bool, false, cond, ◌+◌, ◌<◌, ◌≤◌, true, sym, ap, refl, ◌∙◌, subst, arith, inl, inr}
use Rattle.std.specs.Prelude.{◌⊎◌, nat_le}
use Rattle.std.specs.List.{Contains}
use Rattle.iw_fpdu.specs.Places.{span_start}
use Rattle.iw_fpdu.specs.Frame.{frame_end}
use Rattle.iw_fpdu.specs.Reading.{length_at}
use Rattle.std.proofs.lemmas.Bool.{cases_lt}
use Rattle.std.proofs.lemmas.Bool.Decides.{nat_tests}
use Rattle.iw_fpdu.proofs.Octets.{span_low, length_within}
use Rattle.iw_locate.specs.declared.frame.Frame.{Frame}
use Rattle.iw_locate.specs.declared.frame.Next.TheVariants.{Frame as Found}
use Rattle.iw_locate.specs.declared.judged.Record.{Record}
use Rattle.iw_locate.specs.declared.judged.State.{State}
use Rattle.iw_locate.specs.declared.unsearched.Unsearched.{Unsearched}
use Rattle.iw_locate.specs.Records.{from_of, IsClear, IsClearOfPlaced, added}
use Rattle.iw_locate.specs.Free.{Scene, octet_of, end_of, EndsBefore, IsFound, IsOpen, IsFree}
use Rattle.iw_locate.specs.Next.{IsNext, frame_at}
use Rattle.iw_locate.specs.Among.{IsWithin}
use Rattle.iw_locate.specs.Unsearched.{Tells, IsTouched, IsFollowed, past_frame}
use Rattle.iw_locate.specs.Keeping.{Keeps, changed, record_of, JudgingKeeps}
use Rattle.iw_locate.proofs.Open.{start_high}
use Rattle.iw_locate.proofs.Holds.{adds_one}
use Rattle.iw_locate.proofs.GivesUp.{only_adds}
use Rattle.iw_locate.proofs.Lowest.{ends_near}

pub early_is : {T : Type 0} (v : Scene T) (f : Frame) → IsNext v (Found f) → f.early ≡ true → (f ≡ frame_at v f.start true) × (v.layout.markers ≡ true) × IsOpen v f.start × ((s : ℕ) → IsFree v s → f.start ≤ s)
early_is v f (inl front) early = absurd (let e = sym early ∙ ap (λ (x : Frame). x.early) front.0 in cc e)
early_is v f (inr free) early = (free.0, free.2.0, free.3.0.open_, free.3.1)

module _ {T : Type 0} (v : Scene T) (u : Unsearched) (f : Frame) (state : State T) (keeps : Keeps v) (is : f ≡ frame_at v f.start true) (m : v.layout.markers ≡ true) (open_ : IsOpen v f.start) where
  r : Record T
  r = record_of f state

  old_or_new : (x : Record T) → Contains (added v.records (record_of f state)) x → Contains v.records x ⊎ (record_of f state ≡ x)
  old_or_new x = (adds_one v.records (record_of f state) x).0

  end_is : f.end ≡ end_of v f.start
  end_is = ap (λ (x : Frame). x.end) is

  span : (s : ℕ) → span_start v.layout.markers s ≡ span_start true s
  span s = ap (λ b. span_start b s) m

  pub adding_keeps : Keeps (changed v v.arrived (added v.records (record_of f state)))
  adding_keeps = record {
    based = keeps.based;
    between = keeps.between;
    marked = λ e. absurd (let g = sym m ∙ e in cc g);
    records = λ x within.
        elim (old_or_new x within) [
          | inl old ↦ keeps.records x old
          | inr same ↦ omega (arith, ap (λ (y : Record T). from_of y) same, open_.past, span f.start)
        ];
    whole = λ x within q low high.
        elim (old_or_new x within) [
          | inl old ↦ keeps.whole x old q low high
          | inr same ↦ open_.whole q (omega (arith, low, ap (λ (y : Record T). from_of y) same, span f.start)) (omega (arith, high, ap (λ (y : Record T). y.end) same, end_is))
        ];
    ends = λ x within.
        elim (old_or_new x within) [
          | inl old ↦ keeps.ends x old
          | inr same ↦ sym (ap (λ (y : Record T). y.end) same) ∙ end_is ∙ (ap (λ b. frame_end b f.start (length_at (octet_of v) f.start)) m ∙ ap (frame_end true f.start) (sym (ap (λ (x : Frame). x.length) is)) ∙ ap (λ (y : Record T). frame_end true y.start y.length) same)
        ];
    released = only_adds v keeps.released (record_of f state);
  }

  more_clear : (start end : ℕ) → IsClear (added v.records (record_of f state)) start end → IsClear v.records start end
  more_clear start end clear x within over = clear x ((adds_one v.records (record_of f state) x).1 (inl within)) over

  more_clear_placed : (start end : ℕ) → IsClearOfPlaced (added v.records (record_of f state)) start end → IsClearOfPlaced v.records start end
  more_clear_placed start end clear x within placed over = clear x ((adds_one v.records (record_of f state) x).1 (inl within)) placed over

  was_open : (s : ℕ) → IsOpen (changed v v.arrived (added v.records (record_of f state))) s → IsOpen v s
  was_open s o = record { start = o.start; whole = o.whole; past = o.past; other = o.other; clear = more_clear s (end_of v s) o.clear }

  -- what is found now was found before, or begins where the frame ends
  was_found : (s : ℕ) → IsFound (changed v v.arrived (added v.records (record_of f state))) s → IsFound v s ⊎ EndsBefore f.end s
  was_found s (inl (p, seen, points)) = inl (inl (p, record { marker = seen.marker; came = seen.came; outside = more_clear_placed p (p + 4) seen.outside }, points))
  was_found s (inr (x, within, ends)) =
      elim (old_or_new x within) [
        | inl old ↦ inl (inr (x, old, ends))
        | inr same ↦ inr (subst (λ e. EndsBefore e s) (sym (ap (λ (y : Record T). y.end) same)) ends)
      ]

  pub adding_tells : Tells v u → IsFollowed u f → Tells (changed v v.arrived (added v.records (record_of f state))) u
  adding_tells tells followed = record {
    free = λ e s free.
        let o = was_open s free.open_ in
        elim (was_found s free.found) [
          | inl found ↦ elim (tells.free m s (record { found = found; open_ = o })) [ inl within ↦ inl within | inr touched ↦ absurd (none_touched_at s touched) ]
          | inr ends ↦ inl (next s o ends)
        ];
    reach = tells.reach;
    octets = tells.octets;
  }
    where
      none_touched_at : (s : ℕ) → IsTouched v u.from u.to s → ⊥
      none_touched_at s (inl (q, within, low, high)) = omega (arith, within.high, followed.none)
      none_touched_at s (inr (q, p, within, seen, points, low, high)) = omega (arith, within.high, followed.none)

      past_end : (s : ℕ) → EndsBefore f.end s → f.end ≤ s
      past_end s (inl at) = omega (arith, at)
      past_end s (inr (marker, at)) = omega (arith, at)

      next : (s : ℕ) → IsOpen v s → EndsBefore f.end s → IsWithin u.low u.high s
      next s o ends = record {
        low = omega (arith, followed.low, past_end s ends, end_is, length_within v.layout.markers f.start (length_at (octet_of v) f.start) open_.start);
        high = followed.next s ends (start_high v.layout.markers s m o.start);
      }

  -- the frame was the lowest, so that none begins before its end
  pub recorded_tells : Tells v u → IsFollowed u f → ((s : ℕ) → IsFree v s → f.start ≤ s) → Tells (changed v v.arrived (added v.records (record_of f state))) (past_frame u f)
  recorded_tells tells followed lowest = go (nat_le u.reach f.end) refl
    where
      length_of : (s : ℕ) → IsFree (changed v v.arrived (added v.records (record_of f state))) s → s < end_of v s
      length_of s free = omega (arith, length_within v.layout.markers s (length_at (octet_of v) s) free.open_.start)

      told : Tells (changed v v.arrived (added v.records (record_of f state))) u
      told = adding_tells tells followed

      begins : (s : ℕ) → IsFree (changed v v.arrived (added v.records (record_of f state))) s → f.start ≤ s
      begins s free =
          elim (was_found s free.found) [
            | inl found ↦ lowest s (record { found = found; open_ = was_open s free.open_ })
            | inr ends ↦ omega (arith, (ends_near f.end s ends).0, end_is, length_within v.layout.markers f.start (length_at (octet_of v) f.start) open_.start)
          ]

      past : (s : ℕ) → IsFree (changed v v.arrived (added v.records (record_of f state))) s → f.end ≤ s
      past s free =
          elim (cases_lt s f.end) [
            | inl under ↦ absurd (free.open_.clear (record_of f state) ((adds_one v.records (record_of f state) (record_of f state)).1 (inr refl)) (omega (arith, begins s free, span_low true f.start, length_within v.layout.markers s (length_at (octet_of v) s) free.open_.start), omega (arith, under, span_low true s)))
            | inr past_it ↦ past_it
          ]

      go : (b : Bool) → nat_le u.reach f.end ≡ b → Tells (changed v v.arrived (added v.records (record_of f state))) (cond b (record u { low = 0; high = 0 }) (record u { low = f.end }))
      go true far = record {
        free = λ e s free. absurd (let none = tells.reach s (grind (arith, nat_tests, past s free)) in let some = free.open_.whole s (span_low v.layout.markers s) (length_of s free) in let x = sym none ∙ some in cc x);
        reach = tells.reach;
        octets = tells.octets;
      }
      go false near = record {
        free = λ e s free.
            elim (told.free e s free) [
              | inl within ↦ inl record { low = past s free; high = within.high }
              | inr touched ↦ inr touched
            ];
        reach = tells.reach;
        octets = tells.octets;
      }

pub judging_keeps : {T : Type 0} → JudgingKeeps T
judging_keeps v u f state keeps tells next early followed =
    let e = early_is v f next early in
    (adding_keeps v u f state keeps e.0 e.1 e.2, adding_tells v u f state keeps e.0 e.1 e.2 tells followed, recorded_tells v u f state keeps e.0 e.1 e.2 tells followed e.3)
