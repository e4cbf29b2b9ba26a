-- Where nothing was judged yet, and what is kept lets frames be looked for.
use Rattle.std.proofs.Common.{◌≡◌, ℕ, ◌+◌, ◌^◌, ◌<◌, ◌≤◌, List, [], ◌∷◌, false, sym, ◌-◌, ◌∙◌, subst, arith, inl, inr, ap}
use Rattle.std.proofs.lemmas.Bool.{cases_lt}
use Rattle.std.specs.Prelude.{not}
use Rattle.std.specs.List.{Contains}
use Rattle.iw_ranges.specs.Arrived.{cell_at, has_come, is_missing}
use Rattle.iw_fpdu.specs.Reading.{length_at}
use Rattle.iw_fpdu.specs.Found.{octet_of as octet_held}
use Rattle.iw_fpdu.proofs.Octets.{span_low, length_within}
use Rattle.iw_locate.specs.Free.{Scene, scene_of, octet_of, IsOpen}
use Rattle.iw_locate.specs.Keeping.{KeptCanLocate, NoRecordKeeps, EverythingTells, NothingTells, StartUpTells}

pub kept_can_locate : {T : Type 0} → KeptCanLocate T
kept_can_locate v keeps low turn = record { based = keeps.based; low = low; between = keeps.between; marked = keeps.marked; records = keeps.records; turn = turn; released = keeps.released }

pub none_in : {X : Type 0} (xs : List X) → xs ≡ [] → (x : X) → Contains xs x → ⊥
none_in [] e x (k, lt, is) = omega arith
none_in (y ∷ xs) e x within = absurd (cc e)

pub no_record_keeps : {T : Type 0} → NoRecordKeeps T
no_record_keeps v based between none held = record {
  based = based;
  between = between;
  marked = λ e. none;
  records = λ r within. absurd (none_in v.records none r within);
  whole = λ r within. absurd (none_in v.records none r within);
  ends = λ r within. absurd (none_in v.records none r within);
  released = λ q low gone. absurd (held q low gone);
}

pub everything_tells : {T : Type 0} → EverythingTells T
everything_tells {T} v based low limits few = record {
  free = λ m s free. inl (record { low = omega arith; high = near s free.open_ });
  reach = missing;
  octets = few;
}
  where
    missing : (q : ℕ) → 2 ^ 63 ≤ q → has_come v.arrived (v.base + q) ≡ false
    missing q far = ap (λ c. not (is_missing c)) (limits.octets (v.base + q) (omega (arith, far, low)))

    near : (s : ℕ) → IsOpen v s → s < 2 ^ 63
    near s o =
        elim (cases_lt s (2 ^ 63)) [
          | inl low ↦ low
          | inr far ↦
              let long = length_within v.layout.markers s (length_at (octet_of v) s) o.start in
              absurd (let e = sym (missing s far) ∙ o.whole s (span_low v.layout.markers s) (omega (arith, long)) in cc e)
        ]

-- what came lies before the place from which on nothing came
pub open_reached : {T : Type 0} (v : Scene T) (reach : ℕ) → ((q : ℕ) → reach ≤ q → has_come v.arrived (v.base + q) ≡ false) → (s : ℕ) → IsOpen v s → s < reach
open_reached v reach missing s o =
    elim (cases_lt s reach) [
      | inl near ↦ near
      | inr far ↦
          let long = length_within v.layout.markers s (length_at (octet_of v) s) o.start in
          absurd (let e = sym (missing s far) ∙ o.whole s (span_low v.layout.markers s) (omega (arith, long)) in cc e)
    ]

pub nothing_tells : {T : Type 0} → NothingTells T
nothing_tells v none = record {
  free = λ m s free. absurd (omega (arith, open_reached v 0 missing s free.open_));
  reach = missing;
  octets = λ q. subst (λ c. octet_held c < 256) (sym (none q)) (omega arith);
}
  where
    missing : (q : ℕ) → 0 ≤ q → has_come v.arrived (v.base + q) ≡ false
    missing q far = ap (λ c. not (is_missing c)) (none q)

pub start_up_tells : {T : Type 0} → StartUpTells T
start_up_tells v u layout base zero_ tells = record {
  free = λ m s free. inl (record { low = omega arith; high = open_reached (scene_of layout base v.arrived v.records) (u.reach - base) missing s free.open_ });
  reach = missing;
  octets = λ q. subst (λ p. octet_held (cell_at v.arrived p) < 256) (at (base + q)) (tells.octets (base + q));
}
  where
    at : (p : ℕ) → v.base + p ≡ p
    at p = omega (arith, zero_)

    missing : (q : ℕ) → u.reach - base ≤ q → has_come v.arrived (base + q) ≡ false
    missing q far = subst (λ p. has_come v.arrived p ≡ false) (at (base + q)) (tells.reach (base + q) (omega (arith, far)))
