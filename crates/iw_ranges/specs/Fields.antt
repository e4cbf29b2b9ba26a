-- What the fields of an `Islands` mean, and what they keep.
use Rattle.std.specs.Prelude.{ℕ, ◌≡◌, ◌≤◌, ◌<◌, ◌+◌, ◌-◌, ◌^◌, true, List, length, drop, if◌then◌else◌, slice_index, vec_capacity}
use Rattle.std.specs.VecDeque.{deque_len, deque_capacity}
use Rattle.iw_ranges.specs.Spans.{in_spans, IsFromStart, AreSpans, EndPast, first_end}
use Rattle.iw_ranges.specs.Arrived.{Cell, Missing, Here, Gone, Arrived, Held, drawn, window, max_idle, max_held}
use Rattle.iw_ranges.specs.declared.spans.Span.{Span}
use Rattle.iw_ranges.specs.declared.Islands.TheInside.{Inside}

-- the fields, whatever the allocator
pub record Fields : Type 0 where
  pub base : ℕ
  pub floor : ℕ
  pub missing : ℕ
  pub end : ℕ
  pub octets : List ℕ
  pub spans : List Span
  pub gone : List Span

abbrev pub fields_of : {A : Type 0} → Inside A → Fields
fields_of {A} a = record { base = a.base; floor = a.floor; missing = a.missing; end = a.end; octets = a.octets.items; spans = a.spans.items; gone = a.gone.items }

unfoldable pub cell_of : Fields → ℕ → Cell
cell_of f p = if in_spans p f.spans then (if in_spans p f.gone then Gone else Here (slice_index f.octets (p - f.base))) else Missing

abbrev pub arrived_in : Fields → Arrived
arrived_in f = drawn f.floor f.end (cell_of f)

abbrev pub held_by : {A : Type 0} → Inside A → Held
held_by {A} a = record { arrived = arrived_in (fields_of a); room = deque_capacity a.gone - deque_len a.gone; memory = vec_capacity a.octets; ahead = drop (a.end - a.base) a.octets.items }

pub record IsSound (f : Fields) : Type 0 where
  pub base : f.base ≤ f.floor
  pub order : IsFromStart f.spans
  pub missing : f.missing ≡ first_end f.spans
  pub reached : f.floor ≤ first_end f.spans
  pub within : (p : ℕ) → in_spans p f.spans ≡ true → p < f.end
  pub top : 0 < f.end → in_spans (f.end - 1) f.spans ≡ true
  pub windowed : f.end ≤ f.floor + window
  pub stand : f.end ≤ f.base + length f.octets
  pub held : length f.octets ≤ max_held
  pub few : length f.spans ≤ 1025
  pub low : f.floor ≤ 2 ^ 63
  pub gone_order : AreSpans f.gone
  pub gone_came : (p : ℕ) → in_spans p f.gone ≡ true → in_spans p f.spans ≡ true
  -- what was given up and had its turn is not kept
  pub gone_past : EndPast f.floor f.gone

-- and with it the memory of the buffer
pub record IsKept (f : Fields) (memory : ℕ) : Type 0 where
  pub sound : IsSound f
  pub idle : f.floor ≡ f.end → memory ≤ max_idle
  pub most : memory ≤ max_held
