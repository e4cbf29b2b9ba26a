-- What an ended stream hands back.
use Rattle.std.proofs.Common.{◌≡◌, ℕ, ◌≤◌, List, [], ◌∷◌, length, get_or, set, Option, Some, None, refl, sym, ap, ◌∙◌, arith}
use Rattle.std.specs.Prelude.{is_some, unwrap_or}
use Rattle.std.specs.List.{position_or_len}
use Rattle.std.proofs.lemmas.List.{set-get_or}
use Rattle.std.specs.Option.{option_map_or}
use Rattle.std.proofs.lemmas.Option.{none-some}
use Rattle.iw_memory.specs.Table.{Table}
use Rattle.iw_queues.specs.Queue.{handed_from, oldest_in}
use Rattle.iw_untagged.specs.Receiving.{Source, Posted, Pooled, Receiving, HoldsLimits, due_buffer, first_buffer, flushed, without_first}
use Rattle.iw_stream.specs.Stream.{StreamState}
use Rattle.iw_stream.specs.Work.{GiveUp, GiveBack, Rest, handing_back, left_by}

none_left : (n : ℕ) → n ≤ 0 → n ≡ 0
none_left n e = omega arith

-- if no message has a buffer none goes
no_buffer : (s : Source) (turned : ℕ) → first_buffer s ≡ None → turned ≤ length (due_buffer s) → (without_first s ≡ s) × (turned ≡ 0)
no_buffer (Posted []) turned none few = (refl, none_left turned few)
no_buffer (Posted (x ∷ xs)) turned none few = absurd (none-some _ (sym none))
no_buffer (Pooled ps pool) turned none few = (
  ap (λ o. Pooled (set ps (position_or_len is_some ps) o) pool) (sym none) ∙ ap (λ xs. Pooled xs pool) (set-get_or ps (position_or_len is_some ps) None),
  none_left turned (go ps none few),
)
  where
    go : (qs : List (Option (List ℕ))) → get_or qs (position_or_len is_some qs) None ≡ None → turned ≤ length (unwrap_or (get_or qs 0 None) []) → turned ≤ 0
    go [] none few = few
    go (None ∷ qs) none few = few
    go (Some b ∷ qs) none few = absurd (none-some _ (sym none))

pub none_flushed : (r : Receiving) → HoldsLimits r → first_buffer r.source ≡ None → flushed r ≡ r
none_flushed r limits none =
    let is = no_buffer r.source r.turned none limits.turned in
    λ i. record { source = is.0 i; due = r.due; turned = sym is.1 i }

-- no message is left
pub given_back : (table : Table) (s : StreamState) → oldest_in s.queue ≡ None → HoldsLimits s.receiving
    → record s { queue = handed_from s.queue None; receiving = flushed s.receiving } ≡ left_by table s (handing_back s)
given_back table s none limits = go (first_buffer s.receiving.source) refl ∙ ap (λ o. left_by table s (option_map_or GiveUp o (option_map_or GiveBack (first_buffer s.receiving.source) Rest))) (sym none)
  where
    go : (o : Option (List ℕ)) → first_buffer s.receiving.source ≡ o → record s { receiving = flushed s.receiving } ≡ left_by table s (option_map_or GiveBack o Rest)
    go None is = ap (λ r. record s { receiving = r }) (none_flushed s.receiving limits is)
    go (Some buffer) is = refl
