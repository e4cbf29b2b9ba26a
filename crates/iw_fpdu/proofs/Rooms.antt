-- The room for what is still to be laid.
use Rattle.std.proofs.Common.{◌≡◌, ℕ, ◌+◌, ◌-◌, ◌%◌, ◌^◌, ◌≤◌, ◌<◌, Bool, sym, ap, ◌∙◌, subst, arith}
use Rattle.iw_fpdu.specs.Places.{place_after, data_place, data_index}
use Rattle.iw_fpdu.specs.Laying.{HasRoom, IsEdge}
use Rattle.iw_fpdu.specs.Frame.{frame_size, frame_end}
use Rattle.iw_fpdu.proofs.Counted.{aligned_edge, after_bound, start_bound, after_mono, after_after, after_edge, at_most_after}

-- for fewer octets
pub room_front : {m : Bool} {start at n len capacity : ℕ} → HasRoom m start at n len capacity → (k : ℕ) → k ≤ n → HasRoom m start at k len capacity
room_front {m} {start} {at} {n} h k fits =
    let less = after_mono m at k n h.edge fits in
    record { edge = h.edge; room = omega (arith, h.room, less); near = omega (arith, h.near, less); low = omega (arith, h.low, less) }

pub room_later : {m : Bool} {start at n len capacity : ℕ} → HasRoom m start at n len capacity → (k b : ℕ) → k ≤ n → b ≡ place_after m at k → at ≤ b
room_later {m} {start} {at} {n} h k b fits e = omega (arith, e, at_most_after m at k h.edge)

-- past the first k of them, by a writer that has moved on
pub room_past : {m : Bool} {start at n len capacity : ℕ} → HasRoom m start at n len capacity → (k first b rest : ℕ) {long wide : ℕ} → n ≡ k + rest → first ≡ start
    → b ≡ place_after m at k → long ≡ len + (b - at) → capacity ≤ wide → HasRoom m first b rest long wide
room_past {m} {start} {at} {n} h k first b rest {long} {wide} e s f l w =
    let end : place_after m b rest ≡ place_after m at n = ap (λ x. place_after m x rest) f ∙ after_after m at k rest ∙ ap (place_after m at) (sym e) in
    let later : at ≤ b = omega (arith, f, at_most_after m at k h.edge) in
    let edge : IsEdge m b = subst (IsEdge m) (sym f) (after_edge m at k h.edge) in
    let past : b ≤ place_after m b rest = at_most_after m b rest edge in
    record { edge = edge; room = omega (arith, h.room, end, later, past, l, w); near = omega (arith, h.near, end, s); low = omega (arith, h.low, end) }

-- for a whole frame
pub room_whole : (m : Bool) (start at len used capacity : ℕ) → at % 4 ≡ 0 → at < 2 ^ 63 → len ≤ 64512 → start ≡ data_place m (data_index m at)
    → used + (frame_end m at len - at) ≤ capacity → HasRoom m start at (frame_size len) used capacity
room_whole m start at len used capacity aligned low short e room =
    let edge = aligned_edge m at aligned in
    let most = after_bound m at (frame_size len) edge (omega arith) in
    record { edge = edge; room = room; near = omega (arith, most, e); low = omega (arith, most, start_bound m at edge) }
