use Rattle.std.proofs.Common.{◌≡◌, ℕ, List, ◌+◌, ◌%◌, ◌/◌, ◌≤◌, ◌<◌, ◌*◌, ◌^◌, length, ◌++◌, true, ◌∷◌, replicate, refl, sym, ap, ◌∙◌, arith}
use Rattle.std.proofs.lemmas.List.{length-append, length-replicate}
use Rattle.iw_fpdu.specs.Places.{data_place, data_index, place_after, frame_start}
use Rattle.iw_fpdu.specs.Frame.{frame_size, pad_len, laid, bare_data, field_place}
use Rattle.iw_fpdu.specs.Laying.{HasRoom, marker_before}
use Rattle.iw_fpdu.proofs.Counted.{aligned_edge, index_after, index_aligned}
use Rattle.iw_fpdu.proofs.Rooms.{room_whole, room_front, room_past}
use Rattle.iw_fpdu.proofs.Written.{segment_whole, pieces_written}
use Rattle.iw_fpdu.proofs.write.put_segment_among_markers.Goals as goal

pub put_head-requires : goal.put_head-requires
put_head-requires g c =
    let m = true in
    let at = c.args.at in
    let start = c.start_at.result in
    let len = c.args.len in
    let k = 2 + g.row.N in
    let n = length c.args.payload.now in
    let long : len ≡ g.row.N + n = omega (arith, c.requires.len, length-append c.args.header c.args.payload.now) in
    let start_is : start ≡ data_place m (data_index m at) = c.start_at.ensures in
    let all : HasRoom m start at (frame_size len) _ _ = room_whole m start at len _ _ c.requires.aligned c.requires.place c.requires.short start_is c.requires.room in
    let few : g.row.N ≤ 18 = c.requires.few in
    let fits : g.row.N * 1 < 2 ^ 63 = omega (arith, few) in
    (fits, (few, room_front all k (omega (arith, long))))

pub put-requires : goal.put-requires
put-requires g c =
    let m = true in
    let at = c.args.at in
    let start = c.start_at.result in
    let len = c.args.len in
    let k = 2 + g.row.N in
    let n = length c.args.payload.now in
    let long : len ≡ g.row.N + n = omega (arith, c.requires.len, length-append c.args.header c.args.payload.now) in
    let start_is : start ≡ data_place m (data_index m at) = c.start_at.ensures in
    let all : HasRoom m start at (frame_size len) _ _ = room_whole m start at len _ _ c.requires.aligned c.requires.place c.requires.short start_is c.requires.room in
    let first = c.put_head in
    let beyond = room_past all k first.new.writer.start first.new.writer.at (n + pad_len len + 4) (omega (arith, long)) first.ensures.start first.ensures.place first.ensures.len first.ensures.capacity in
    room_front beyond n (omega arith)

pub put_end-requires-clause-room : goal.put_end-requires-clause-room
put_end-requires-clause-room g c =
    let m = true in
    let at = c.args.at in
    let start = c.start_at.result in
    let len = c.args.len in
    let k = 2 + g.row.N in
    let n = length c.args.payload.now in
    let long : len ≡ g.row.N + n = omega (arith, c.requires.len, length-append c.args.header c.args.payload.now) in
    let start_is : start ≡ data_place m (data_index m at) = c.start_at.ensures in
    let all : HasRoom m start at (frame_size len) _ _ = room_whole m start at len _ _ c.requires.aligned c.requires.place c.requires.short start_is c.requires.room in
    let first = c.put_head in
    let beyond = room_past all k first.new.writer.start first.new.writer.at (n + pad_len len + 4) (omega (arith, long)) first.ensures.start first.ensures.place first.ensures.len first.ensures.capacity in
    let second = c.put in
    let later = room_past beyond n second.new.self.start second.new.self.at (pad_len len + 4) (omega arith) second.ensures.start second.ensures.place second.ensures.len second.ensures.capacity in
    let index : data_index m second.new.self.at ≡ data_index m at + (k + n) =
    ap (data_index m) second.ensures.place ∙ index_after m first.new.writer.at n ∙ omega (arith, ap (data_index m) first.ensures.place ∙ index_after m at k) in
    let pad : c.pad_of.result ≡ pad_len len = c.pad_of.ensures.value in
    room_front later (c.pad_of.result + 4) (omega (arith, pad))

pub put_end-requires-clause-aligned : goal.put_end-requires-clause-aligned
put_end-requires-clause-aligned g c =
    let m = true in
    let at = c.args.at in
    let start = c.start_at.result in
    let len = c.args.len in
    let k = 2 + g.row.N in
    let n = length c.args.payload.now in
    let long : len ≡ g.row.N + n = omega (arith, c.requires.len, length-append c.args.header c.args.payload.now) in
    let start_is : start ≡ data_place m (data_index m at) = c.start_at.ensures in
    let all : HasRoom m start at (frame_size len) _ _ = room_whole m start at len _ _ c.requires.aligned c.requires.place c.requires.short start_is c.requires.room in
    let first = c.put_head in
    let beyond = room_past all k first.new.writer.start first.new.writer.at (n + pad_len len + 4) (omega (arith, long)) first.ensures.start first.ensures.place first.ensures.len first.ensures.capacity in
    let second = c.put in
    let later = room_past beyond n second.new.self.start second.new.self.at (pad_len len + 4) (omega arith) second.ensures.start second.ensures.place second.ensures.len second.ensures.capacity in
    let index : data_index m second.new.self.at ≡ data_index m at + (k + n) =
    ap (data_index m) second.ensures.place ∙ index_after m first.new.writer.at n ∙ omega (arith, ap (data_index m) first.ensures.place ∙ index_after m at k) in
    let pad : c.pad_of.result ≡ pad_len len = c.pad_of.ensures.value in
    omega (arith, index, pad, index_aligned m at c.requires.aligned, long)

pub returns-clause-items : goal.returns-clause-items
returns-clause-items g c =
    let m = true in
    let at = c.args.at in
    let start = c.start_at.result in
    let len = c.args.len in
    let header : List ℕ = c.args.header in
    let payload : List ℕ = c.args.payload.now in
    let ulpdu : List ℕ = header ++ payload in
    let head : List ℕ = len / 256 ∷ len % 256 ∷ header in
    let first = c.put_head in
    let second = c.put in
    let b = first.new.writer.at in
    let d = second.new.self.at in
    let k = c.pad_of.result in
    let start_is : start ≡ data_place m (data_index m at) = c.start_at.ensures in
    let one : first.new.writer.start ≡ start = first.ensures.start in
    let two : second.new.self.start ≡ start = second.ensures.start ∙ one in
    let zeros : List ℕ = replicate k 0 in
    let e = place_after m d (length zeros) in
    let pad : zeros ≡ replicate (pad_len len) 0 = ap (λ n. replicate n 0) c.pad_of.ensures.value in
    let long : length zeros ≡ k = length-replicate k 0 in
    let size : 2 + g.row.N ≡ length head = omega arith in
    let front : b ≡ place_after m at (length head) = first.ensures.place ∙ ap (place_after m at) size in
    let third : List ℕ = second.new.out.items ++ laid m start (data_index m d) zeros d e in
    let fourth : List ℕ = third ++ marker_before m start e in
    let whole : fourth ≡ c.args.out.now.items ++ laid m (frame_start m at) (data_index m at) (bare_data ulpdu) at (field_place m at (length ulpdu)) =
    pieces_written m at start b d e c.args.out.now.items _ _ third fourth head payload zeros ulpdu
    (aligned_edge m at c.requires.aligned) start_is (segment_whole len header payload zeros c.requires.len pad) front second.ensures.place refl
    first.ensures.items
    (second.ensures.items ∙ ap (λ s. first.new.out.items ++ laid m s (data_index m b) payload b (place_after m b (length payload))) one)
    refl refl in
    c.put_end.ensures.items
    ∙ ap (λ s. second.new.out.items ++ laid m s (data_index m d) zeros d (place_after m d k) ++ marker_before m s (place_after m d k)) two
    ∙ ap (λ n. second.new.out.items ++ laid m start (data_index m d) zeros d (place_after m d n) ++ marker_before m start (place_after m d n)) (sym long)
    ∙ whole ∙ ap (λ n. c.args.out.now.items ++ laid m (frame_start m at) (data_index m at) (bare_data ulpdu) at (field_place m at n)) (sym c.requires.len)
