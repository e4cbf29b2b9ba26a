-- Work comes to rest, of every run: no more lies ahead than a window holds.
use Rattle.std.proofs.Common.{◌≡◌, ℕ, ◌+◌, ◌-◌, ◌≤◌, List, [], ◌++◌, length, Bool, true, false, cond, refl, sym, ap, ◌∙◌, arith}
use Rattle.std.proofs.lemmas.Bool.{false≢true}
use Rattle.std.proofs.lemmas.List.{length-drop}
use Rattle.iw_ranges.specs.Arrived.{Arrived, advanced, window}
use Rattle.iw_stream.specs.Starting.{StartState, AtOnce, Unheard, Heard, is_open, awaits_frame}
use Rattle.iw_stream.specs.Stream.{StreamState}
use Rattle.iw_events.specs.declared.act.Entry.{Entry}
use Rattle.iw_laws.specs.Words.{Octets, acts, stream_acts}
use Rattle.iw_laws.specs.Turns.{in_order_point}
use Rattle.iw_laws.specs.Busy.{places_ahead, waits, messages_left, most_steps, steps_left, WorkComesToRest}
use Rattle.iw_laws.proofs.Tales.{Tale}
use Rattle.iw_laws.proofs.Tracks.{Track, start_octets, point_is}
use Rattle.iw_laws.proofs.Pools.{held, tale_seen as tale}
use Rattle.iw_laws.proofs.Whole.{Seen as BothSeen}
use Rattle.iw_laws.proofs.Runs.{Run, Moment, seen_then}
use Rattle.iw_laws.proofs.Busy.{uses}
use Rattle.iw_laws.proofs.Laws.{turns_by_some, ends_all, finished_all}

-- a stream that awaits the peer's start-up frame has read nothing
unread : (z : StartState) → awaits_frame z ≡ true → start_octets z ≡ []
unread (AtOnce layout) w = absurd (false≢true w)
unread (Unheard u) w = refl
unread (Heard u) w = absurd (false≢true w)

shut : (z : StartState) → awaits_frame z ≡ true → is_open z ≡ false
shut (AtOnce layout) w = absurd (false≢true w)
shut (Unheard u) w = refl
shut (Heard u) w = absurd (false≢true w)

-- what came past the in-order point
length-advanced : (a : Arrived) (to : ℕ) → a.floor ≡ 0 → length (advanced a to).cells ≡ length a.cells - to
unfolding advanced
length-advanced a to low = length-drop (to - a.floor) a.cells ∙ omega (arith, low)

places_few : (s : StreamState) (t : Tale) → Track s t → places_ahead t.story ≤ window
places_few s t k = go (awaits_frame t.story.start) refl
  where
    size : length s.arrived.cells ≡ length t.story.came.cells - in_order_point t.story
    size =
        ap (λ (a : Arrived). length a.cells) k.arrived ∙ length-advanced t.story.came (length k.intro + length k.before) k.from_start
        ∙ ap (λ n. length t.story.came.cells - n) (sym (point_is s t k))

    go : (b : Bool) → awaits_frame t.story.start ≡ b → cond b (length t.story.came.cells) (length t.story.came.cells - in_order_point t.story) ≤ window
    go false w = omega (arith, size, k.window)
    go true w =
        let awaits : awaits_frame s.start ≡ true = ap awaits_frame (sym k.begins.start) ∙ w in
        let intro : length k.intro ≡ 0 = ap length (k.begins.octets ∙ unread s.start awaits) in
        let before : length k.before ≡ 0 = ap length (k.shut (shut s.start awaits)).before in
        omega (arith, size, k.window, point_is s t k, intro, before)

front_few : (awaits waiting : Bool) → cond awaits 2 (cond waiting 0 1) ≤ 2
front_few true waiting = omega arith
front_few false true = omega arith
front_few false false = omega arith

steps_few : (s : StreamState) (t : Tale) (messages : ℕ) → Track s t → steps_left t.story messages ≤ most_steps + messages
steps_few s t messages k = omega (arith, places_few s t k, front_few (awaits_frame t.story.start) (waits t.story))

pub work_rests : (trace : List (Entry Octets)) → Run trace → WorkComesToRest trace
work_rests trace run past others future is x n opened running busy =
    let at : Moment past (others ++ future) = run past (others ++ future) is in
    let k : BothSeen past at.state = seen_then past (others ++ future) at in
    let p = k.pairs x n in
    record {
      used = uses trace (turns_by_some trace run) (ends_all trace run) (finished_all trace run) n x past others future is opened running busy;
      most = steps_few (held p.own).stream (tale n (acts x past)) (messages_left (stream_acts n (acts x past))) p.own.own.track;
    }
