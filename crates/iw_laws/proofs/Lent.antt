-- Another source of receive buffers, in which the same stand for each message: nothing else that is known of a stream changes, as where a pool is lent or taken back.
use Rattle.std.proofs.Common.{◌≡◌, length, List, sym, subst, inl, inr}
use Rattle.iw_octets.specs.declared.segment.Segment.{Segment}
use Rattle.iw_queues.specs.Queue.{Queue}
use Rattle.iw_queues.specs.declared.request.Kind.{Kind}
use Rattle.iw_untagged.specs.Receiving.{Source}
use Rattle.iw_stream.specs.declared.landing.PlacedFrame.{PlacedFrame}
use Rattle.iw_stream.specs.Stream.{StreamState}
use Rattle.iw_laws.specs.Words.{Octets, Opening, Placing}
use Rattle.iw_laws.proofs.Checks.{places_in}
use Rattle.iw_laws.proofs.Fills.{Fills, WerePlaced}
use Rattle.iw_laws.proofs.Filled.{StandPlaced}
use Rattle.iw_laws.proofs.Nexts.{IsFore}
use Rattle.iw_laws.proofs.Onces.{Onces}
use Rattle.iw_laws.proofs.Owned.{Own, Asks, IsMute, Parts, IsLive, Emits}
use Rattle.iw_laws.proofs.States.{Connected}
use Rattle.iw_laws.proofs.Tales.{Tale}
use Rattle.iw_laws.proofs.Tracks.{Track, Begins, Early}

abbrev pub requeued : StreamState → Source → StreamState
requeued s x = record s { receiving = record s.receiving { source = x } }

abbrev pub retold : Tale → Source → Tale
retold t y = record t { story = record t.story { receiving = record t.story.receiving { source = y } } }

module _ (s : StreamState) (t : Tale) (x y : Source) where
  -- ---- what goes out
  asks : Asks s t.story → Asks (requeued s x) (retold t y).story
  asks k = record { reads = k.reads; asked = k.asked; fetched = k.fetched; begun = k.begun; few = k.few }

  mute : (segments : List (Segment Octets)) → IsMute s t.story segments → IsMute (requeued s x) (retold t y).story segments
  mute segments k = record { none = k.none; quiet = k.quiet }

  parts : (segments : List (Segment Octets)) → Parts s t.story segments → Parts (requeued s x) (retold t y).story segments
  parts segments k = record {
    ending = k.ending;
    once = elim k.once [ inl none ↦ inl none | inr over ↦ inr (record { over = over.over; quiet = over.quiet }) ];
    short = k.short;
    shut = λ h. mute segments (k.shut h);
    silent = λ h. mute segments (k.silent h);
  }

  live : (kept : Queue) (before : List Kind) → IsLive s t kept before → IsLive (requeued s x) (retold t y) kept before
  live kept before k = record { queue = k.queue; handed = k.handed }

  emits : Emits s t → Emits (requeued s x) (retold t y)
  emits k = record {
    segments = k.segments;
    kept = k.kept;
    before = k.before;
    left = k.left;
    done = k.done;
    asking = k.asking;
    live = λ h. live k.kept k.before (k.live h);
    merges = k.merges;
    spoken = k.spoken;
    asks = asks k.asks;
    good = k.good;
    framed = k.framed;
    parts = parts k.segments k.parts;
    limits = k.limits;
    fit = k.fit;
    numbers = k.numbers;
    size = k.size;
    enough = k.enough;
    few = k.few;
    counts = k.counts;
    handing = k.handing;
    reads = k.reads;
    whole = k.whole;
  }

  -- ---- what came
  begins : (intro : Octets) → Begins s t intro → Begins (requeued s x) (retold t y) intro
  begins intro k = record { start = k.start; reached = k.reached; fresh = k.fresh; octets = k.octets }

  early : (shown : List Placing) → Early s t shown → Early (requeued s x) (retold t y) shown
  early shown k = record { records_are = k.records_are; unopened = k.unopened; judged = k.judged; clear = k.clear; written_are = k.written_are; sunk_are = k.sunk_are }

  fore : (f : PlacedFrame) → IsFore s f → IsFore (requeued s x) f
  fore f k = record { frame = k.frame; rest = k.rest; whole = k.whole; is = k.is; segment = k.segment; carries = k.carries }

  track : y ≡ x → Track s t → Track (requeued s x) (retold t y)
  track e k = record {
    intro = k.intro;
    begins = begins k.intro k.begins;
    frames = k.frames;
    before = k.before;
    shut = k.shut;
    from_start = k.from_start;
    came = k.came;
    arrived = k.arrived;
    point = k.point;
    between = k.between;
    located = k.located;
    named = k.named;
    split = k.split;
    ends = k.ends;
    turns = k.turns;
    placed = k.placed;
    receiving = λ i. record (k.receiving i) { source = e i };
    fore_is = λ f h. fore f (k.fore_is f h);
    held = k.held;
    window = k.window;
    near = k.near;
    far = k.far;
    soon = k.soon;
    segments = k.segments;
    carried = k.carried;
    shown = k.shown;
    early = early k.shown k.early;
    sent_ones = k.sent_ones;
    joins = record { completed_are = k.joins.completed_are; begun_are = k.joins.begun_are; waits = k.joins.waits; counted = k.joins.counted; sunk_are = k.joins.sunk_are };
    tells = k.tells;
  }

  once : Onces s t.spans → Onces (requeued s x) (retold t y).spans
  once k = record { known = k.known; are = k.are; spent = k.spent; bare = k.bare }

  fills : places_in x ≡ places_in s.receiving.source → Fills s t → Fills (requeued s x) (retold t y)
  fills same k us ss short reads numbered of =
      let o = k us ss short reads numbered of in
      record {
        received_are = o.received_are;
        stand = λ runs. subst (StandPlaced ss (WerePlaced s t.story.turns us) (length t.received)) (sym same) (o.stand runs);
      }

pub requeued_own : (o : Opening) (c : Connected) (t : Tale) (x y : Source) → y ≡ x → places_in x ≡ places_in c.stream.receiving.source → Own o c t → Own o (record c { stream = requeued c.stream x }) (retold t y)
requeued_own o c t x y e same k = record {
  wire = k.wire;
  sent = k.sent;
  due = k.due;
  numbered = record { first = k.numbered.first; delivered = k.numbered.delivered };
  starts = k.starts;
  emits = emits c.stream t x y k.emits;
  track = track c.stream t x y e k.track;
  doing = record { answered = k.doing.answered; among = k.doing.among };
  ended = k.ended;
  paid = record { paid = k.paid.paid };
  once = once c.stream t x y k.once;
  fills = fills c.stream t x y same k.fills;
}
