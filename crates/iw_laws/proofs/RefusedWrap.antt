-- Each wrong run of sequence numbers that wrap breaks its law.
use Rattle.std.proofs.Common.{◌≡◌, [], take, refl, sym, ◌∙◌, arith}
use Rattle.std.proofs.lemmas.Bool.{false≢true, true≢false}
use Rattle.std.proofs.lemmas.Option.{none-some}
use Rattle.iw_ranges.specs.Nearest.{numbers_ahead, place_near, before_start}
use Rattle.iw_ranges.specs.declared.Delivery.TheVariants.{Kept, Dropped}
use Rattle.iw_ranges.specs.Arrived.{is_dropped, island_count, advanced}
use Rattle.iw_events.specs.declared.call.End.TheVariants.{B}
use Rattle.iw_events.specs.declared.act.Seen.TheVariants as seen
use Rattle.iw_laws.specs.Words.{acts, stream_acts, openings, ended}
use Rattle.iw_laws.specs.Turns.{story, story_of}
use Rattle.iw_laws.specs.Rest.{Over, AwaitsFrame, AwaitsAnswer, NoFrame}
use Rattle.iw_laws.specs.WrongRuns.{b, works, numbers_high, delivers_misnumbered, misnumbers, drops_wrapped, drops_past_wrap, rests_past_wrap, numbers_late}
use Rattle.iw_laws.specs.WrongRuns.{RefusesMisnumbered, RefusesDroppedPastWrap, RefusesRestPastWrap, RefusesLateNumber}
use Rattle.iw_laws.proofs.RefusedReads.{write_next}

pub refuses_misnumbered : RefusesMisnumbered
unfolding acts stream_acts openings story
refuses_misnumbered h = let r = (h (take 7 misnumbers) (b delivers_misnumbered) [] refl).numbered in omega (arith, r)

never_both : Dropped ≡ Kept → ⊥
never_both e = cc

-- the octet lands at place 28, within the window
pub refuses_dropped_past_wrap : RefusesDroppedPastWrap
unfolding acts stream_acts openings ended story numbers_ahead place_near before_start is_dropped island_count advanced
refuses_dropped_past_wrap h = never_both (h (take 3 drops_past_wrap) (b drops_wrapped) [] refl)

pub refuses_rest_past_wrap : RefusesRestPastWrap
unfolding acts stream_acts openings ended story numbers_ahead place_near before_start
refuses_rest_past_wrap h = elim (h (take 4 rests_past_wrap) (b (works seen.Idle)) [] refl).reason [
  | Over e ↦ false≢true e
  | AwaitsFrame f ↦ false≢true f.awaited
  | AwaitsAnswer o e ↦ true≢false o
  | NoFrame o next early ↦ none-some _ (sym next ∙ write_next (story_of 0 (acts B (take 4 rests_past_wrap))) refl refl refl)
]

pub refuses_late_number : RefusesLateNumber
unfolding acts stream_acts openings ended story numbers_ahead place_near before_start
refuses_late_number h = none-some _ (h (take 3 numbers_late) (b numbers_high) [] refl)
