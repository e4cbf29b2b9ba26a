-- Each wrong run by revision 2 of MPA breaks its law.
use Rattle.iw_ranges.specs.Nearest.{numbers_ahead, place_near, before_start}
use Rattle.std.proofs.Common.{◌≡◌, [], take, None, Ok, Err, refl, sym, ap, ◌∙◌, arith, inl, inr}
use Rattle.std.specs.Prelude.{Result}
use Rattle.std.proofs.lemmas.Bool.{false≢true}
use Rattle.std.proofs.lemmas.List.{append-nil}
use Rattle.std.proofs.lemmas.Option.{none-some}
use Rattle.iw_memory.specs.Table.{empty}
use Rattle.iw_ranges.specs.Arrived.{taken_in, held}
use Rattle.iw_startup.specs.declared.config.Agreed.{Agreed}
use Rattle.iw_startup.specs.Frame.{start_frame}
use Rattle.iw_startup.specs.Peer.{progress_of, frame_end as startup_end, frame_part, fixed_fault}
use Rattle.iw_startup.specs.State.{agreed_of, mismatch_of, told_of, pushed}
use Rattle.iw_stream.specs.declared.answer.AnswerRefusal.{AnswerRefusal}
use Rattle.iw_stream.specs.declared.answer.AnswerRefusal.TheVariants.{PrivateTooLong}
use Rattle.iw_stream.specs.Ending.{last_word}
use Rattle.iw_stream.specs.Starting.{plain, sending, first_place_out, most_reads_in}
use Rattle.iw_events.specs.declared.call.End.TheVariants.{A}
use Rattle.iw_events.specs.declared.act.Shown.TheVariants as shows
use Rattle.iw_laws.specs.Words.{acts, stream_acts, openings, ended, posted, handed_kinds, table_after}
use Rattle.iw_laws.specs.Turns.{Story, story, story_of}
use Rattle.iw_laws.specs.WrongRuns.{a, b, request_frame}
use Rattle.iw_laws.specs.EnhancedRuns.{agreed_on, posts_read, posts_unread, reads_past_ord, sees_opened, opens_unfit, ends_fit, faults_fit, asks_hidden, hides_word, accepts, accepts_long, opens_with, opens_long}
use Rattle.iw_laws.specs.EnhancedRuns.{RefusesReadPosted, RefusesReadPastOrd, RefusesOpenedUnfit, RefusesFaultFit, RefusesHiddenWord, RefusesLongAnswer, RefusesLongRequest}
use Rattle.iw_laws.proofs.Tracks.{shown_stays}
use Rattle.iw_laws.proofs.RefusedReads.{asked_out}

pub refuses_read_posted : RefusesReadPosted
unfolding acts stream_acts openings story ended posted handed_kinds agreed_of mismatch_of pushed progress_of startup_end frame_part fixed_fault taken_in held numbers_ahead place_near before_start
refuses_read_posted h = none-some _ (h (take 4 posts_unread) (a posts_read) [] refl)

pub refuses_opened_unfit : RefusesOpenedUnfit
unfolding acts stream_acts openings story ended agreed_of mismatch_of pushed progress_of startup_end frame_part fixed_fault taken_in held numbers_ahead place_near before_start
refuses_opened_unfit h = none-some _ (sym (h (take 3 opens_unfit) (a (sees_opened 16 17)) [] refl).0.fits)

pub refuses_fault_fit : RefusesFaultFit
unfolding acts stream_acts openings story ended agreed_of mismatch_of pushed progress_of startup_end frame_part fixed_fault taken_in held numbers_ahead place_near before_start
refuses_fault_fit h = elim (h (take 3 faults_fit) (a ends_fit) [] refl) [
  | inl m ↦ none-some _ m.is
  | inr r ↦ false≢true r.0.open_now
]

pub refuses_hidden_word : RefusesHiddenWord
unfolding acts stream_acts openings story ended told_of pushed progress_of startup_end frame_part fixed_fault taken_in held numbers_ahead place_near before_start
refuses_hidden_word h = none-some _ (h (take 3 hides_word) (b asks_hidden) [] refl).1

pub refuses_long_answer : RefusesLongAnswer
unfolding acts stream_acts openings story ended agreed_of pushed progress_of startup_end frame_part fixed_fault taken_in held numbers_ahead place_near before_start
refuses_long_answer h =
    let wrong : ◌≡◌ {A = Result Agreed AnswerRefusal} (Ok (agreed_on 16)) (Err PrivateTooLong) = h (take 4 accepts_long) (b accepts) [] refl in
    cc

pub refuses_long_request : RefusesLongRequest
unfolding acts openings table_after empty
refuses_long_request h = none-some _ (h (take 1 opens_long) (a opens_with) [] refl)

-- the Read goes out behind the start-up frame
started : Story
started = story_of 0 (acts A posts_unread)

sends_plain : sending started.start ≡ plain
unfolding started acts stream_acts openings story agreed_of pushed progress_of startup_end frame_part fixed_fault taken_in held numbers_ahead place_near before_start
sends_plain = refl

first_out : first_place_out started.start ≡ 24
unfolding started acts stream_acts openings story pushed startup_end frame_part fixed_fault taken_in held start_frame numbers_ahead place_near before_start
first_out = refl

none_asked : most_reads_in started.start ≡ 0
unfolding started acts stream_acts openings story agreed_of pushed progress_of startup_end frame_part fixed_fault taken_in held numbers_ahead place_near before_start
none_asked = refl

quiet : last_word started.ending ≡ None
unfolding started acts stream_acts openings story
quiet = refl

pub refuses_read_past_ord : RefusesReadPastOrd
unfolding started acts stream_acts openings story
refuses_read_past_ord h =
    let few = h reads_past_ord [] (sym (append-nil reads_past_ord)) A 0 in
    let out = asked_out started 24 sends_plain first_out quiet in
    let most = ap most_reads_in (shown_stays started (shows.Frame 24 request_frame)).start ∙ none_asked in
    omega (arith, few, out, most)
