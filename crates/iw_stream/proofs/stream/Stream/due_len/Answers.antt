use Rattle.std.proofs.Common.{◌≡◌, ◌+◌, Some, length, refl, ap, sym, ◌∙◌, rules}
use Rattle.iw_octets.specs.declared.segment.Segment.TheVariants.{Untagged}
use Rattle.iw_octets.proofs.Segments.{length-segment_octets_untagged}
use Rattle.iw_rdmap.specs.Laws.{terminate_head}
use Rattle.iw_stream.specs.Ending.{last_word}
use Rattle.iw_stream.specs.Rtr.{rtr_segment}
use Rattle.iw_stream.specs.Stream.{StreamState, Ready, due, message_due, octets_due}
use Rattle.iw_stream.proofs.Dues.{due_last, due_message, due_ready, speaks}
use Rattle.iw_stream.proofs.stream.Stream.due_len.Goals as goal

pub returns-in-Over-Some : goal.returns-in-Over-Some
returns-in-Over-Some g c =
    let s : StreamState = c.args.self.now in
    let payload = c.in-Over-Some.terminate.items in
    let here : last_word c.self.inside.ending ≡ Some payload = search rules in
    let word : last_word s.ending ≡ Some payload = ap (λ (t : StreamState). last_word t.ending) (sym c.self.view_is) ∙ here in
    let due = due_last s (Some payload) (sym c.owes_frame.ensures ∙ c.if-owes_frame.false) word refl in
    c.frame_len.ensures (Untagged terminate_head payload) (length-segment_octets_untagged terminate_head payload ∙ ap (λ n. 18 + n) (sym c.len.ensures.value))
    ∙ ap (λ d. length (octets_due c.args.memory.now s d)) (sym due)

pub returns-in-Some : goal.returns-in-Some
returns-in-Some g c =
    let s = c.args.self.now in
    let due : due s ≡ Ready c.in-Some.rtr = due_ready s c.in-Some.rtr (sym c.owes_frame.ensures ∙ c.if-owes_frame.false) (speaks s (sym c.is_mute.ensures ∙ c.if-is_mute.false)) (sym c.is_mute.ensures ∙ c.if-is_mute.false) (sym c.rtr_due.ensures ∙ c.in-Some.is) in
    c.frame_len-in-Some.ensures (rtr_segment s.numbers c.in-Some.rtr) (sym (c.rtr_len.ensures.len s.numbers)) ∙ ap (λ d. length (octets_due c.args.memory.now s d)) (sym due)

pub returns-in-None : goal.returns-in-None
returns-in-None g c =
    let s = c.args.self.now in
    let due : due s ≡ message_due s = due_message s (sym c.owes_frame.ensures ∙ c.if-owes_frame.false) (speaks s (sym c.is_mute.ensures ∙ c.if-is_mute.false)) (sym c.is_mute.ensures ∙ c.if-is_mute.false) (sym c.rtr_due.ensures ∙ c.in-None.is) in
    c.message_len.ensures ∙ ap (λ d. length (octets_due c.args.memory.now s d)) (sym due)
