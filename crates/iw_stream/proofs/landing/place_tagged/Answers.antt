use Rattle.std.proofs.Common.{◌≡◌, ◌-◌, ℕ, List, length, drop, None, sym, ap, ◌∙◌, arith, length-drop}
use Rattle.iw_memory.specs.Table.{put, denial_for}
use Rattle.iw_memory.proofs.Callers.{written-put}
use Rattle.iw_tagged.proofs.Denials.{not_denied, length-part}
use Rattle.iw_fpdu.specs.Found.{Found, ulpdu, ulpdu_len}
use Rattle.iw_stream.proofs.Landings.{length_ulpdu}
use Rattle.iw_stream.proofs.landing.place_tagged.Goals as goal

-- the ULPDU without its header
long : (f : Found) (n : ℕ) (payload : List ℕ) → n ≡ ulpdu_len f → payload ≡ drop 14 (ulpdu f) → n - 14 ≡ length payload
long f n payload is rest = omega (arith, is, length_ulpdu f, ap length rest, length-drop 14 (ulpdu f))

pub copy_payload-requires : goal.copy_payload-requires
copy_payload-requires g c =
    let n = c.len-n.result - 14 in
    let none : denial_for c.args.memory.now c.args.peer c.args.head.stag c.args.head.to n c.args.right ≡ None = not_denied (denial_for c.args.memory.now c.args.peer c.args.head.stag c.args.head.to n c.args.right) (sym c.in_ok-check.ensures) in
    length-part c.part_mut_for.result.now c.args.memory.now c.args.peer c.args.head.stag c.args.head.to n c.args.right c.part_mut_for.ensures.octets none
    ∙ long c.args.fpdu.now c.len-n.result c.args.payload c.len-n.ensures.len c.requires.payload

pub returns-clause-ok : goal.returns-clause-ok
returns-clause-ok g c =
    let n = c.len-n.result - 14 in
    written-put c.args.memory.now c.args.head.stag c.args.head.to n c.copy_payload.new.out (ap length c.copy_payload.ensures ∙ sym (long c.args.fpdu.now c.len-n.result c.args.payload c.len-n.ensures.len c.requires.payload))
    ∙ ap (put c.args.memory.now c.args.head.stag c.args.head.to) (c.copy_payload.ensures ∙ c.requires.payload)
