use Rattle.std.proofs.Common.{◌≡◌, length, None, refl, sym, subst}
use Rattle.iw_octets.specs.Pieces.{AddUpTo}
use Rattle.iw_memory.specs.Table.{denial_for}
use Rattle.iw_memory.proofs.Callers.{written-put}
use Rattle.iw_tagged.proofs.Denials.{not_denied, length-part, length-joined}
use Rattle.iw_tagged.proofs.placing.place.Goals as goal

pub gather-requires : goal.gather-requires
gather-requires g c κs =
    let none : denial_for c.args.memory.now c.args.peer c.args.head.stag c.args.head.to c.args.n c.args.right ≡ None = not_denied (denial_for c.args.memory.now c.args.peer c.args.head.stag c.args.head.to c.args.n c.args.right) (sym c.in_ok-check.ensures) in
    let long : length c.part_mut_for.result.now ≡ c.args.n = length-part c.part_mut_for.result.now c.args.memory.now c.args.peer c.args.head.stag c.args.head.to c.args.n c.args.right c.part_mut_for.ensures.octets none in
    ((refl, tt), (c.requires.can, (c.requires.ends, subst (λ n. AddUpTo g.I.Iterator.next_gives c.args.pieces n) (sym long) c.requires.fits)))

pub returns-clause-ok : goal.returns-clause-ok
returns-clause-ok g c =
    let long : length c.gather.new.out ≡ c.args.n = length-joined g.I.Iterator.next_gives c.args.pieces c.args.n c.gather.new.out c.requires.fits c.gather.ensures in
    (c.gather.new.out, c.gather.ensures, written-put c.args.memory.now c.args.head.stag c.args.head.to c.args.n c.gather.new.out long)
