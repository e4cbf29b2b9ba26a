-- A part that was filled is put.
use Rattle.std.proofs.Common.{length, ap, ◌∙◌, rules}
use Rattle.iw_memory.specs.Table.{put}
use Rattle.iw_memory.proofs.Callers.{length-octets_at, written-put}
use Rattle.iw_memory.proofs.memory.Memory.place_for.Goals as goal

pub returns-clause-ok : goal.returns-clause-ok
returns-clause-ok g c =
    let filled = c.copy_from_slice.ensures.after in
    written-put c.args.self.now c.args.stag c.args.to (length c.args.octets.now) c.copy_from_slice.new.self (ap length filled) ∙ ap (put c.args.self.now c.args.stag c.args.to) filled

pub copy_from_slice-requires : goal.copy_from_slice-requires
copy_from_slice-requires g c =
    ap length c.part_mut_for.ensures.octets ∙ length-octets_at c.args.self.now c.args.peer c.args.stag c.args.to (length c.args.octets.now) c.args.right (search rules)
