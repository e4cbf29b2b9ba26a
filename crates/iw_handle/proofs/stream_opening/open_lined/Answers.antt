use Rattle.iw_handle.proofs.Lined.{undone}
use Rattle.iw_handle.proofs.stream_opening.open_lined.Goals as goal

pub returns-in-Err-clause-err : goal.returns-in-Err-clause-err
returns-in-Err-clause-err c =
    undone c.args.held.now c.open-2.new.self c.open.new.self c.undo_open.new.self _ c.in-Ok.before c.in-Err.ensures.err c.in-Ok.ensures.before c.in-Ok.ensures.ok c.undo_open.ensures
