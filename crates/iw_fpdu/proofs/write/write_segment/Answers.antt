use Rattle.std.proofs.Common.{◌≡◌, ◌++◌, ◌+◌, ◌≤◌, List, ℕ, length, sym, subst, vec_len, vec_capacity}
use Rattle.std.specs.Prelude.{OnOk}
use Rattle.iw_fpdu.specs.Frame.{bare_frame, frame_octets}
use Rattle.iw_fpdu.proofs.Written.{frame_bare}
use Rattle.iw_fpdu.proofs.write.write_segment.Goals as goal

pub returns-clause-ok : goal.returns-clause-ok
returns-clause-ok g c =
    let ulpdu : List ℕ = c.args.header ++ c.args.payload.now in
    let frame : bare_frame ulpdu ≡ frame_octets c.args.layout c.args.at ulpdu = sym (frame_bare c.args.layout c.args.at ulpdu c.requires.aligned c.if-layout.false c.if-layout-2.false) in
    subst (λ xs. OnOk c.write_bare.result (c.write_bare.new.out.items ≡ c.args.out.now.items ++ xs)) frame c.write_bare.ensures.ok

pub returns-clause-memory : goal.returns-clause-memory
returns-clause-memory g c = λ room.
    let ulpdu : List ℕ = c.args.header ++ c.args.payload.now in
    let frame : frame_octets c.args.layout c.args.at ulpdu ≡ bare_frame ulpdu = frame_bare c.args.layout c.args.at ulpdu c.requires.aligned c.if-layout.false c.if-layout-2.false in
    c.write_bare.ensures.memory (subst (λ xs. vec_len c.args.out.now + length xs ≤ vec_capacity c.args.out.now) frame room)
