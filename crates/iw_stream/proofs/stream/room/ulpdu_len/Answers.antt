use Rattle.std.proofs.Common.{◌≡◌, ◌+◌, rules, arith}
use Rattle.iw_stream.proofs.Lengths.{carried, length-carried}
use Rattle.iw_stream.proofs.stream.room.ulpdu_len.Goals as goal

pub returns-in-Message-Write-clause-len : goal.returns-in-Message-Write-clause-len
returns-in-Message-Write-clause-len g c = λ numbers.
    let part = c.args.part.now in
    let is : carried part.message.now part.n ≡ 14 + part.n = search rules in
    omega (arith, is, length-carried numbers part.message.now part.offset part.n part.last c.requires.within)

pub returns-in-Message-Send-clause-len : goal.returns-in-Message-Send-clause-len
returns-in-Message-Send-clause-len g c = λ numbers.
    let part = c.args.part.now in
    let is : carried part.message.now part.n ≡ 18 + part.n = search rules in
    omega (arith, is, length-carried numbers part.message.now part.offset part.n part.last c.requires.within)

pub returns-in-Read-clause-len : goal.returns-in-Read-clause-len
returns-in-Read-clause-len g c = λ numbers.
    let part = c.args.part.now in
    let is : carried part.message.now part.n ≡ 46 = search rules in
    omega (arith, is, length-carried numbers part.message.now part.offset part.n part.last c.requires.within)
