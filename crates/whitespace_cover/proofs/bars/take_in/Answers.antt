use Rattle.std.proofs.Common.{arith, ◌<◌, length, length-set}
use Rattle.whitespace_cover.proofs.Barring.{contains_set, joint_taken}
use Rattle.whitespace_cover.proofs.bars.take_in.Goals as goal

pub put_outside-requires : goal.put_outside-requires
put_outside-requires c = contains_set c.args.bars.now.items c.args.number c.in-Some.joint (omega (arith, c.if-number-len.true, c.len.ensures))

pub returns-in-Some-clause-same : goal.returns-in-Some-clause-same
returns-in-Some-clause-same c =
    let within : c.args.number < length c.args.bars.now.items = omega (arith, c.if-number-len.true, c.len.ensures) in
    joint_taken c.args.least c.args.bars.now.items c.args.number c.index.result.now c.args.next c.in-Some.joint
    c.put_outside.new.bars.items c.put_outside-in-Some.new.bars.items within c.index.ensures c.in-Some.ensures
    c.in_ok-put_outside.ensures.same c.in_ok-put_outside-2.ensures.same

pub returns-in-Some-clause-number : goal.returns-in-Some-clause-number
returns-in-Some-clause-number c =
    omega (arith, c.if-number-len.true, c.len.ensures, length-set c.args.bars.now.items c.args.number c.in-Some.joint, c.in_ok-put_outside.ensures.grown, c.in_ok-put_outside-2.ensures.grown)
