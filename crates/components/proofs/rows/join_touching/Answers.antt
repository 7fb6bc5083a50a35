use Rattle.std.proofs.Common.{arith}
use Rattle.components.proofs.Joining.{one_joined, rest_apart, all_joined}
use Rattle.components.proofs.rows.join_touching.Goals as goal

pub returns-then-run-up-clause-joined : goal.returns-then-run-up-clause-joined
returns-then-run-up-clause-joined c = λ page members root can.
    rest_apart page members _ _ _ _ _ _ root can c.loop-i.i _ (c.loop-i.invariant.joined page members root can) c.loop-i-test.true c.if-run-up.true

pub loop-i-preserved : goal.loop-i-preserved
loop-i-preserved c = record {
  back = c.join.ensures.back;
  len = omega (arith, c.join.ensures.len, c.loop-i.invariant.len);
  joined = λ page members root can.
      one_joined page members _ _ _ _ _ _ root can c.loop-i.i _ _ (c.loop-i.invariant.joined page members root can) c.loop-i.auto.i c.loop-i-test.true c.requires.len
      c.if-run-up.false (c.join.ensures.joined page members);
}

pub returns-clause-joined : goal.returns-clause-joined
returns-clause-joined c = λ page members root can.
    all_joined page members _ _ _ _ _ _ root can c.loop-i.i _ (c.loop-i.invariant.joined page members root can) c.loop-i-test.false
