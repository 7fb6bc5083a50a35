use Rattle.std.proofs.Common.{arith}
use Rattle.run_smear.specs.Painted.{IsBetween}
use Rattle.run_smear.proofs.Sweeping.{closes_none, columns_more, run_ended}
use Rattle.run_smear.proofs.columns.close_run.Goals as goal

pub loop-from-init : goal.loop-from-init
loop-from-init c = record {
  closes = closes_none (IsBetween c.args.run.x0 c.args.run.x0) c.args.y c.args.most c.args.behind.now c.args.fills.now.items (λ k has. absurd (omega (arith, has.0, has.1)));
  slim = λ width wide within. within;
  begun = omega arith;
  within = λ order. order;
  empty = λ order. omega arith;
}

pub loop-from-preserved : goal.loop-from-preserved
loop-from-preserved c =
    let l = c.loop-from in
    record {
      closes = columns_more c.args.run.x0 l.from c.min-to.result c.args.y c.args.most _ _ _ _ _ _ l.invariant.closes l.invariant.begun (omega (arith, c.min-to.ensures, c.loop-from-test.true)) c.in_ok-close_columns.ensures.closes;
      slim = λ width wide within. c.in_ok-close_columns.ensures.slim width (omega (arith, wide, c.min-to.ensures)) (l.invariant.slim width wide within);
      begun = omega (arith, l.invariant.begun, c.min-to.ensures, c.loop-from-test.true);
      within = λ order. omega (arith, c.min-to.ensures);
      empty = λ order. omega (arith, order, c.min-to.ensures);
    }

pub returns-clause-closes : goal.returns-clause-closes
returns-clause-closes c =
    let l = c.loop-from in
    run_ended c.args.run.x0 l.from c.args.run.x1 c.args.y c.args.most _ _ _ _ l.invariant.closes c.loop-from-test.false
    (λ order. omega (arith, l.invariant.empty order, l.invariant.begun)) l.invariant.within
