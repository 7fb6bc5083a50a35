use Rattle.std.proofs.Common.{refl, arith}
use Rattle.run_smear.specs.Painted.{IsBetween}
use Rattle.run_smear.proofs.Sweeping.{closes_none, run_more, run_ended}
use Rattle.run_smear.proofs.columns.close_columns.Goals as goal

pub loop-x-init : goal.loop-x-init
loop-x-init c = record {
  closes = closes_none (IsBetween c.args.from c.args.from) c.args.y c.args.most c.args.behind.now c.args.fills.now.items (λ k has. absurd (omega (arith, has.0, has.1)));
  slim = λ width wide within. within;
  none = λ e. refl;
}

pub loop-x-preserved : goal.loop-x-preserved
loop-x-preserved c =
    let l = c.loop-x in
    record {
      closes = run_more c.args.from l.x c.args.y c.args.most _ _ _ _ _ _ l.invariant.closes l.auto.x c.in_ok-close_column.ensures.closes;
      slim = λ width wide within. c.in_ok-close_column.ensures.slim width (omega (arith, wide, c.loop-x-test.true)) (l.invariant.slim width wide within);
      none = λ e. absurd (omega (arith, e, l.auto.x, c.loop-x-test.true));
    }

pub returns-clause-closes : goal.returns-clause-closes
returns-clause-closes c =
    let l = c.loop-x in
    run_ended c.args.from l.x c.args.to c.args.y c.args.most _ _ _ _ l.invariant.closes c.loop-x-test.false l.invariant.none l.auto.x-end
