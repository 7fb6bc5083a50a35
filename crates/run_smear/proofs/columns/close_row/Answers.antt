use Rattle.std.proofs.Common.{◌≡◌, ℕ, length, arith, subst}
use Rattle.run_smear.specs.Columns.{IsInRuns, Closes}
use Rattle.run_smear.proofs.Sweeping.{closes_none, row_more}
use Rattle.run_smear.proofs.columns.close_row.Goals as goal

pub loop-place-init : goal.loop-place-init
loop-place-init c = record {
  closes = closes_none (IsInRuns c.args.runs.now 0) c.args.y c.args.most c.args.behind.now c.args.fills.now.items (λ k has. absurd (omega (arith, has.before)));
  slim = λ within. within;
}

pub close_run-requires : goal.close_run-requires
close_run-requires c =
    let within = c.requires.apart.within c.loop-place.place c.loop-place-test.true in
    record {
      columns = omega (arith, within, c.loop-place.auto.behind);
      small = omega (arith, within, c.requires.small);
      row = c.requires.row;
    }

pub loop-place-preserved : goal.loop-place-preserved
loop-place-preserved c =
    let l = c.loop-place in
    record {
      closes = row_more (length c.args.behind.now) c.args.runs.now l.place c.args.y c.args.most _ _ _ _ _ _ c.requires.apart c.loop-place-test.true l.invariant.closes c.in_ok-close_run.ensures.closes;
      slim = λ within. c.in_ok-close_run.ensures.slim (length c.args.behind.now) (c.requires.apart.within l.place c.loop-place-test.true) (l.invariant.slim within);
    }

pub returns-clause-closes : goal.returns-clause-closes
returns-clause-closes c =
    let l = c.loop-place in
    let all : l.place ≡ length c.args.runs.now = omega (arith, c.loop-place-test.false, l.auto.place-end) in
    subst (λ (n : ℕ). Closes (IsInRuns c.args.runs.now n) c.args.y c.args.most c.args.behind.now l.behind c.args.fills.now.items l.fills.items) all l.invariant.closes
