use Rattle.std.proofs.Common.{arith, ◌∙◌}
use Rattle.run_smear.specs.Painted.{IsInClosed}
use Rattle.run_smear.proofs.Blackening.{got_none}
use Rattle.run_smear.proofs.RowSmear.{closed_within, one_run, row_painted}
use Rattle.run_smear.proofs.row.paint_row_smear.Goals as goal

pub loop-place-init : goal.loop-place-init
loop-place-init c = record {
  len = c.whiten.ensures.len;
  got = got_none (IsInClosed c.args.runs.now c.args.most 0) c.whiten.new.bits (λ k has. absurd (omega (arith, has.before)));
}

pub loop-place-preserved : goal.loop-place-preserved
loop-place-preserved c =
    let l = c.loop-place in
    record {
      len = c.blacken.ensures.len ∙ l.invariant.len;
      got = one_run c.args.runs.now c.args.most l.place _ _ _ _ l.invariant.got c.closed_end.ensures c.blacken.ensures;
    }

pub blacken-requires : goal.blacken-requires
blacken-requires c =
    omega (
      arith,
      c.loop-place.invariant.len,
      closed_within _ c.args.runs.now c.args.most c.loop-place.place c.closed_end.result c.requires c.loop-place-test.true c.closed_end.ensures,
    )

pub returns-clause-painted : goal.returns-clause-painted
returns-clause-painted c = λ page y are.
    let l = c.loop-place in
    row_painted page y c.args.runs.now are c.args.most l.place c.whiten.new.bits l.bits c.whiten.ensures.pixels l.invariant.got (omega (arith, c.loop-place-test.false, l.auto.place-end))
