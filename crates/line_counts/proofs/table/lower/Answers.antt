use Rattle.std.proofs.Common.{◌≡◌, ℕ, get_or, arith, ap}
use Rattle.line_counts.specs.Table.{own_cell}
use Rattle.line_counts.proofs.Cells.{raised_none, lowered_more, raised_all, untouched}
use Rattle.line_counts.proofs.table.lower.Goals as goal

pub overflow_sub-cells : goal.overflow_sub-cells
overflow_sub-cells c =
    let n = c.loop-number.number in
    let cells = c.loop-number.cells in
    let at : get_or cells c.own_cell.result 0 ≡ get_or cells (own_cell c.args.gutters.now c.args.width c.args.rect.now n) 0 = ap (λ (k : ℕ). get_or cells k 0) c.own_cell.ensures.value in
    omega (arith, at, untouched n c.args.gutters.now c.args.width c.args.rect.now c.loop-number-test.true c.requires.wide cells c.args.cells.now c.loop-number.invariant, c.requires.some n c.loop-number-test.true)

pub loop-number-init : goal.loop-number-init
loop-number-init c = raised_none c.args.gutters.now c.args.width c.args.rect.now c.args.cells.now

pub loop-number-preserved : goal.loop-number-preserved
loop-number-preserved c =
    lowered_more c.loop-number.number c.args.gutters.now c.args.width c.args.rect.now c.loop-number-test.true c.requires.wide c.args.cells.now c.loop-number.cells
    c.own_cell.result c.own_cell.ensures.value (omega (arith, c.own_cell.ensures.value, c.own_cell.ensures.within, c.loop-number.invariant.long, c.requires.long)) (c.requires.some c.loop-number.number c.loop-number-test.true) c.loop-number.invariant

pub returns : goal.returns
returns c = raised_all c.args.gutters.now c.args.width c.loop-number.number c.args.rect.now c.loop-number.cells c.args.cells.now (omega (arith, c.loop-number-test.false, c.loop-number.auto.number-end)) c.loop-number.invariant
