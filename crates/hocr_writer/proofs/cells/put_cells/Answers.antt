use Rattle.std.proofs.Common.{List, length, arith, ap}
use Rattle.xy_cut.specs.declared.cell.Cell.{Cell}
use Rattle.hocr_writer.specs.Cells.{cell_line}
use Rattle.hocr_writer.proofs.Growing.{piece_more, piece_all}
use Rattle.hocr_writer.proofs.cells.put_cells.Goals as goal

pub loop-number-preserved : goal.loop-number-preserved
loop-number-preserved c =
    let same = c.as_slice-cell-items.ensures.same in
    let long = ap (λ (l : List Cell). length l) same in
    piece_more (cell_line c.args.page) _ _ _ c.args.cells.now _ _ (omega (arith, long, c.loop-number-test.true)) (rw same at c.cell-item.is) c.loop-number.invariant c.in_ok-put_cell.ensures.grown

pub returns : goal.returns
returns c =
    let long = ap (λ (l : List Cell). length l) c.as_slice-cell-items.ensures.same in
    record { grown = piece_all (cell_line c.args.page) _ _ c.args.cells.now _ (omega (arith, long, c.loop-number-test.false)) c.loop-number.invariant }
