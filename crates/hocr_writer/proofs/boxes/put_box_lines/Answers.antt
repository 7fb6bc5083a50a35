use Rattle.std.proofs.Common.{List, length, arith, ap}
use Rattle.layout_geom.specs.declared.rect.Rect.{Rect}
use Rattle.hocr_writer.specs.Document.{box_line}
use Rattle.hocr_writer.proofs.Joined.{growing}
use Rattle.hocr_writer.proofs.Growing.{piece_more, piece_all}
use Rattle.hocr_writer.proofs.boxes.put_box_lines.Goals as goal

pub loop-number-preserved : goal.loop-number-preserved
loop-number-preserved c =
    let same = c.as_slice-bbox-items.ensures.same in
    let long = ap (λ (l : List Rect). length l) same in
    piece_more (box_line c.args.opening.now c.args.page) _ _ _ c.args.boxes.now _ _ (omega (arith, long, c.loop-number-test.true)) (rw same at c.bbox-item.is) c.loop-number.invariant
    (rw (c.in_ok-push.ensures.grown, c.in_ok-put_box_front.ensures.grown) (simp growing))

pub returns : goal.returns
returns c =
    let long = ap (λ (l : List Rect). length l) c.as_slice-bbox-items.ensures.same in
    record {
      grown = piece_all (box_line c.args.opening.now c.args.page) _ _ c.args.boxes.now _ (omega (arith, long, c.loop-number-test.false)) c.loop-number.invariant;
    }
