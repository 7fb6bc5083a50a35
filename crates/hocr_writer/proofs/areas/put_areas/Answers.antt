use Rattle.std.proofs.Common.{List, length, arith, ap}
use Rattle.layout_geom.specs.declared.area.Area.{Area}
use Rattle.hocr_writer.specs.Document.{area_text}
use Rattle.hocr_writer.proofs.Growing.{piece_more, piece_all}
use Rattle.hocr_writer.proofs.Wholes.{area_within, listing_long}
use Rattle.hocr_writer.proofs.areas.put_areas.Goals as goal

pub put_area-requires-clause-within : goal.put_area-requires-clause-within
put_area-requires-clause-within c =
    let layout = c.args.layout.now in
    let same = c.as_slice-area-items.ensures.same in
    let long = ap (λ (l : List Area). length l) same in
    omega (
      arith,
      listing_long layout.order (length layout.lines) c.requires.order,
      area_within 0 (length layout.lines) layout.areas c.loop-number.number c.area-item.result c.requires.areas (omega (arith, long, c.loop-number-test.true)) (rw same at c.area-item.is),
    )

pub loop-number-preserved : goal.loop-number-preserved
loop-number-preserved c =
    let layout = c.args.layout.now in
    let same = c.as_slice-area-items.ensures.same in
    let long = ap (λ (l : List Area). length l) same in
    piece_more (area_text layout) _ _ _ layout.areas _ _ (omega (arith, long, c.loop-number-test.true)) (rw same at c.area-item.is) c.loop-number.invariant c.in_ok-put_area.ensures.grown

pub returns : goal.returns
returns c =
    let same = c.as_slice-area-items.ensures.same in
    let long = ap (λ (l : List Area). length l) same in
    record {
      grown = piece_all (area_text c.args.layout.now) _ _ c.args.layout.now.areas _ (omega (arith, long, c.loop-number-test.false)) c.loop-number.invariant;
    }
