use Rattle.std.proofs.Common.{◌≡◌, ℕ, ◌+◌, ◌-◌, List, length, arith, drop, get_or, subst}
use Rattle.layout_geom.specs.declared.rect.Rect.{Rect}
use Rattle.whitespace_cover.specs.Index.{IsIndex}
use Rattle.whitespace_cover.proofs.Indexing.{index_more}
use Rattle.whitespace_cover.proofs.cells.put_rects.Goals as goal

pub loop-done-preserved : goal.loop-done-preserved
loop-done-preserved c =
    let rects : List Rect = c.args.rects.now in
    let i : ℕ = length rects - (c.loop-done.done + 1) in
    let place : length rects - 1 - c.loop-done.done ≡ i = omega arith in
    let behind : length rects - c.loop-done.done ≡ i + 1 = omega (arith, c.loop-done-test.true) in
    let at : c.index-rects-rects.result ≡ get_or rects i c.index-rects-rects.result =
    subst (λ (n : ℕ). c.index-rects-rects.result ≡ get_or rects n c.index-rects-rects.result) place c.index-rects-rects.is in
    index_more c.args.across c.args.rows rects i c.index-rects-rects.result c.loop-done.lists c.put.new.lists (omega (arith, c.loop-done-test.true)) at
    (subst (λ (n : ℕ). IsIndex c.args.across c.args.rows (drop n rects) c.loop-done.lists) behind c.loop-done.invariant) c.in_ok-put.ensures.adds c.in_ok-put.ensures.taken
