use Rattle.std.proofs.Common.{ℕ, ◌+◌, ◌*◌, ◌<◌, List, [], length, arith, subst}
use Rattle.std.proofs.lemmas.List.{get_or_default}
use Rattle.layout_geom.specs.declared.rect.Rect.{Rect}
use Rattle.whitespace_cover.specs.Index.{list_at}
use Rattle.whitespace_cover.proofs.Indexing.{IsGrown, adds_chain, adds_one, row_more}
use Rattle.whitespace_cover.proofs.cells.put_in_row.Goals as goal

pub loop-column-preserved : goal.loop-column-preserved
loop-column-preserved c =
    let rect : Rect = c.args.rect.now in
    let cell : ℕ = c.args.row * c.args.across + c.loop-column.column in
    let within : cell < length c.loop-column.lists = omega (arith, c.requires.there, c.loop-column.invariant.adds.whole, c.loop-column-test.true, c.min-column-end.ensures) in
    let grown : IsGrown rect (list_at c.loop-column.lists cell) c.put_in_cell.new.list =
    subst (λ (old : List Rect). IsGrown rect old c.put_in_cell.new.list) (get_or_default c.loop-column.lists cell _ [] within) c.in_ok-put_in_cell.ensures.grown in
    record {
      adds = adds_chain rect c.args.lists.now c.loop-column.lists _ c.loop-column.invariant.adds (adds_one rect c.loop-column.lists cell c.put_in_cell.new.list within grown);
      taken = row_more rect c.args.across c.args.row c.loop-column.column c.loop-column.lists c.put_in_cell.new.list within grown c.in_ok-put_in_cell.ensures.taken c.loop-column.invariant.taken;
    }
