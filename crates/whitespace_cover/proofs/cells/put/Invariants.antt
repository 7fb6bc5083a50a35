use Rattle.whitespace_cover.specs.Index.{Adds}
use Rattle.whitespace_cover.proofs.Indexing.{TakenAbove}
use Rattle.whitespace_cover.proofs.cells.put.Given as goal

abbrev pub invariant-loop-row : goal.invariant-loop-row
invariant-loop-row l = record {
  adds : Adds l.rect l.initial.lists l.lists;
  taken : TakenAbove l.rect l.across l.lists l.row;
}
