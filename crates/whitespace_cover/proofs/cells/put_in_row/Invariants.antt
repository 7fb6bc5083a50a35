use Rattle.whitespace_cover.specs.Index.{Adds}
use Rattle.whitespace_cover.proofs.Indexing.{TakenInRow}
use Rattle.whitespace_cover.proofs.cells.put_in_row.Given as goal

abbrev pub invariant-loop-column : goal.invariant-loop-column
invariant-loop-column l = record {
  adds : Adds l.rect l.initial.lists l.lists;
  taken : TakenInRow l.rect l.across l.row l.lists l.column;
}
