use Rattle.std.proofs.Common.{◌≡◌, length}
use Rattle.line_search.specs.Lines.{characters_of}
use Rattle.line_search.proofs.Taking.{EndsWell}
use Rattle.line_search.proofs.greedy.lines.Given as goal

abbrev pub invariant-loop-lines : goal.invariant-loop-lines
invariant-loop-lines g l = record {
  boxes : l.grid.boxes ≡ l.kept.boxes;
  gutters : l.grid.gutters ≡ l.gutters;
  height : l.grid.height ≡ l.height;
  median : l.grid.median ≡ l.kept.median;
  ending : EndsWell l.kept.boxes l.gutters l.height l.kept.median (characters_of l.kept) l.grid.alive l.lines;
  ready : g.F.Searcher.ready l.searcher;
}

abbrev pub decreases-loop-lines : goal.decreases-loop-lines
decreases-loop-lines g l = length l.grid.alive
