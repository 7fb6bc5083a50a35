use Rattle.std.proofs.Common.{◌≡◌, ◌++◌, length}
use Rattle.whitespace_cover.specs.Cover.{EachIsBest}
use Rattle.whitespace_cover.proofs.greedy.cover.Given as goal

abbrev pub invariant-loop : goal.invariant-loop
invariant-loop g l = record {
  page : l.white.page ≡ l.fn.page;
  obstacles : l.white.obstacles ≡ l.initial.white.obstacles ++ l.rects;
  least : l.white.least ≡ l.fn.least;
  each : EachIsBest l.fn.page l.boxes l.fn.least l.rects;
  many : length l.rects ≡ l.counter;
  ready : g.F.Searcher.ready l.searcher;
}
