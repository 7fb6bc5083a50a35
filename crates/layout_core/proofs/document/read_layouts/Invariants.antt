use Rattle.std.proofs.Common.{◌≤◌, ◌-◌}
use Rattle.layout_core.specs.Reading.{HasLaidOut}
use Rattle.layout_core.proofs.document.read_layouts.Given as goal

-- Some pages were read and laid out, and the ways are ready.
abbrev pub invariant-loop-layouts : goal.invariant-loop-layouts
invariant-loop-layouts g l = record {
  ready : g.F.Searcher.ready l.ways.whites × g.G.Searcher.ready l.ways.lines × g.T.PageTasks.ready l.ways.tasks;
  laid : HasLaidOut l.plan (g.S.Source.view l.fn.src) l.images (g.S.Source.view l.src) l.layouts;
  faults : (g.S.Source.view l.fn.src).faults ≤ (g.S.Source.view l.src).faults;
}

-- The reader gives no more than 256 pages.
abbrev pub decreases-loop-layouts : goal.decreases-loop-layouts
decreases-loop-layouts g l = 256 - l.images.count
