use Rattle.std.proofs.Common.{◌≡◌, ◌≤◌}
use Rattle.layout_outside.specs.Views.{SourceView}
use Rattle.layout_outside.specs.Taken.{Took}
use Rattle.pbm_reader.specs.Spelling.{magic}
use Rattle.pbm_reader.proofs.HeaderLoop.{IsNamedReading}
use Rattle.pbm_reader.proofs.Held.{IsHeldReading}
use Rattle.pbm_reader.proofs.header.read_sizes.Given as goal

abbrev pub invariant-loop-at : goal.invariant-loop-at
invariant-loop-at g l = record {
  reading : (first : SourceView) → Took first l.initial.feed.source (magic l.form) → IsNamedReading first l.feed.source l.form l.at l.state;
  held : IsHeldReading l.initial.feed l.feed l.form l.at l.state;
  same : l.feed.borrow ≡ l.initial.feed.borrow;
  later : l.initial.feed.source.faults ≤ l.feed.source.faults;
}
