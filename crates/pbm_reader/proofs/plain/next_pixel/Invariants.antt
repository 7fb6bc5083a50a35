use Rattle.std.proofs.Common.{◌≡◌, ◌≤◌}
use Rattle.pbm_reader.proofs.PixelLoop.{IsBetween}
use Rattle.pbm_reader.proofs.plain.next_pixel.Given as goal

abbrev pub invariant-loop-at : goal.invariant-loop-at
invariant-loop-at g l = record {
  between : IsBetween l.initial.feed.source l.feed.source l.start l.at l.in_comment;
  same : l.feed.borrow ≡ l.initial.feed.borrow;
  later : l.initial.feed.source.faults ≤ l.feed.source.faults;
}
