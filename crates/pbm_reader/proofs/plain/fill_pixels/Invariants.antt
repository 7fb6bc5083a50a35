use Rattle.std.proofs.Common.{◌≡◌, ◌≤◌, length}
use Rattle.pbm_reader.specs.Page.{row_len}
use Rattle.pbm_reader.proofs.PixelLoop.{IsFilling}
use Rattle.pbm_reader.proofs.plain.fill_pixels.Given as goal

abbrev pub invariant-loop-x : goal.invariant-loop-x
invariant-loop-x g l = record {
  filling : IsFilling l.initial.feed.source l.feed.source l.start l.at l.x l.row;
  buffer : length l.row ≡ row_len l.width;
  low : l.at ≤ 268435456;
  same : l.feed.borrow ≡ l.initial.feed.borrow;
  later : l.initial.feed.source.faults ≤ l.feed.source.faults;
}
