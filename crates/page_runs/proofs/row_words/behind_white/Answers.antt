use Rattle.std.proofs.Common.{arith}
use Rattle.page_runs.proofs.RowRuns.{white_passed}
use Rattle.page_runs.proofs.row_words.behind_white.Goals as goal

pub loop-byte-preserved : goal.loop-byte-preserved
loop-byte-preserved c = record {
  not_before = omega (arith, c.loop-byte.invariant.not_before);
  bound = omega (arith, c.loop-byte-test.true);
  white = white_passed _ _ _ c.loop-byte.byte c.loop-byte.invariant.white c.word_at.ensures c.if-word_at-eq0.true;
}
