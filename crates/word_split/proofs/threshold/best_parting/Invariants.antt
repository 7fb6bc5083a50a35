use Rattle.std.proofs.Common.{◌≡◌, ◌-◌, ◌≤◌, max, length, get_or, sum, take}
use Rattle.word_split.proofs.Best.{IsBestBelow}
use Rattle.word_split.proofs.threshold.best_parting.Given as goal

abbrev pub invariant-loop-count : goal.invariant-loop-count
invariant-loop-count l = record {
  within : l.count ≤ max 1 (length l.rising);
  narrow : l.narrow_sum ≡ sum (take (l.count - 1) l.rising);
  best : IsBestBelow l.rising (get_or l.rising (l.count - 1) 0) l.best;
}
