use Rattle.std.proofs.Common.{◌≡◌, ◌<◌, ℕ, length}
use Rattle.std.specs.Prelude.{slice_index}
use Rattle.hocr_writer.proofs.whole.are_distinct.Given as goal

-- The numbers so far are equal to none behind them.
abbrev pub invariant-loop-place : goal.invariant-loop-place
invariant-loop-place l = (i j : ℕ) → i < l.place → i < j → j < length l.numbers → slice_index l.numbers i ≡ slice_index l.numbers j → ⊥
