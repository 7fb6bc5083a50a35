use Rattle.std.proofs.Common.{◌≡◌, ◌+◌, ◌<◌, ◌≤◌, slice_index, ℕ}
use Rattle.search_trials.proofs.table.Table.greatest.Given as goal

abbrev pub invariant-loop-place : goal.invariant-loop-place
invariant-loop-place l =
    ((place : ℕ) → l.from ≤ place → place < l.place → slice_index l.self.keys.now place ≤ l.greatest) ×
    (l.place ≡ l.from → l.greatest ≡ 0) ×
    (l.place ≡ l.from + 1 → l.greatest ≡ slice_index l.self.keys.now l.from)
