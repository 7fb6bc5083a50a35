use Rattle.std.proofs.Common.{ℕ, ◌+◌, ◌<◌, ◌≤◌, get_or}
use Rattle.layout_geom.specs.Rectangles.{IsLeastRect}
use Rattle.word_split.specs.Partings.{IsAbove}
use Rattle.word_split.proofs.Rounds.{IsRoundWithin}
use Rattle.word_split.proofs.words.word_at.Given as goal

abbrev pub invariant-loop-place : goal.invariant-loop-place
invariant-loop-place l = record {
  round : IsLeastRect (IsRoundWithin l.line l.first (l.place + 1)) l.bbox;
  whole : (k : ℕ) → l.first ≤ k → k < l.place → IsAbove l.threshold (get_or l.gaps k 0) → ⊥;
}
