use Rattle.std.proofs.Common.{List, ◌-◌, ◌≤◌, ◌++◌, length, get_or}
use Rattle.layout_geom.specs.declared.rect.Rect.{Rect}
use Rattle.word_split.specs.Partings.{IsAbove}
use Rattle.word_split.specs.Words.{AreWordsFrom}
use Rattle.word_split.proofs.words.split.Given as goal

abbrev pub invariant-loop-first : goal.invariant-loop-first
invariant-loop-first l =
    (l.first ≤ length l.line)
    × ((rest : List Rect) → AreWordsFrom l.line (λ k. IsAbove l.threshold (get_or l.gaps k 0)) l.first rest
    → AreWordsFrom l.line (λ k. IsAbove l.threshold (get_or l.gaps k 0)) 0 (l.words ++ rest))

abbrev pub decreases-loop-first : goal.decreases-loop-first
decreases-loop-first l = length l.line - l.first
