-- The words of a line.
use Rattle.std.specs.Prelude.{◌≡◌, ℕ, ◌+◌, ◌-◌, ◌<◌, ◌≤◌, List, [], ◌∷◌, length, slice_index}
use Rattle.std.specs.List.{AllWithin}
use Rattle.std.specs.List.Sorted.{IsPermutation}
use Rattle.layout_geom.specs.declared.rect.Rect.{Rect}
use Rattle.layout_geom.specs.Rectangles.{Encloses, IsLeastRect}
use Rattle.word_split.specs.Members.{IsLine}
use Rattle.word_split.specs.Gaps.{AreGapsOf}
use Rattle.word_split.specs.Thresholds.{IsThreshold}

-- the gap at a place is wider than the threshold of the line
abbrev pub IsBreak : List ℕ → ℕ → ℕ → Type 0
IsBreak gaps median place = (t : ℕ) × IsThreshold gaps median t × (t < slice_index gaps place)

-- A stretch of a line from a first box up to a last one, which is excluded: no break is within it, it ends at a break or at the end of
-- the line, and this is the least rectangle round it. Place k is between box k and the next.
pub record IsWord (line : List Rect) (BreaksAt : ℕ → Type 0) (first last : ℕ) (word : Rect) : Type 0 where
  pub some : first < last
  pub fits : last ≤ length line
  pub whole : (k : ℕ) → first ≤ k → k + 1 < last → BreaksAt k → ⊥
  pub cut : last < length line → BreaksAt (last - 1)
  pub round : IsLeastRect (λ outer. AllWithin (Encloses outer) line first last) word

-- the words that a line falls into from a box on
abbrev pub AreWordsFrom : List Rect → (ℕ → Type 0) → ℕ → List Rect → Type 0
AreWordsFrom line BreaksAt first [] = first ≡ length line
AreWordsFrom line BreaksAt first (word ∷ words) =
    (last : ℕ) × IsWord line BreaksAt first last word × AreWordsFrom line BreaksAt last words

-- The words of the members of a line, from left to right, where the text has a median height. Where the gaps have no threshold, no gap
-- is a break, and the line is one word.
pub record AreWordsOf (boxes : List Rect) (members : List ℕ) (median : ℕ) (words : List Rect) : Type 0 where
  pub line : List Rect
  pub gaps : List ℕ
  pub in_order : IsLine boxes members line
  pub between : AreGapsOf line gaps
  pub parted : AreWordsFrom line (IsBreak gaps median) 0 words

-- members have one list of words at most, in whatever order they are named
abbrev pub WordsAreUnique : Type 0
WordsAreUnique =
    (boxes : List Rect) (members others : List ℕ) (median : ℕ) (xs ys : List Rect)
    → IsPermutation members others → AreWordsOf boxes members median xs → AreWordsOf boxes others median ys → xs ≡ ys
