-- The words that are found are those of the members.
use Rattle.std.proofs.Common.{ℕ, List, Option, Result, Ok, Err, IfOk, get_or}
use Rattle.layout_geom.specs.declared.rect.Rect.{Rect}
use Rattle.word_split.specs.Members.{IsLine}
use Rattle.word_split.specs.Gaps.{AreGapsOf}
use Rattle.word_split.specs.Thresholds.{IsThresholdOf}
use Rattle.word_split.specs.Partings.{IsAbove}
use Rattle.word_split.specs.Words.{IsBreak, AreWordsFrom, AreWordsOf}
use Rattle.word_split.proofs.Rounds.{words_same}
use Rattle.word_split.proofs.Chosen.{above_is_break}

abbrev pub AreWordsAbove : List Rect → List ℕ → Option ℕ → List Rect → Type 0
AreWordsAbove line gaps found words = AreWordsFrom line (λ k. IsAbove found (get_or gaps k 0)) 0 words

pub words_found : {E : Type 0} (boxes : List Rect) (members : List ℕ) (median : ℕ) (line : List Rect) (gaps : List ℕ) (found : Option ℕ) (result : Result (List Rect) E)
    → IsLine boxes members line → AreGapsOf line gaps → IsThresholdOf gaps median found → IfOk result (AreWordsAbove line gaps found) → IfOk result (AreWordsOf boxes members median)
words_found boxes members median line gaps found (Ok words) in_order between threshold parted = record {
  line = line;
  gaps = gaps;
  in_order = in_order;
  between = between;
  parted = words_same line (λ k. IsAbove found (get_or gaps k 0)) (IsBreak gaps median) (above_is_break gaps median found threshold) 0 words parted;
}
words_found boxes members median line gaps found (Err e) in_order between threshold parted = tt
