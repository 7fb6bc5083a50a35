-- The members of a line stand in rising order.
use Rattle.std.proofs.Common.{ℕ, ◌+◌, ◌<◌, List, [], ◌∷◌, length, All, arith, sym, subst, not, ◌==◌, slice_get}
use Rattle.std.specs.List.{list_any, range_with_len}
use Rattle.std.specs.List.Sorted.{IsStrictlyIncreasing}
use Rattle.std.proofs.lemmas.List.Kept.{IsStrictlyIncreasing-filter}
use Rattle.std.proofs.lemmas.List.FromFn.{length-range_with_len, get_or-range_with_len}
use Rattle.std.proofs.lemmas.List.Elements.{All-nil, All-cons}
use Rattle.layout_geom.specs.declared.rect.Rect.{Rect}
use Rattle.components.specs.declared.kept.Kept.{Kept}
use Rattle.line_quality.specs.Scores.{is_of}
use Rattle.line_search.specs.declared.line.Line.{Line}
use Rattle.line_search.specs.Lines.{IsLineList, without, is_character, characters_of}

range_rises : (a n : ℕ) → IsStrictlyIncreasing (range_with_len a n)
range_rises a n = λ k below.
    let within : k + 1 < n = omega (arith, below, length-range_with_len a n) in
    omega (arith, get_or-range_with_len a n k 0 (omega arith), get_or-range_with_len a n (k + 1) 0 within)

pub characters_rise : (kept : Kept) → IsStrictlyIncreasing (characters_of kept)
characters_rise kept = IsStrictlyIncreasing-filter (λ position. is_character kept.median (slice_get kept.boxes position)) (range_with_len 0 (length kept.boxes)) (range_rises 0 (length kept.boxes))

abbrev MembersRise : Line → Type 0
MembersRise line = IsStrictlyIncreasing line.members

pub members_rise : (boxes gutters : List Rect) (height median : ℕ) (alive : List ℕ) (lines : List Line) → IsStrictlyIncreasing alive → IsLineList boxes gutters height median alive lines → All (λ line. IsStrictlyIncreasing line.members) lines
members_rise boxes gutters height median alive [] rising are = All-nil MembersRise
members_rise boxes gutters height median alive (line ∷ lines) rising are =
    let best = are.0 in
    All-cons MembersRise line lines
    (subst (λ (xs : List ℕ). IsStrictlyIncreasing xs) (sym best.members) (IsStrictlyIncreasing-filter (λ position. is_of line.slope line.offset line.depth gutters best.admissible.scored.in_column (slice_get boxes position)) alive rising))
    (members_rise boxes gutters height median (without line.members alive) lines
    (IsStrictlyIncreasing-filter (λ position. not (list_any (λ member. member == position) line.members)) alive rising) are.1)
