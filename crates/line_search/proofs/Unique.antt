-- A page has one list of lines.
use Rattle.std.proofs.Common.{◌≡◌, ◌∙◌, ℕ, ◌≤◌, ℤ, List, [], ◌∷◌, arith, refl, sym, ap, subst}
use Rattle.std.proofs.Math.Nat.{le_antisymm}
use Rattle.std.proofs.lemmas.Int.{ints}
use Rattle.layout_geom.specs.declared.rect.Rect.{Rect}
use Rattle.layout_geom.specs.SameSides.{one_least}
use Rattle.line_quality.specs.Scores.{IsScore, group_of}
use Rattle.line_quality.specs.ScoreLaws.{same_score}
use Rattle.line_quality.specs.Keys.{scored, IsOfGrid}
use Rattle.line_quality.specs.KeyLaws.{SamePoint, same_point}
use Rattle.line_search.specs.declared.line.Line.{Line}
use Rattle.line_search.specs.Lines.{IsRound, IsLeastRound, without, IsPoint, IsBestLine, IsLineList, characters_of, LinesAreUnique}

line_of : ℤ → ℤ → ℕ → List ℕ → Rect → ℕ → Line
line_of slope offset depth members bbox score = record { slope = slope; offset = offset; depth = depth; members = members; bbox = bbox; score = score }

same_parts : (l m : Line) → l.slope ≡ m.slope → l.offset ≡ m.offset → l.depth ≡ m.depth → l.members ≡ m.members → l.bbox ≡ m.bbox → l.score ≡ m.score → l ≡ m
unfolding line_of
same_parts l m slopes offsets depths members boxes scores =
    let same : line_of l.slope l.offset l.depth l.members l.bbox l.score ≡ line_of m.slope m.offset m.depth m.members m.bbox m.score = cc in
    same

of_grid_line : (height median : ℕ) → height ≤ 8192 → (l : Line) → IsPoint height median l.slope l.offset l.depth
    → IsOfGrid (scored l.score l.slope l.offset l.depth)
of_grid_line height median high l point = record {
  slope_in = point.slope_in;
  offset_in = record { low = point.low; high = omega (arith, ints, high, point.high) };
  depth_in = omega (arith, point.shallow);
}

module _ (boxes gutters : List Rect) (alive : List ℕ) where
  -- the group of the column that wins
  one_group : (slope offset : ℤ) (depth : ℕ) (score score' in_column in_column' : ℕ) → IsScore slope offset depth boxes gutters alive score in_column → IsScore slope offset depth boxes gutters alive score' in_column' → group_of slope offset depth boxes gutters in_column alive ≡ group_of slope offset depth boxes gutters in_column' alive
  one_group slope offset depth score score' in_column in_column' is is' =
      ap (λ (column : ℕ). group_of slope offset depth boxes gutters column alive) (same_score slope offset depth boxes gutters alive score score' in_column in_column' is is').1

  same_group : (slope slope' offset offset' : ℤ) (depth depth' : ℕ) (score score' in_column in_column' : ℕ) → slope ≡ slope' → offset ≡ offset' → depth ≡ depth'
      → IsScore slope offset depth boxes gutters alive score in_column → IsScore slope' offset' depth' boxes gutters alive score' in_column'
      → group_of slope offset depth boxes gutters in_column alive ≡ group_of slope' offset' depth' boxes gutters in_column' alive
  same_group slope slope' offset offset' depth depth' score score' in_column in_column' slopes offsets depths is is' =
      let here : IsScore slope' offset' depth' boxes gutters alive score in_column = rw (slopes, offsets, depths) at is in
      rw (slopes, offsets, depths) (one_group slope' offset' depth' score score' in_column in_column' here is')

  module _ (height median : ℕ) (high : height ≤ 8192) where
    -- each of two best lines has at least the key of the other
    one_point : (l m : Line) → IsBestLine boxes gutters height median alive l → IsBestLine boxes gutters height median alive m
        → SamePoint (scored l.score l.slope l.offset l.depth) (scored m.score m.slope m.offset m.depth)
    one_point l m best best' =
        same_point (scored l.score l.slope l.offset l.depth) (scored m.score m.slope m.offset m.depth)
        (of_grid_line height median high l best.admissible.scored.point) (of_grid_line height median high m best'.admissible.scored.point)
        (le_antisymm (best'.greatest l.slope l.offset l.depth l.score best.admissible) (best.greatest m.slope m.offset m.depth m.score best'.admissible))

    one_line : (l m : Line) → IsBestLine boxes gutters height median alive l → IsBestLine boxes gutters height median alive m → l ≡ m
    one_line l m best best' =
        let point = one_point l m best best' in
        let here = best.admissible.scored in
        let there = best'.admissible.scored in
        let members : l.members ≡ m.members = best.members ∙ same_group l.slope m.slope l.offset m.offset l.depth m.depth l.score m.score here.in_column there.in_column point.slopes point.offsets point.depths here.scored there.scored ∙ sym best'.members in
        let least : IsLeastRound boxes m.members l.bbox = subst (λ (positions : List ℕ). IsLeastRound boxes positions l.bbox) members best.bbox in
        same_parts l m point.slopes point.offsets point.depths members (one_least (IsRound boxes m.members) l.bbox m.bbox least best'.bbox) point.scores

one_list : (boxes gutters : List Rect) (height median : ℕ) → height ≤ 8192 → (alive : List ℕ) (xs ys : List Line) → IsLineList boxes gutters height median alive xs → IsLineList boxes gutters height median alive ys → xs ≡ ys
one_list boxes gutters height median high alive [] [] none none' = refl
one_list boxes gutters height median high alive [] (y ∷ ys) none are' = absurd (none y.slope y.offset y.depth y.score are'.0.admissible)
one_list boxes gutters height median high alive (x ∷ xs) [] are none = absurd (none x.slope x.offset x.depth x.score are.0.admissible)
one_list boxes gutters height median high alive (x ∷ xs) (y ∷ ys) are are' =
    let line : x ≡ y = one_line boxes gutters alive height median high x y are.0 are'.0 in
    let left : IsLineList boxes gutters height median (without y.members alive) xs = subst (λ (l : Line). IsLineList boxes gutters height median (without l.members alive) xs) line are.1 in
    let lines : xs ≡ ys = one_list boxes gutters height median high (without y.members alive) xs ys left are'.1 in
    cc (line, lines)

pub lines_unique : LinesAreUnique
lines_unique = λ kept gutters height xs ys high are are'. one_list kept.boxes gutters height kept.median high (characters_of kept) xs ys are are'
