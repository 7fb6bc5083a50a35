-- What it means to take the best line away.
use Rattle.std.proofs.Common.{◌≡◌, ℕ, ◌+◌, ◌<◌, ◌≤◌, arith, refl, sym, ◌∙◌, ap, subst, append_assoc, append-nil, List, [], ◌∷◌, ◌++◌, length, slice_get, ℤ, Bool, true, false, not, ◌&&◌, ◌==◌, All, Contains, to_z, of_z, w8, w16, ⊎_elim}
use Rattle.std.proofs.lemmas.Int.{ints}
use Rattle.std.proofs.lemmas.Bool.Decides.{nat_tests}
use Rattle.std.proofs.lemmas.Map.Views.{any-filter_same}
use Rattle.std.proofs.lemmas.List.Elements.{All-filter, All-head, All-tail, All-weaker, All-contains_itself, at_from_Contains}
use Rattle.std.proofs.lemmas.List.Folds.{list_any-from_Any}
use Rattle.std.proofs.lemmas.List.Filters.{length-filter_both}
use Rattle.std.proofs.lemmas.List.Sorted.{IsPermutation-filter_both}
use Rattle.std.specs.List.{filter, sum_by, list_any}
use Rattle.std.specs.List.Sorted.{IsPermutation}
use Rattle.layout_geom.specs.declared.rect.Rect.{Rect}
use Rattle.box_search.specs.Problems.{on_numbers}
use Rattle.box_search.specs.Search.{IsGreatestKey}
use Rattle.line_quality.specs.Scores.{IsScore, group_of, is_of, weight_of}
use Rattle.line_quality.specs.ScoreLaws.{same_score}
use Rattle.line_quality.specs.Keys.{line_key, Scored, scored, IsOfGrid, key_of, IsLineKey}
use Rattle.line_search.specs.declared.line.Line.{Line}
use Rattle.line_search.specs.declared.members.Winner.{Winner}
use Rattle.line_search.specs.declared.members.Division.{Division}
use Rattle.line_search.specs.Lines.{IsPoint, IsAdmissiblePoint, IsBestLine, IsLeastRound, HasNoLine, IsLineList, without}
use Rattle.line_search.specs.Problem.{GridProblem, grid_numbers, HasPointOfKey, IsGridKey, IsWithinLimits}
use Rattle.line_search.specs.Taken.{IsTaken}
use Rattle.line_search.specs.GridLaws.{admitted_here, of_grid}

-- the key is the answer for the problem
abbrev pub IsGridAnswer : GridProblem → ℕ → Type 0
IsGridAnswer problem key = IsGreatestKey (IsGridKey (grid_numbers problem)) key

-- the admissible points of the problem, its best line, and that it has none
abbrev pub IsAdmissibleIn : GridProblem → ℤ → ℤ → ℕ → ℕ → Type 0
IsAdmissibleIn problem slope offset depth score =
    IsAdmissiblePoint problem.boxes problem.gutters problem.height problem.median problem.alive slope offset depth score

abbrev pub IsBestIn : GridProblem → Line → Type 0
IsBestIn problem line = IsBestLine problem.boxes problem.gutters problem.height problem.median problem.alive line

abbrev pub HasNoLineIn : GridProblem → Type 0
HasNoLineIn problem = HasNoLine problem.boxes problem.gutters problem.height problem.median problem.alive

-- the slope, the offset and the depth are those that the key stands for
abbrev pub Decodes : ℕ → ℤ → ℤ → ℕ → Type 0
Decodes key s b d = (line : Scored) → IsOfGrid line → key_of line ≡ key → (line.slope ≡ s) × (line.offset ≡ b) × (line.depth ≡ d)

decodes_as : (key : ℕ) (s b s' b' : ℤ) (d d' : ℕ) → s ≡ s' → b ≡ b' → d ≡ d' → Decodes key s b d → Decodes key s' b' d'
decodes_as key s b s' b' d d' same_s same_b same_d decodes = λ line of_grid is.
    let found = decodes line of_grid is in
    (found.0 ∙ same_s, found.1 ∙ same_b, found.2 ∙ same_d)

found_at : (problem : GridProblem) (key : ℕ) → IsGridAnswer problem key → 0 < key → HasPointOfKey key problem
found_at problem key answer some = ⊎_elim
    (λ (none : key ≡ 0). absurd (omega (arith, none, some)))
    (λ (admitted : IsGridKey (grid_numbers problem) key). admitted_here problem (grid_numbers problem) key refl admitted)
    answer.sound

-- the point that was found, with its score
abbrev pub found_line : (problem : GridProblem) (key : ℕ) → HasPointOfKey key problem → Scored
found_line problem key found = scored found.score found.slope found.offset found.depth

found_of_grid : (problem : GridProblem) (key : ℕ) → problem.height ≤ 8192 → (found : HasPointOfKey key problem) → IsOfGrid (found_line problem key found)
found_of_grid problem key high found = of_grid problem found.score found.slope found.offset found.depth found.admissible.scored.point high

pub is_line_key : (problem : GridProblem) (key : ℕ) → problem.height ≤ 8192 → IsGridAnswer problem key → 0 < key → IsLineKey key
is_line_key problem key high answer some =
    let found = found_at problem key answer some in
    record { line = found_line problem key found; of_grid = found_of_grid problem key high found; is = found.has_key }

-- the decoded point is the admitted one
pub record IsWinner (problem : GridProblem) (key : ℕ) (s b : ℤ) (d score : ℕ) : Type 0 where
  pub point : IsPoint problem.height problem.median s b d
  pub enough : 60 ≤ score
  pub is : line_key score s b d ≡ key

-- what holds of a point holds of the same one
pub same_place : (P : ℤ → ℤ → ℕ → Type 0) (s b s' b' : ℤ) (d d' : ℕ) → s ≡ s' → b ≡ b' → d ≡ d' → P s b d → P s' b' d'
same_place P s b s' b' d d' same_s same_b same_d holds =
    subst (λ (z : ℤ). P z b' d') same_s (subst (λ (z : ℤ). P s z d') same_b (subst (λ (n : ℕ). P s b n) same_d holds))

winner_is : (problem : GridProblem) (key : ℕ) → problem.height ≤ 8192 → IsGridAnswer problem key → 0 < key → (s b : ℤ) (d : ℕ)
    → Decodes key s b d → (score in_column : ℕ) → IsScore s b d problem.boxes problem.gutters problem.alive score in_column
    → IsWinner problem key s b d score
winner_is problem key high answer some s b d decodes score in_column scored =
    let found = found_at problem key answer some in
    let at = found.admissible.scored in
    let same = decodes (found_line problem key found) (found_of_grid problem key high found) found.has_key in
    let point : IsPoint problem.height problem.median s b d =
    same_place (λ z y n. IsPoint problem.height problem.median z y n) found.slope found.offset s b found.depth d same.0 same.1 same.2 at.point in
    let here : IsScore s b d problem.boxes problem.gutters problem.alive found.score at.in_column =
    same_place (λ z y n. IsScore z y n problem.boxes problem.gutters problem.alive found.score at.in_column) found.slope found.offset s b found.depth d same.0 same.1 same.2 at.scored in
    let one : found.score ≡ score = (same_score s b d problem.boxes problem.gutters problem.alive found.score score at.in_column in_column here scored).0 in
    let key_here : line_key found.score s b d ≡ key =
    same_place (λ z y n. line_key found.score z y n ≡ key) found.slope found.offset s b found.depth d same.0 same.1 same.2 found.has_key in
    record {
      point = point;
      enough = omega (arith, one, found.admissible.enough);
      is = subst (λ (n : ℕ). line_key n s b d ≡ key) one key_here;
    }

admits : (problem : GridProblem) (slope offset : ℤ) (depth score : ℕ) → IsAdmissibleIn problem slope offset depth score → IsGridKey (grid_numbers problem) (line_key score slope offset depth)
admits problem slope offset depth score point =
    on_numbers grid_numbers (HasPointOfKey (line_key score slope offset depth)) problem (record { slope = slope; offset = offset; depth = depth; score = score; has_key = refl; admissible = point })

pub best_is : (problem : GridProblem) (key : ℕ) → IsGridAnswer problem key → (winner : Winner) (division : Division) (line : Line)
    → IsTaken problem key line.score winner division → line.slope ≡ winner.slope → line.offset ≡ winner.offset → line.depth ≡ winner.depth
    → line.members ≡ division.members → IsLeastRound problem.boxes line.members line.bbox → IsBestIn problem line
best_is problem key answer winner division line taken slopes offsets depths members round =
    let point : IsPoint problem.height problem.median line.slope line.offset line.depth = rw (slopes, offsets, depths) taken.point in
    let scored : IsScore line.slope line.offset line.depth problem.boxes problem.gutters problem.alive line.score winner.column = rw (slopes, offsets, depths) taken.scored in
    let has_key : line_key line.score line.slope line.offset line.depth ≡ key = rw (slopes, offsets, depths) taken.has_key in
    record {
      admissible = record { scored = record { point = point; in_column = winner.column; scored = scored }; enough = taken.enough };
      greatest = λ slope offset depth score point. omega (arith, has_key, answer.greatest (line_key score slope offset depth) (admits problem slope offset depth score point));
      members = rw (slopes, offsets, depths) (members ∙ taken.members);
      bbox = round;
    }

pub no_line : (problem : GridProblem) (key : ℕ) → IsGridAnswer problem key → key ≡ 0 → HasNoLineIn problem
no_line problem key answer zero_is = λ slope offset depth score point. answer.none zero_is (line_key score slope offset depth) (admits problem slope offset depth score point)

some_of : (f : ℕ → ℕ) (xs : List ℕ) → 0 < sum_by f xs → 0 < length xs
some_of f [] some = absurd (omega arith)
some_of f (x ∷ xs) some = omega arith

pub members_some : (problem : GridProblem) (key score : ℕ) (winner : Winner) (division : Division) → IsTaken problem key score winner division → 0 < length division.members
members_some problem key score winner division taken =
    rw taken.members (some_of (λ (position : ℕ). weight_of winner.slope winner.offset winner.depth (slice_get problem.boxes position)) (group_of winner.slope winner.offset winner.depth problem.boxes problem.gutters winner.column problem.alive) (omega (arith, taken.scored.reached, taken.enough)))

pub members_within : (problem : GridProblem) (key score : ℕ) (winner : Winner) (division : Division) → IsTaken problem key score winner division → All (λ position. position < length problem.boxes) problem.alive → All (λ position. position < length problem.boxes) division.members
members_within problem key score winner division taken within =
    rw taken.members (All-filter (λ (position : ℕ). is_of winner.slope winner.offset winner.depth problem.gutters winner.column (slice_get problem.boxes position)) (λ (position : ℕ). position < length problem.boxes) problem.alive within)

-- a test that agrees on a list keeps the same of it
filter_agrees : (p q : ℕ → Bool) (xs : List ℕ) → All (λ x. p x ≡ q x) xs → filter p xs ≡ filter q xs
filter_agrees p q [] all = refl
filter_agrees p q (x ∷ xs) all =
    let here : p x ≡ q x = All-head (λ (y : ℕ). p y ≡ q y) x xs all in
    let others : filter p xs ≡ filter q xs = filter_agrees p q xs (All-tail (λ (y : ℕ). p y ≡ q y) x xs all) in
    rw (here, others) refl

same_number : (x y : ℕ) → (x == y) ≡ true → x ≡ y
same_number x y e = grind (arith, nat_tests)

itself : (x : ℕ) → (x == x) ≡ true
itself x = grind (arith, nat_tests)

and_true : (a b : Bool) → b ≡ true → (a && b) ≡ a
and_true true b e = e
and_true false b e = refl

member_test : (p : ℕ → Bool) (xs : List ℕ) (x : ℕ) → list_any (λ y. y == x) xs ≡ true → p x ≡ list_any (λ y. y == x) (filter p xs)
member_test p xs x there =
    sym (any-filter_same (λ (y : ℕ). y == x) p (p x) (λ y e. ap p (same_number y x e)) xs ∙ and_true (p x) (list_any (λ (y : ℕ). y == x) xs) there)

-- each element is found in its list
found_in : (xs : List ℕ) (x : ℕ) → Contains xs x → list_any (λ y. y == x) xs ≡ true
found_in xs x there =
    let at = at_from_Contains xs x there in
    list_any-from_Any (λ (y : ℕ). y == x) xs (at.0, x, at.1, at.2 x, itself x)

pub rest_is : (problem : GridProblem) (key score : ℕ) (winner : Winner) (division : Division) → IsTaken problem key score winner division → division.others ≡ without division.members problem.alive
rest_is problem key score winner division taken =
    let p : ℕ → Bool = λ position. is_of winner.slope winner.offset winner.depth problem.gutters winner.column (slice_get problem.boxes position) in
    taken.others ∙ filter_agrees (λ (position : ℕ). not (p position)) (λ (position : ℕ). not (list_any (λ member. member == position) division.members)) problem.alive
    (All-weaker (Contains problem.alive) (λ (x : ℕ). not (p x) ≡ not (list_any (λ member. member == x) division.members))
    (λ x there. ap not (rw taken.members (member_test p problem.alive x (found_in problem.alive x there)))) problem.alive (All-contains_itself problem.alive))

pub fewer_are : (problem : GridProblem) (key score : ℕ) (winner : Winner) (division : Division) → IsTaken problem key score winner division → length division.others < length problem.alive
fewer_are problem key score winner division taken =
    let p : ℕ → Bool = λ position. is_of winner.slope winner.offset winner.depth problem.gutters winner.column (slice_get problem.boxes position) in
    let both : length (filter p problem.alive) + length (filter (λ (position : ℕ). not (p position)) problem.alive) ≡ length problem.alive = length-filter_both p (λ (position : ℕ). not (p position)) (λ _. refl) problem.alive in
    omega (arith, both, ap length taken.members, ap length taken.others, members_some problem key score winner division taken)

-- the members and the others are all
pub divided_is : (problem : GridProblem) (key score : ℕ) (winner : Winner) (division : Division) → IsTaken problem key score winner division
    → IsPermutation problem.alive (division.members ++ division.others)
divided_is problem key score winner division taken =
    let p : ℕ → Bool = λ position. is_of winner.slope winner.offset winner.depth problem.gutters winner.column (slice_get problem.boxes position) in
    rw (taken.members, taken.others) (IsPermutation-filter_both p (λ (position : ℕ). not (p position)) (λ _. refl) problem.alive)

-- the decoded numbers fit their types
decodes_back : (problem : GridProblem) (key : ℕ) → problem.height ≤ 8192 → IsGridAnswer problem key → 0 < key → (s b : ℤ) (d : ℕ)
    → Decodes key s b d → Decodes key (to_z w8 (of_z w8 s)) (to_z w16 (of_z w16 b)) d
decodes_back problem key high greatest some s b d decodes =
    let found = found_at problem key greatest some in
    let of_grid = found_of_grid problem key high found in
    let same = decodes (found_line problem key found) of_grid found.has_key in
    let slope_back : s ≡ to_z w8 (of_z w8 s) = omega (arith, ints, same.0, of_grid.slope_in.low, of_grid.slope_in.high) in
    let offset_back : b ≡ to_z w16 (of_z w16 b) = omega (arith, ints, same.1, of_grid.offset_in.low, of_grid.offset_in.high) in
    decodes_as key s b (to_z w8 (of_z w8 s)) (to_z w16 (of_z w16 b)) d d slope_back offset_back refl decodes

-- the decoded line, with its numbers as their types hold them
abbrev pub winner_of : ℤ → ℤ → ℕ → ℕ → Winner
winner_of s b d column = record { slope = to_z w8 (of_z w8 s); offset = to_z w16 (of_z w16 b); depth = d; column = column }

pub taken_line : (problem : GridProblem) (key : ℕ) → problem.height ≤ 8192 → IsGridAnswer problem key → 0 < key → (s b : ℤ) (d : ℕ)
    → Decodes key s b d → (score in_column : ℕ) (division : Division)
    → let winner : Winner = winner_of s b d in_column in
    IsScore winner.slope winner.offset winner.depth problem.boxes problem.gutters problem.alive score in_column
    → division.members ≡ group_of winner.slope winner.offset winner.depth problem.boxes problem.gutters in_column problem.alive
    → division.others ≡ filter (λ position. not (is_of winner.slope winner.offset winner.depth problem.gutters in_column (slice_get problem.boxes position))) problem.alive
    → IsTaken problem key score winner division
taken_line problem key high answer positive s b d decodes score in_column division scored are rest =
    let winner : Winner = winner_of s b d in_column in
    let won = winner_is problem key high answer positive winner.slope winner.offset winner.depth (decodes_back problem key high answer positive s b d decodes) score in_column scored in
    record { point = won.point; scored = scored; enough = won.enough; has_key = won.is; members = are; others = rest }

-- its numbers fit their types
pub slope_fits : (problem : GridProblem) (key score : ℕ) (winner : Winner) (division : Division) → IsTaken problem key score winner division → to_z w8 (of_z w8 winner.slope) ≡ winner.slope
slope_fits problem key score winner division taken = omega (arith, ints, taken.point.slope_in.low, taken.point.slope_in.high)

pub offset_fits : (problem : GridProblem) (key score : ℕ) (winner : Winner) (division : Division) → problem.height ≤ 8192 → IsTaken problem key score winner division → to_z w16 (of_z w16 winner.offset) ≡ winner.offset
offset_fits problem key score winner division high taken = omega (arith, ints, high, taken.point.low, taken.point.high)

-- the rest keeps the limits
pub rest_within : (height median : ℕ) (boxes gutters : List Rect) (alive others : List ℕ) (p : ℕ → Bool) → IsWithinLimits (record { height = height; median = median; boxes = boxes; alive = alive; gutters = gutters }) → others ≡ filter p alive → IsWithinLimits (record { height = height; median = median; boxes = boxes; alive = others; gutters = gutters })
rest_within height median boxes gutters alive others p limits are = record {
  low = limits.low;
  high = limits.high;
  few_boxes = limits.few_boxes;
  few_alive = omega (arith, ap length are, limits.few_alive, length-filter_both p (λ (x : ℕ). not (p x)) (λ _. refl) alive);
  few_gutters = limits.few_gutters;
  positions = rw are (All-filter p (λ (position : ℕ). position < length boxes) alive limits.positions);
}

pub problem_with : (view problem : GridProblem) → view ≡ problem → (others rest : List ℕ) → others ≡ rest → (record view { alive = others }) ≡ (record problem { alive = rest })
problem_with view problem same others rest are = cc

-- the lines so far end well, whatever lines the rest has
abbrev pub EndsWell : List Rect → List Rect → ℕ → ℕ → List ℕ → List ℕ → List Line → Type 0
EndsWell boxes gutters height median start alive lines = (rest : List Line) → IsLineList boxes gutters height median alive rest → IsLineList boxes gutters height median start (lines ++ rest)

pub none_yet : (boxes gutters : List Rect) (height median : ℕ) (start alive : List ℕ) (lines : List Line) → alive ≡ start → lines ≡ [] → EndsWell boxes gutters height median start alive lines
none_yet boxes gutters height median start alive lines same none = λ rest are.
    subst (λ (xs : List Line). IsLineList boxes gutters height median start (xs ++ rest)) (sym none) (subst (λ (xs : List ℕ). IsLineList boxes gutters height median xs rest) same are)

pub ended : (boxes gutters : List Rect) (height median : ℕ) (start alive : List ℕ) (lines : List Line) → EndsWell boxes gutters height median start alive lines → HasNoLine boxes gutters height median alive → IsLineList boxes gutters height median start lines
ended boxes gutters height median start alive lines ends none = subst (λ (xs : List Line). IsLineList boxes gutters height median start xs) (append-nil lines) (ends [] none)

pub one_more : (boxes gutters : List Rect) (height median : ℕ) (start alive next : List ℕ) (line : Line) (lines more : List Line) → EndsWell boxes gutters height median start alive lines → IsBestLine boxes gutters height median alive line → next ≡ without line.members alive → more ≡ lines ++ line ∷ [] → EndsWell boxes gutters height median start next more
one_more boxes gutters height median start alive next line lines more ends best is pushed = λ rest are.
    let longer : IsLineList boxes gutters height median alive (line ∷ rest) = (best, subst (λ (xs : List ℕ). IsLineList boxes gutters height median xs rest) is are) in
    let joined : lines ++ (line ∷ rest) ≡ more ++ rest = sym (append_assoc lines (line ∷ []) rest) ∙ ap (λ (xs : List Line). xs ++ rest) (sym pushed) in
    subst (λ (xs : List Line). IsLineList boxes gutters height median start xs) joined (ends (line ∷ rest) longer)
