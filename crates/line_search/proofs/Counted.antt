-- Why a bound from a table of keys is one of the grid.
use Rattle.std.proofs.Common.{◌≡◌, ℕ, ◌<◌, ◌≤◌, min, ℤ, pos, ◌+ℤ◌, ◌≤ℤ◌, unsigned_abs, arith, refl, subst, ap, length, ◌<ℤ◌, ⊎_elim, ◌-◌}
use Rattle.std.proofs.lemmas.List.{take_all}
use Rattle.std.proofs.lemmas.Int.{ints}
use Rattle.std.proofs.lemmas.Bool.{cases_lt}
use Rattle.box_search.specs.declared.space.Shape.{Shape}
use Rattle.box_search.specs.Search.{IsGreatestKey}
use Rattle.line_quality.specs.Keys.{line_key}
use Rattle.line_quality.specs.KeyLaws.{abs_parts}
use Rattle.line_quality.specs.Scores.{IsScore}
use Rattle.line_counts.specs.Shapes.{IsInside, IsInGrid, IsSingle, least_depth}
use Rattle.line_counts.specs.KeyTables.{IsKeyInShape, IsShapeBound}
use Rattle.line_search.specs.declared.grid.TheConstants.{LEAST_SCORE}
use Rattle.line_search.specs.declared.span.Span.{Span}
use Rattle.line_search.specs.Lines.{IsPoint, deepest}
use Rattle.line_search.specs.Problem.{GridProblem, HasScore}
use Rattle.line_search.specs.Pages.{living_page}
use Rattle.line_search.specs.Bounds.{IsOver, IsBound, weighing, stretch_of, HasWeighing}
use Rattle.line_search.specs.Parts.{HasNoPoint}
use Rattle.line_search.specs.GridLaws.{inside_of}
use Rattle.line_search.proofs.Bounding.{first_point}
use Rattle.line_search.proofs.Taking.{same_place}

-- a point that scores less than a line has a lesser key than any line
low_key : (score : ℕ) (slope offset : ℤ) (depth : ℕ) → score < 60 → line_key score slope offset depth ≤ 32212254720
low_key score slope offset depth low = omega arith

high_key : (score : ℕ) (slope offset : ℤ) (depth key : ℕ) → line_key score slope offset depth ≡ key → 60 ≤ score → 32212254720 ≤ key
high_key score slope offset depth key is high = omega arith

one_number : (low high z : ℤ) → high ≡ low +ℤ pos 1 → low ≤ℤ z → z <ℤ high → z ≡ low
one_number low high z one from to = omega (arith, ints)

one_depth : (low high : ℤ) (depth : ℕ) → high ≡ low +ℤ pos 1 → pos 0 ≤ℤ low → low ≤ℤ pos depth → pos depth <ℤ high → depth ≡ unsigned_abs low
one_depth low high depth one some from to = omega (arith, ints, abs_parts low)

-- each point of a shape of the grid is one of the grid
point_inside : (height median : ℕ) (shape : Shape) → IsInGrid height (deepest median) shape → (slope offset : ℤ) (depth : ℕ)
    → IsInside slope offset depth shape → IsPoint height median slope offset depth
point_inside height median shape grid slope offset depth inside = record {
  slope_in = record { low = omega (arith, ints, grid.from_slope, inside.from_slope); high = omega (arith, ints, grid.to_slope, inside.to_slope) };
  low = omega (arith, ints, grid.from_offset, inside.from_offset);
  high = omega (arith, ints, grid.to_offset, inside.to_offset);
  shallow = omega (arith, ints, grid.to_depth, inside.to_depth);
}

module _ (problem : GridProblem) (shape : Shape) (grid : IsInGrid problem.height (deepest problem.median) shape) (bound : ℕ) where
  -- a point that scores enough has its key in the shape
  key_in : (slope offset : ℤ) (depth score key : ℕ) → HasScore problem slope offset depth score → IsInside slope offset depth shape
      → LEAST_SCORE ≤ score → line_key score slope offset depth ≡ key → IsKeyInShape (living_page problem) LEAST_SCORE shape key
  key_in slope offset depth score key scored inside enough is = record {
    slope = slope;
    offset = offset;
    depth = depth;
    inside = inside;
    at = record { score = score; in_column = scored.in_column; scored = scored.scored; enough = enough; has_key = is };
  }

  -- a key of the shape is at most what no scored point is above
  key_under : (limit : ℕ) → IsOver problem shape limit → (key : ℕ) → IsKeyInShape (living_page problem) LEAST_SCORE shape key → key ≤ limit
  key_under limit over key here =
      let scored : HasScore problem here.slope here.offset here.depth here.at.score = record {
        point = point_inside problem.height problem.median shape grid here.slope here.offset here.depth here.inside;
        in_column = here.at.in_column;
        scored = here.at.scored;
      } in
      omega (arith, here.at.has_key, over here.slope here.offset here.depth here.at.score scored here.inside)

  -- the one key of a single shape is that of its point
  key_single : IsSingle shape → IsKeyInShape (living_page problem) LEAST_SCORE shape bound
      → (score : ℕ) × HasScore problem shape.a0 shape.b0 (least_depth shape) score × (line_key score shape.a0 shape.b0 (least_depth shape) ≡ bound)
  key_single single here =
      let slope = one_number shape.a0 shape.a1 here.slope single.0 here.inside.from_slope here.inside.to_slope in
      let offset = one_number shape.b0 shape.b1 here.offset single.1 here.inside.from_offset here.inside.to_offset in
      let depth = one_depth shape.c0 shape.c1 here.depth single.2 grid.from_depth here.inside.from_depth here.inside.to_depth in (
        here.at.score,
        record {
          point = first_point problem.height problem.median shape grid;
          in_column = here.at.in_column;
          scored = same_place (λ s b d. IsScore s b d problem.boxes problem.gutters problem.alive here.at.score here.at.in_column) here.slope here.offset shape.a0 shape.b0 here.depth (least_depth shape) slope offset depth here.at.scored;
        },
        same_place (λ s b d. line_key here.at.score s b d ≡ bound) here.slope here.offset shape.a0 shape.b0 here.depth (least_depth shape) slope offset depth here.at.has_key,
      )

  module _ (is : IsShapeBound (living_page problem) LEAST_SCORE shape bound) where
    -- where a line may have it, it is a bound of all points
    pub bound_by_keys : 32212254720 ≤ bound → IsBound problem shape bound
    bound_by_keys large = record {
      over = λ slope offset depth score scored inside. ⊎_elim
          (λ (low : score < 60). omega (arith, large, low_key score slope offset depth low))
          (λ (enough : 60 ≤ score). is.over (line_key score slope offset depth) (key_in slope offset depth score (line_key score slope offset depth) scored inside enough refl))
          (cases_lt score 60);
      single = λ single. ⊎_elim
          (λ (none : bound ≡ 0). absurd (omega (arith, none, large)))
          (λ (here : IsKeyInShape (living_page problem) LEAST_SCORE shape bound). key_single single here)
          (is.single single).sound;
      wide = λ _. is.plain;
    }

    -- and where none has it, the shape has no admissible point
    pub none_by_keys : bound < 32212254720 → HasNoPoint problem shape
    none_by_keys small = λ key here lies.
        let inside = inside_of key problem shape grid.page here lies in
        let under = is.over key (key_in here.slope here.offset here.depth here.score key here.admissible.scored inside here.admissible.enough here.has_key) in
        omega (arith, small, under, high_key here.score here.slope here.offset here.depth key here.has_key here.admissible.enough)

    -- the lesser of it and of what no scored point is above is one too
    pub lesser_by_keys : (limit lesser : ℕ) → IsOver problem shape limit → lesser ≡ min bound limit → IsShapeBound (living_page problem) LEAST_SCORE shape lesser
    lesser_by_keys limit lesser over are = rw are (record {
      over = λ key here. omega (arith, is.over key here, key_under limit over key here);
      plain = omega (arith, is.plain);
      single = λ single.
          let best = is.single single in
          let same : bound ≡ min bound limit = ⊎_elim
          (λ (none : bound ≡ 0). omega (arith, none))
          (λ (here : IsKeyInShape (living_page problem) LEAST_SCORE shape bound). omega (arith, key_under limit over bound here))
          best.sound in
          subst (λ (n : ℕ). IsGreatestKey (IsKeyInShape (living_page problem) LEAST_SCORE shape) n) same best;
    })

-- the whole list has the positions of all boxes that count
pub all_weighing : (problem : GridProblem) (shape : Shape) (span : Span) → span.from ≡ 0 → span.to ≡ length problem.alive → HasWeighing problem shape span
all_weighing problem shape span first last =
    let many : span.to - span.from ≡ length problem.alive = omega (arith, first, last) in
    let whole : stretch_of span problem.alive ≡ problem.alive = rw (many, first) (take_all (length problem.alive) problem.alive (omega arith)) in
    record { ordered = omega (arith, first); inside = omega (arith, last); same = ap (weighing shape problem.boxes) whole }
