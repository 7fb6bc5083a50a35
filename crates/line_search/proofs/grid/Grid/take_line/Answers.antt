use Rattle.std.proofs.Common.{◌≡◌, ◌<◌, ◌++◌, ◌∙◌, ap, refl, sym, ℕ, List, length, subst, All, not, slice_get}
use Rattle.std.specs.List.Sorted.{IsPermutation}
use Rattle.layout_geom.specs.declared.rect.Rect.{Rect}
use Rattle.layout_geom.specs.Rectangles.{Encloses}
use Rattle.line_quality.specs.Scores.{is_of}
use Rattle.line_counts.specs.Table.{LivingPage}
use Rattle.line_search.specs.Problem.{GridProblem, IsWithinLimits}
use Rattle.line_search.specs.Pages.{page_of, problem_of}
use Rattle.line_search.specs.Lines.{IsLeastRound}
use Rattle.line_search.proofs.Taking.{best_is, members_some, members_within, rest_is, fewer_are, divided_is, rest_within, problem_with, slope_fits, offset_fits}
use Rattle.line_search.proofs.grid.Grid.take_line.Goals as goal

pub least_round-bbox-requires-clause-some : goal.least_round-bbox-requires-clause-some
least_round-bbox-requires-clause-some c =
    subst (λ (xs : List ℕ). 0 < length xs) (sym c.as_slice-2.ensures.same) (members_some c.args.self.now c.args.key _ _ _ c.in_ok-winner.ensures)

pub least_round-bbox-requires-clause-within : goal.least_round-bbox-requires-clause-within
least_round-bbox-requires-clause-within c =
    let boxes = c.boxes.ensures ∙ ap (λ (q : GridProblem). q.boxes) c.self.view_is in
    let limits : IsWithinLimits c.args.self.now = subst IsWithinLimits c.self.view_is c.self.invariant.limits in
    subst (λ (xs : List ℕ). All (λ position. position < length c.as_slice.result.now) xs) (sym c.as_slice-2.ensures.same)
    (subst (λ (rs : List Rect). All (λ position. position < length rs) c.in_ok-winner.field-0.division.members) (sym (c.as_slice.ensures.same ∙ boxes))
    (members_within c.args.self.now c.args.key _ _ _ c.in_ok-winner.ensures limits.positions))

pub least_round-bbox-requires-clause-contained : goal.least_round-bbox-requires-clause-contained
least_round-bbox-requires-clause-contained c =
    let boxes = c.boxes.ensures ∙ ap (λ (q : GridProblem). q.boxes) c.self.view_is in
    (c.requires.contained.0, subst (λ (xs : List Rect). All (Encloses c.requires.contained.0) xs) (sym (c.as_slice.ensures.same ∙ boxes)) c.requires.contained.1)

pub take-requires : goal.take-requires
take-requires c =
    let alive : (page_of c.self.inside.living).alive ≡ c.args.self.now.alive = ap (λ (q : GridProblem). q.alive) c.self.view_is in
    let others = c.in_ok-winner.field-0.division.others in
    record {
      divided = subst (λ (xs : List ℕ). IsPermutation xs (c.as_slice-3.result.now ++ others)) (sym alive)
          (subst (λ (xs : List ℕ). IsPermutation c.args.self.now.alive (xs ++ others)) (sym c.as_slice-3.ensures.same)
          (divided_is c.args.self.now c.args.key _ _ _ c.in_ok-winner.ensures));
    }

pub invariant_of-self : goal.invariant_of-self
invariant_of-self c =
    let p : GridProblem = c.args.self.now in
    let winner = c.in_ok-winner.field-0.winner in
    let median = c.self.inside.median in
    let limits : IsWithinLimits p = subst IsWithinLimits c.self.view_is c.self.invariant.limits in
    record {
      limits = subst (λ (page : LivingPage). IsWithinLimits (problem_of page median)) (sym c.take.ensures.page)
          (subst (λ (q : GridProblem). IsWithinLimits (record q { alive = c.in_ok-winner.field-0.division.others })) (sym c.self.view_is)
          (rest_within p.height p.median p.boxes p.gutters p.alive _ (λ (position : ℕ). not (is_of winner.slope winner.offset winner.depth p.gutters winner.column (slice_get p.boxes position))) limits c.in_ok-winner.ensures.others));
      keys = c.take.ensures.keys median c.self.invariant.keys;
    }

pub returns-clause-best : goal.returns-clause-best
returns-clause-best c =
    let p : GridProblem = c.args.self.now in
    let boxes = c.boxes.ensures ∙ ap (λ (q : GridProblem). q.boxes) c.self.view_is in
    let taken = c.in_ok-winner.field-0 in
    let round : IsLeastRound p.boxes taken.division.members c.least_round-bbox.result =
    subst (λ (xs : List Rect). IsLeastRound xs taken.division.members c.least_round-bbox.result) (c.as_slice.ensures.same ∙ boxes)
    (subst (λ (xs : List ℕ). IsLeastRound c.as_slice.result.now xs c.least_round-bbox.result) c.as_slice-2.ensures.same c.least_round-bbox.ensures) in
    best_is p c.args.key c.requires.greatest taken.winner taken.division _ c.in_ok-winner.ensures
    (slope_fits p c.args.key _ _ _ c.in_ok-winner.ensures) (offset_fits p c.args.key _ _ _ c.requires.high c.in_ok-winner.ensures) refl refl round

pub returns-clause-rest : goal.returns-clause-rest
returns-clause-rest c =
    ap (λ (page : LivingPage). problem_of page c.self.inside.median) c.take.ensures.page
    ∙ problem_with _ c.args.self.now c.self.view_is c.in_ok-winner.field-0.division.others _ (rest_is c.args.self.now c.args.key _ _ _ c.in_ok-winner.ensures)

pub returns-clause-fewer : goal.returns-clause-fewer
returns-clause-fewer c =
    subst (λ (page : LivingPage). length page.alive < length c.args.self.now.alive) (sym c.take.ensures.page) (fewer_are c.args.self.now c.args.key _ _ _ c.in_ok-winner.ensures)

pub returns-clause-within : goal.returns-clause-within
returns-clause-within c =
    let limits : IsWithinLimits c.args.self.now = subst IsWithinLimits c.self.view_is c.self.invariant.limits in
    members_within c.args.self.now c.args.key _ _ _ c.in_ok-winner.ensures limits.positions
