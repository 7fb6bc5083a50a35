use Rattle.std.proofs.Common.{◌≡◌, ◌∙◌, ℕ, List, Option, Some, None, IfSome, IfNone, Contains, ap, subst, sym}
use Rattle.std.specs.List.{AllZip}
use Rattle.layout_geom.specs.declared.rect.Rect.{Rect}
use Rattle.layout_geom.specs.Rectangles.{Encloses, Overlaps, IsClear}
use Rattle.box_search.specs.Problems.{of_numbers}
use Rattle.whitespace_cover.specs.Admissible.{IsRoomy}
use Rattle.whitespace_cover.specs.Index.{IsIndexed}
use Rattle.whitespace_cover.specs.Masks.{IsMask}
use Rattle.whitespace_cover.specs.Problem.{WhiteProblem, white_numbers}
use Rattle.whitespace_cover.specs.Regions.{IsWhiteNode, IsNodeOf, roomy_parts}
use Rattle.whitespace_cover.specs.WhiteLaws.{same_white_problem}
use Rattle.whitespace_cover.proofs.Indexing.{indexed_inside}
use Rattle.whitespace_cover.proofs.Steps.{settles_is, splits_is, outlines_of}
use Rattle.whitespace_cover.proofs.white.WhiteSpace.step.Goals as goal

pub pivot_of-scan-requires-clause-mask : goal.pivot_of-scan-requires-clause-mask
pivot_of-scan-requires-clause-mask c =
    let fit : IsWhiteNode c.args.node.now c.args.self.now = of_numbers white_numbers same_white_problem (IsWhiteNode c.args.node.now) c.args.self.now c.requires.fits in
    let same = c.as_slice-obstacles.ensures.same ∙ ap (λ (p : WhiteProblem). p.obstacles) c.self.view_is in
    subst (λ (xs : List Rect). IsMask xs c.args.node.now.work.rect c.args.node.now.work.mask) (sym same) fit.mask

pub pivot_of-scan-requires-clause-index : goal.pivot_of-scan-requires-clause-index
pivot_of-scan-requires-clause-index c =
    let fit : IsWhiteNode c.args.node.now c.args.self.now = of_numbers white_numbers same_white_problem (IsWhiteNode c.args.node.now) c.args.self.now c.requires.fits in
    let inside = subst (λ (p : WhiteProblem). Encloses p.page c.args.node.now.work.rect) (sym c.self.view_is) fit.inside in
    subst (λ (xs : List Rect). IsIndexed c.args.node.now.work.rect xs c.self.inside.cells) (sym c.as_slice-obstacles.ensures.same)
    (indexed_inside _ _ _ _ inside c.self.invariant)

-- the rectangle overlaps no obstacle where none was chosen
clear_at : (r : Rect) (obstacles : List Rect) (pivot : Option Rect) → pivot ≡ None → IfNone pivot (IsClear r obstacles) → IsClear r obstacles
clear_at r obstacles pivot none clear = subst (λ (o : Option Rect). IfNone o (IsClear r obstacles)) none clear

-- and else what was chosen is one that it overlaps
chosen_at : (r : Rect) (obstacles : List Rect) (pivot : Option Rect) (o : Rect) → pivot ≡ Some o → IfSome pivot (λ q. Contains obstacles q × Overlaps r q) → Contains obstacles o × Overlaps r o
chosen_at r obstacles pivot o some chosen = subst (λ (p : Option Rect). IfSome p (λ q. Contains obstacles q × Overlaps r q)) some chosen

pub returns-in-None-clause-step : goal.returns-in-None-clause-step
returns-in-None-clause-step c =
    let fit : IsWhiteNode c.args.node.now c.args.self.now = of_numbers white_numbers same_white_problem (IsWhiteNode c.args.node.now) c.args.self.now c.requires.fits in
    let same = c.as_slice-obstacles.ensures.same ∙ ap (λ (p : WhiteProblem). p.obstacles) c.self.view_is in
    settles_is c.args.self.now c.args.node.now fit
    (subst (λ (xs : List Rect). IsClear c.args.node.now.work.rect xs) same (clear_at _ _ _ c.in-None.is c.pivot_of-scan.ensures.none))

pub returns-in_ok-nodes-in-Some-clause-step : goal.returns-in_ok-nodes-in-Some-clause-step
returns-in_ok-nodes-in-Some-clause-step c =
    let fit : IsWhiteNode c.args.node.now c.args.self.now = of_numbers white_numbers same_white_problem (IsWhiteNode c.args.node.now) c.args.self.now c.requires.fits in
    let same = c.as_slice-obstacles.ensures.same ∙ ap (λ (p : WhiteProblem). p.obstacles) c.self.view_is in
    let size = ap (λ (p : WhiteProblem). p.least) c.self.view_is in
    let made = c.in_ok-nodes-in-Some.ensures in
    let chosen = chosen_at _ _ _ _ c.in-Some.is c.pivot_of-scan.ensures.some in
    splits_is c.args.self.now c.args.node.now c.in-Some.pivot made.rects.0 c.in_ok-nodes-in-Some.nodes.items c.pivot_of-scan.result.mask fit
    (subst (λ (xs : List Rect). IsMask xs c.args.node.now.work.rect c.pivot_of-scan.result.mask) same c.pivot_of-scan.ensures.mask)
    (subst (λ (xs : List Rect). Contains xs c.in-Some.pivot) same chosen.0)
    chosen.1
    made.rects.1
    (made.rects.2 ∙ ap (λ (n : ℕ). roomy_parts n made.rects.0) size)
    made.nodes
    made.masks
    (λ inner inside apart roomy. made.covering inner inside apart (subst (λ (n : ℕ). IsRoomy n inner) (sym size) roomy))

pub returns-in_ok-nodes-in-Some-clause-exactly : goal.returns-in_ok-nodes-in-Some-clause-exactly
returns-in_ok-nodes-in-Some-clause-exactly c =
    let same = c.as_slice-obstacles.ensures.same ∙ ap (λ (p : WhiteProblem). p.obstacles) c.self.view_is in
    let size = ap (λ (p : WhiteProblem). p.least) c.self.view_is in
    let nodes = c.in_ok-nodes-in-Some.nodes.items in
    let made = c.in_ok-nodes-in-Some.ensures in
    let chosen = chosen_at _ _ _ _ c.in-Some.is c.pivot_of-scan.ensures.some in
    record {
      pivot = c.in-Some.pivot;
      parts = made.rects.0;
      present = subst (λ (xs : List Rect). Contains xs c.in-Some.pivot) same chosen.0;
      overlaps = chosen.1;
      cut = made.rects.1;
      outlines = subst (λ (rs : List Rect). AllZip IsNodeOf rs nodes) (made.rects.2 ∙ ap (λ (n : ℕ). roomy_parts n made.rects.0) size) (outlines_of nodes made.nodes);
    }
