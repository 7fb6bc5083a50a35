use Rattle.std.proofs.Common.{arith, ap, ◌≡◌, ◌∙◌, subst}
use Rattle.line_search.specs.Lines.{deepest}
use Rattle.line_search.specs.Problem.{GridProblem, IsWithinLimits}
use Rattle.line_search.proofs.Steps.{root_is}
use Rattle.line_search.proofs.Ranges.{foot_is}
use Rattle.line_search.proofs.grid.GridSpace.root.Goals as goal

pub returns-in-Some-clause-root : goal.returns-in-Some-clause-root
returns-in-Some-clause-root c =
    let p : GridProblem = c.args.self.now in
    let limits : IsWithinLimits p = subst IsWithinLimits c.self.view_is c.self.invariant.limits in
    let height : c.height.result ≡ p.height = c.height.ensures ∙ ap (λ (q : GridProblem). q.height) c.self.view_is in
    let deep : c.deepest.result ≡ deepest p.median = c.deepest.ensures ∙ ap (λ (q : GridProblem). deepest q.median) c.self.view_is in
    root_is p c.in-Some.node (c.in-Some.ensures.shape ∙ foot_is c.height.result p.height c.deepest.result (deepest p.median) (omega (arith, height, limits.high)) height deep (omega arith)) limits.high c.in-Some.ensures.fitting

pub returns-clause-root : goal.returns-clause-root
returns-clause-root c =
    let p : GridProblem = c.args.self.now in
    let limits : IsWithinLimits p = subst IsWithinLimits c.self.view_is c.self.invariant.limits in
    let height : c.height.result ≡ p.height = c.height.ensures ∙ ap (λ (q : GridProblem). q.height) c.self.view_is in
    let deep : c.deepest.result ≡ deepest p.median = c.deepest.ensures ∙ ap (λ (q : GridProblem). deepest q.median) c.self.view_is in
    root_is p c.in_ok-node.node (c.in_ok-node.ensures.shape ∙ foot_is c.height.result p.height c.deepest.result (deepest p.median) (omega (arith, height, limits.high)) height deep (omega arith)) limits.high c.in_ok-node.ensures.fitting
