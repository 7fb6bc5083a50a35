use Rattle.std.proofs.Common.{◌∙◌, ℕ, IsTrue, ap, subst, sym}
use Rattle.whitespace_cover.specs.Admissible.{IsRoomy}
use Rattle.whitespace_cover.specs.Masks.{IsMask}
use Rattle.whitespace_cover.specs.Problem.{WhiteProblem}
use Rattle.whitespace_cover.proofs.Masking.{mask_of_all}
use Rattle.whitespace_cover.proofs.Steps.{none_is, root_is}
use Rattle.whitespace_cover.proofs.white.WhiteSpace.root.Goals as goal

pub returns-then-not-is_roomy-clause-root : goal.returns-then-not-is_roomy-clause-root
returns-then-not-is_roomy-clause-root c =
    none_is c.args.self.now
    (subst (λ (p : WhiteProblem). IsRoomy p.least p.page → ⊥) c.self.view_is
    (λ roomy. let told : IsTrue c.is_roomy.result = c.is_roomy.ensures.roomy.1 roomy in cc))

pub returns-clause-root : goal.returns-clause-root
returns-clause-root c =
    root_is c.args.self.now c.node_of.result
    (c.node_of.ensures.rect ∙ ap (λ (q : WhiteProblem). q.page) c.self.view_is)
    c.node_of.ensures.outline
    (subst (λ (m : ℕ). IsMask c.args.self.now.obstacles c.node_of.result.work.rect m) (sym c.node_of.ensures.mask) (mask_of_all c.args.self.now.obstacles c.node_of.result.work.rect))
    (subst (λ (q : WhiteProblem). IsRoomy q.least q.page) c.self.view_is (c.is_roomy.ensures.roomy.0 c.if-not-is_roomy.false))
