-- What takes the place of a node that was split.
use Rattle.std.proofs.Common.{◌≡◌, ℕ, List, ℤ, All, ap, sym, ◌∙◌, subst, inr}
use Rattle.box_search.specs.Search.{Splits}
use Rattle.box_search.specs.declared.space.Node.{Node}
use Rattle.box_search.specs.declared.space.Shape.{Shape}
use Rattle.frontier_turn.specs.Holding.{Replaces}
use Rattle.split_frontier.specs.Views.{View}
use Rattle.split_frontier.specs.declared.view.Rest.{Rest}

-- the parts of a split have every key of its node
pub splits_whole : {W : Type 0} (admits : ℕ → Type 0) (lies_in : ℕ → Shape → Type 0) (fits : Node W → Type 0) (node : Node W) (seen : ℕ) (nodes : List (Node W)) → Splits admits lies_in fits node nodes → Replaces admits lies_in node.shape seen nodes
splits_whole admits lies_in fits node seen nodes is key admitted inside = inr (is.covering key admitted inside)

-- a turn has the problem of the space, where the pass has kept it
pub same_problem : {p q : List ℤ} {r r' : Rest} {v w : View} → v ≡ w → w.rest.problem ≡ r.problem → r ≡ r' → r'.problem ≡ p → p ≡ q → v.rest.problem ≡ q
same_problem entered kept replaced own space = ap (λ (v : View). v.rest.problem) entered ∙ (kept ∙ (ap (λ (r : Rest). r.problem) replaced ∙ (own ∙ space)))

module _ {W : Type 0} {p q : List ℤ} (same : q ≡ p) where
  -- what takes a node's place by one of two equal problems does so by the other
  pub replaces_by : (admits : List ℤ → ℕ → Type 0) (lies_in : List ℤ → ℕ → Shape → Type 0) (shape : Shape) (seen : ℕ) (nodes : List (Node W)) → Replaces (admits p) (lies_in p) shape seen nodes → Replaces (admits q) (lies_in q) shape seen nodes
  replaces_by admits lies_in shape seen nodes = subst (λ (r : List ℤ). Replaces (admits r) (lies_in r) shape seen nodes) (sym same)

  pub fit_by : (fits : List ℤ → Node W → Type 0) (nodes : List (Node W)) → All (fits p) nodes → All (fits q) nodes
  fit_by fits nodes = subst (λ (r : List ℤ). All (fits r) nodes) (sym same)
