-- What a pass names whose lease came back in a turn, and what takes a lease's place in one.
use Rattle.std.proofs.Common.{◌≡◌, ◌∙◌, ℕ, ℤ, List, [], ◌∷◌, ap, sym, subst, Contains}
use Rattle.box_search.specs.declared.lease.Lease.{Lease}
use Rattle.box_search.specs.declared.space.Node.{Node}
use Rattle.box_search.specs.declared.space.Shape.{Shape}
use Rattle.frontier_turn.specs.Holding.{Replaces}
use Rattle.split_frontier.specs.Views.{View}
use Rattle.split_frontier.specs.declared.view.Claim.{Claim}
use Rattle.split_frontier.specs.Claims.{unspent}
use Rattle.split_frontier.proofs.Working.{only_named_here}

pub named_again : {W : Type 0} (claims : List Claim) (shard home : ℕ) (l back : Lease W) → shard ≡ home → back ≡ l → claims ≡ unspent home l ∷ [] → Contains claims (unspent shard back)
named_again claims shard home l back same is_back is =
    subst (λ x. Contains claims (unspent shard x)) (sym is_back) (only_named_here claims (λ h. unspent h l) home shard is same)

-- what takes the place of a node in a search does so in a turn of the search
pub replaces_in_turn : {W : Type 0} (admits : List ℤ → ℕ → Type 0) (lies_in : List ℤ → ℕ → Shape → Type 0) (shape : Shape) (seen : ℕ) (nodes : List (Node W)) (problem : List ℤ) (turn pass : View)
    → turn ≡ pass → pass.rest.problem ≡ problem → Replaces (admits problem) (lies_in problem) shape seen nodes → Replaces (admits turn.rest.problem) (lies_in turn.rest.problem) shape seen nodes
replaces_in_turn admits lies_in shape seen nodes problem turn pass same own replaces =
    subst (λ (q : List ℤ). Replaces (admits q) (lies_in q) shape seen nodes) (sym (ap (λ (v : View). v.rest.problem) same ∙ own)) replaces
