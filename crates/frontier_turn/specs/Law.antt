-- The law of the shared search: its rule holds as a search begins, and each step of each pass keeps it.
use Rattle.std.specs.Prelude.{◌≡◌, ℕ, List, [], ◌∷◌, ℤ, true, false, Option, Some, option_to_list}
use mathlib.Core.Option.{none}
use Rattle.atomic_table.specs.Table.{State, step, Allows, opening}
use Rattle.box_search.specs.declared.space.Node.{Node}
use Rattle.box_search.specs.declared.space.Shape.{Shape}
use Rattle.box_search.specs.Contents.{Contents}
use Rattle.box_search.specs.Search.{IsRootOf}
use Rattle.frontier_turn.specs.Rule.{SharedRule}
use Rattle.frontier_turn.specs.Sharing.{IsLiveIn, KeepTheRule}
use Rattle.frontier_turn.specs.Steps.{Seated, TakesTurn, GivesTurn, MayReturn}
use Rattle.frontier_turn.specs.Views.{View, standing, parting, newcomer}

-- `Allows Rule ..` says: whatever the words, the slot and the views are that meet the rule, they meet it after the step too
module _ {W : Type 0} (admits : List ℤ → ℕ → Type 0) (lies_in : List ℤ → ℕ → Shape → Type 0) (fits : List ℤ → Node W → Type 0) where
  abbrev pub RuleOf : List ℤ → State (Option (Contents W)) View → Type 0
  RuleOf problem = SharedRule problem (admits problem) (lies_in problem) (fits problem)

  -- as a search begins, both words are 0, a root is open or none is, and there is one pass
  abbrev pub BeginsByRule : Type 0
  BeginsByRule = (problem : List ℤ) (root : Option (Node W)) (frontier : Contents W)
      → IsRootOf (admits problem) (lies_in problem) (fits problem) root → frontier.open_nodes ≡ option_to_list root → frontier.leased ≡ []
      → RuleOf problem (opening (0 ∷ 0 ∷ []) (Some frontier ∷ []) (newcomer problem))

  -- a pass that does not hold the turn asks for it, and gets it or is refused
  abbrev pub TakeKeepsRule : Type 0
  TakeKeepsRule = (problem : List ℤ) (id : ℕ) (pass : Seated W) → IsLiveIn standing problem pass.0 → pass.0.rest.holds ≡ false
      → Allows (RuleOf problem) 1 id pass 1 (λ _. 1) (TakesTurn fits (step 1 1 1 0 none) pass)

  -- the holder of the turn gives it back with a frontier that may go home
  abbrev pub GiveKeepsRule : Type 0
  GiveKeepsRule = (problem : List ℤ) (id : ℕ) (view : View) (frontier : Contents W) → IsLiveIn standing problem view
      → view.rest.holds ≡ true
      → MayReturn (admits problem) (lies_in problem) (fits problem) view frontier
      → let pass : Seated W = (view, (0, Some frontier) ∷ []) in
      Allows (RuleOf problem) 1 id pass 1 (λ _. 0) (GivesTurn (step 1 1 0 0 none) pass)

  -- reading, raising, splitting and joining, which are alike in each search by many passes
  abbrev pub OthersKeepRule : Type 0
  OthersKeepRule = KeepTheRule admits RuleOf standing parting 1
