-- The law of the split search: its rule holds as a search begins, and each step of each pass keeps it.
use Rattle.std.specs.Prelude.{◌≡◌, ℕ, suc, ◌<◌, List, [], ◌∷◌, ℤ, length, slice_index, Some, None}
use mathlib.Core.Option.{none}
use Rattle.atomic_table.specs.Table.{State, step, Allows, opening}
use Rattle.box_search.specs.declared.space.Node.{Node}
use Rattle.box_search.specs.declared.space.Shape.{Shape}
use Rattle.box_search.specs.Search.{CoverAll}
use Rattle.frontier_turn.specs.Sharing.{IsLiveIn, KeepTheRule}
use Rattle.split_frontier.specs.declared.parked.Parked.{Parked}
use Rattle.split_frontier.specs.Claims.{claims_after}
use Rattle.split_frontier.specs.Opening.{IsOpening}
use Rattle.split_frontier.specs.Rule.{Slot, ShardsRule}
use Rattle.split_frontier.specs.Steps.{Seated, TakesTurn, GivesTurn, MayReturn}
use Rattle.split_frontier.specs.Views.{View, standing, parting, newcomer}

-- `Allows Rule ..` says: whatever the words, the slots and the views are that meet the rule, they meet it after the step too
module _ {W : Type 0} (admits : List ℤ → ℕ → Type 0) (lies_in : List ℤ → ℕ → Shape → Type 0) (fits : List ℤ → Node W → Type 0) where
  abbrev pub RuleOf : List ℤ → State (Slot W) View → Type 0
  RuleOf problem = ShardsRule problem (admits problem) (lies_in problem) (fits problem)

  -- as a search begins, all words are 0, nodes that cover all admitted keys are dealt out to the shards, and there is one pass
  abbrev pub BeginsByRule : Type 0
  BeginsByRule = (problem : List ℤ) (nodes : List (Node W)) (words : List ℕ) (slots : List (Slot W))
      → CoverAll (admits problem) (lies_in problem) (fits problem) nodes → IsOpening nodes slots
      → length words ≡ suc (length slots) → ((place : ℕ) → slice_index words place ≡ 0)
      → RuleOf problem (opening words slots (newcomer problem))

  -- a pass that holds no turn asks for that of a shard, and gets it or is refused
  abbrev pub TakeKeepsRule : Type 0
  TakeKeepsRule = (problem : List ℤ) (shards id shard : ℕ) (pass : Seated W) → IsLiveIn standing problem pass.0
      → pass.0.rest.holds ≡ None → shard < shards
      → Allows (RuleOf problem) shards id pass (suc shard) (λ _. 1) (TakesTurn fits (step shards (suc shard) 1 0 none) pass)

  -- the holder of a shard's turn gives it back with a frontier that may go home
  abbrev pub GiveKeepsRule : Type 0
  GiveKeepsRule = (problem : List ℤ) (shards id shard : ℕ) (view : View) (parked : Parked W) → IsLiveIn standing problem view
      → view.rest.holds ≡ Some shard → shard < shards
      → MayReturn (admits problem) (lies_in problem) (fits problem) view shard parked.frontier
      (claims_after view.rest.leases parked.naming.value)
      → let pass : Seated W = (view, (shard, Some parked) ∷ []) in
      Allows (RuleOf problem) shards id pass (suc shard) (λ _. 0) (GivesTurn (step shards (suc shard) 0 0 none) pass)

  -- reading, raising, splitting and joining, which are alike in each search by many passes, whatever the number of shards
  abbrev pub OthersKeepRule : Type 0
  OthersKeepRule = (shards : ℕ) → KeepTheRule admits RuleOf standing parting shards
