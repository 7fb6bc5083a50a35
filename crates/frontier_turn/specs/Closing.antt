-- How a search stands as it is closed.
use Rattle.std.specs.Prelude.{◌≡◌, ℕ, List, ℤ, length, slice_index, Contains, Option, Some}
use mathlib.Core.Option.{some}
use lib.ListN.{get_elem?}
use Rattle.atomic_table.specs.Table.{State}
use Rattle.box_search.specs.declared.space.Node.{Node}
use Rattle.box_search.specs.declared.space.Shape.{Shape}
use Rattle.box_search.specs.Contents.{Contents}
use Rattle.frontier_turn.specs.declared.shared.Closed.{Closed}
use Rattle.frontier_turn.specs.Views.{View}
use Rattle.frontier_turn.specs.Rule.{SharedRule}

module _ {W : Type 0} (problem : List ℤ) (admits : ℕ → Type 0) (lies_in : ℕ → Shape → Type 0) (fits : Node W → Type 0) where
  -- a moment at which the rule holds, this pass is there, the bound word is this one, and this frontier is at home
  pub record IsMoment (view : View) (word : ℕ) (frontier : Contents W) : Type 0 where
    pub state : State (Option (Contents W)) View
    pub rule : SharedRule problem admits lies_in fits state
    pub seated : Contains state.views view
    pub word_is : slice_index state.words 0 ≡ word
    pub at_home : get_elem? state.homes 0 ≡ some (some (Some frontier))

  -- the word and the counts are those of one such moment: how many nodes are open in the frontier, and how many are out
  pub record ClosesAs (view : View) (closed : Closed) : Type 0 where
    pub frontier : Contents W
    pub moment : IsMoment view closed.word frontier
    pub waiting : closed.waiting ≡ length frontier.open_nodes
    pub leased : closed.leased ≡ length frontier.leased
