-- How a split search stands as it is closed.
use Rattle.std.specs.Prelude.{◌≡◌, ℕ, ◌<◌, ◌≤◌, List, ℤ, Bool, true, false, min, length, take, All, Contains, slice_index, slice_index_or}
use Rattle.std.specs.Prelude.{Some}
use mathlib.Core.Option.{Option as Maybe, none, some}
use Rattle.atomic_table.specs.Table.{State}
use Rattle.box_search.specs.declared.space.Node.{Node}
use Rattle.box_search.specs.declared.space.Shape.{Shape}
use Rattle.frontier_turn.specs.declared.shared.Closed.{Closed}
use Rattle.frontier_turn.specs.Bags.{total}
use Rattle.split_frontier.specs.declared.parked.Parked.{Parked}
use Rattle.split_frontier.specs.Views.{View}
use Rattle.split_frontier.specs.Rule.{Slot, ShardsRule}
use Rattle.split_frontier.specs.Steps.{shown}

-- a sum as a u64, which is the greatest one where the sum is above it
abbrev pub at_most : ℕ → ℕ
at_most sum = min sum 18446744073709551615

module _ {W : Type 0} where
  -- how many nodes are open, and how many leased, in the frontier of a slot
  abbrev pub open_in : Slot W → ℕ
  open_in slot = length (shown slot).open_nodes

  abbrev pub leased_in : Slot W → ℕ
  leased_in slot = length (shown slot).leased

  -- so many slots are emptied and counted
  pub record AreCounted (slots : List (Slot W)) (filled : List Bool) (count waiting leased : ℕ) : Type 0 where
    pub emptied : (shard : ℕ) → shard < count → slice_index_or filled shard false ≡ false
    pub filled_still : (shard : ℕ) → count ≤ shard → shard < length slots → slice_index_or filled shard false ≡ true
    pub waiting_is : waiting ≡ at_most (total open_in (take count slots))
    pub leased_is : leased ≡ at_most (total leased_in (take count slots))

  -- a frontier is at home
  abbrev pub IsAtHome : Maybe (Slot W) → Type 0
  IsAtHome home = (parked : Parked W) × (home ≡ some (Some parked))

  -- how many nodes are open, and how many leased, in the frontier at home
  abbrev pub open_at : Maybe (Slot W) → ℕ
  open_at none = 0
  open_at (some slot) = open_in slot

  abbrev pub leased_at : Maybe (Slot W) → ℕ
  leased_at none = 0
  leased_at (some slot) = leased_in slot

  module _ (problem : List ℤ) (admits : ℕ → Type 0) (lies_in : ℕ → Shape → Type 0) (fits : Node W → Type 0) where
    -- a moment at which the rule holds, this pass is there, this is the bound word, and the frontiers of all shards are at home
    pub record IsMoment (view : View) (word shards : ℕ) (state : State (Slot W) View) : Type 0 where
      pub rule : ShardsRule problem admits lies_in fits state
      pub seated : Contains state.views view
      pub word_is : slice_index state.words 0 ≡ word
      pub shards_are : length state.homes ≡ shards
      pub at_home : All IsAtHome state.homes

    -- the word and the sums are those of one such moment: how many nodes are open in all frontiers, and how many are out
    pub record ClosesAs (view : View) (shards : ℕ) (closed : Closed) : Type 0 where
      pub state : State (Slot W) View
      pub moment : IsMoment view closed.word shards state
      pub waiting : closed.waiting ≡ at_most (total open_at state.homes)
      pub leased : closed.leased ≡ at_most (total leased_at state.homes)
