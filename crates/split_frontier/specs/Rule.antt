-- The rule of the split search: one relation over the words, the frontiers and all views, which holds between any two steps.
use Rattle.std.specs.Prelude.{◌≡◌, ℕ, suc, ◌<◌, ◌≤◌, List, [], ◌∷◌, ℤ, Bool, true, false, ◌||◌, eqb, length, slice_index}
use Rattle.std.specs.Prelude.{All, Any, Option, Some, None, ◌⊎◌}
use mathlib.Core.Option.{Option as Maybe, none, some}
use lib.ListN.{get_elem?}
use Rattle.atomic_table.specs.Table.{State}
use Rattle.box_search.specs.declared.space.Node.{Node}
use Rattle.box_search.specs.declared.space.Shape.{Shape}
use Rattle.box_search.specs.declared.lease.Entry.{Entry}
use Rattle.box_search.specs.Search.{IsSound}
use Rattle.frontier_turn.specs.declared.view.Snapshot.{Snapshot}
use Rattle.frontier_turn.specs.Bags.{total, one_if}
use Rattle.frontier_turn.specs.Snapshots.{snapshot_of, nothing_left, NumbersDiffer}
use Rattle.split_frontier.specs.declared.parked.Parked.{Parked}
use Rattle.split_frontier.specs.Claims.{of_home, IsClaimed}
use Rattle.split_frontier.specs.Views.{View, blank}

-- what a slot has: a frontier, or nothing while a pass has it
abbrev pub Slot : Type 0 → Type 0
Slot W = Option (Parked W)

abbrev pub parts_of : View → ℕ
parts_of view = view.rest.parts

abbrev pub is_shard : ℕ → Option ℕ → Bool
is_shard shard None = false
is_shard shard (Some other) = eqb other shard

-- 1 for a pass that holds the turn of the shard
abbrev pub held_by : ℕ → View → ℕ
held_by shard view = one_if (is_shard shard view.rest.holds)

-- the weights of the leases of a shard that a pass names, added up
abbrev pub named_by : ℕ → (Entry → ℕ) → View → ℕ
named_by shard weight view = total (of_home shard weight) view.rest.leases

abbrev pub is_listed : List ℕ → ℕ → Bool
is_listed [] shard = false
is_listed (other ∷ others) shard = eqb other shard || is_listed others shard

-- what a live pass knows of the bound word and of the frontiers of the moment
pub record Knows (problem : List ℤ) (word : ℕ) (now : ℕ → Snapshot) (view : View) : Type 0 where
  pub problem_is : view.rest.problem ≡ problem
  pub seen : view.seen ≤ word
  pub taken : (shard : ℕ) → is_shard shard view.rest.holds ≡ true → view.rest.taken ≡ now shard
  pub empties : view.rest.parts ≡ 18446744073709551616
      → (shard : ℕ) → is_listed view.rest.empties shard ≡ true → now shard ≡ nothing_left

-- a pass with parts is live, and one without was joined away
pub record IsPass (problem : List ℤ) (word : ℕ) (now : ℕ → Snapshot) (view : View) : Type 0 where
  pub live : 0 < view.rest.parts → Knows problem word now view
  pub spent : view.rest.parts ≡ 0 → view ≡ blank

-- the key lies in the shape of an open node of some frontier of the moment
abbrev pub IsOpen : (ℕ → Shape → Type 0) → (ℕ → Snapshot) → ℕ → Type 0
IsOpen lies_in now key = (shard : ℕ) × Any (λ node. lies_in key node.shape) (now shard).open_nodes

-- the key lies in the shape of an unspent lease of some pass
abbrev pub IsOut : (ℕ → Shape → Type 0) → List View → ℕ → Type 0
IsOut lies_in views key = (id : ℕ) × (view : View) × (get_elem? views id ≡ some view) × IsClaimed lies_in view.rest.leases key

module _ {W : Type 0} (problem : List ℤ) (admits : ℕ → Type 0) (lies_in : ℕ → Shape → Type 0) (fits : Node W → Type 0) where
  -- a shard's turn word is 0, no pass holds its turn, and its frontier of the moment is at home, with open nodes that fit
  pub record IsFree (turn : ℕ) (home : Maybe (Slot W)) (holders : ℕ) (now : Snapshot) : Type 0 where
    pub zero : turn ≡ 0
    pub nobody : holders ≡ 0
    pub parked : Parked W
    pub at_home : home ≡ some (Some parked)
    pub shows : snapshot_of parked.frontier ≡ now
    pub fitting : All fits parked.frontier.open_nodes

  -- its turn word is 1, exactly one pass holds its turn, and no frontier is at home
  pub record IsHeld (turn : ℕ) (home : Maybe (Slot W)) (holders : ℕ) : Type 0 where
    pub one : turn ≡ 1
    pub somebody : holders ≡ 1
    pub away : home ≡ none

  abbrev pub IsTurned : ℕ → Maybe (Slot W) → ℕ → Snapshot → Type 0
  IsTurned turn home holders now = IsFree turn home holders now ⊎ IsHeld turn home holders

  -- the seven clauses, of the words, what is in the slots, and the views
  pub record ShardsClauses (words : List ℕ) (homes : List (Maybe (Slot W))) (views : List View) : Type 0 where
    -- the frontiers of the moment: of each shard the one at home, or the one that the holder took
    pub now : ℕ → Snapshot
    pub beyond : (shard : ℕ) → length homes ≤ shard → now shard ≡ nothing_left
    -- word 0 is the bound word, and each shard has the turn word after its number
    pub turn_words : length words ≡ suc (length homes)
    -- 1: the parts of all passes add up to 2 ^ 64
    pub parts : total parts_of views ≡ 18446744073709551616
    -- 1, 2 and 7: each live pass has this problem and has seen no more than the word; the empties of one with all parts are empty
    pub each : (id : ℕ) (view : View) → get_elem? views id ≡ some view → IsPass problem (slice_index words 0) now view
    -- 2: the word is 0 or an admitted key
    pub sound : IsSound admits (slice_index words 0)
    -- 3 and 5: of each shard the turn is free and the frontier at home, or one pass holds it
    pub turned : (shard : ℕ) (home : Maybe (Slot W)) → get_elem? homes shard ≡ some home
        → IsTurned (slice_index words (suc shard)) home (total (held_by shard) views) (now shard)
    -- 4: each admitted key is at most the word, or lies in an open shape or in one of an unspent lease
    pub covered : (key : ℕ) → admits key → (key ≤ slice_index words 0) ⊎ (IsOpen lies_in now key ⊎ IsOut lies_in views key)
    -- 6: of each shard the leased entries are exactly the leases that the passes name
    pub leases : (shard : ℕ) (weight : Entry → ℕ) → total (named_by shard weight) views ≡ total weight (now shard).leased
    -- 6: of each shard their numbers differ
    pub numbers : (shard : ℕ) → NumbersDiffer (now shard).leased

  -- the rule, of all that is shared and of all views
  abbrev pub ShardsRule : State (Slot W) View → Type 0
  ShardsRule state = ShardsClauses state.words state.homes state.views
