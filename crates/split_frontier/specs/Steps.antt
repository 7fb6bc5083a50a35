-- What each step tells its pass, and when the turn of a shard may be given back.
use Rattle.std.specs.Prelude.{◌≡◌, ℕ, suc, ◌+◌, ◌≤◌, ◌≢◌, ◌⊎◌, List, [], ◌∷◌, ℤ, All, Any, Some, None}
use Rattle.atomic_table.specs.Table.{Me, Step, rest}
use Rattle.box_search.specs.declared.space.Node.{Node}
use Rattle.box_search.specs.declared.space.Shape.{Shape}
use Rattle.box_search.specs.declared.lease.Entry.{Entry}
use Rattle.box_search.specs.Contents.{Contents}
use Rattle.frontier_turn.specs.declared.view.Snapshot.{Snapshot}
use Rattle.frontier_turn.specs.Bags.{total}
use Rattle.frontier_turn.specs.Snapshots.{snapshot_of, nothing_left, NumbersDiffer}
use Rattle.split_frontier.specs.declared.view.Claim.{Claim}
use Rattle.split_frontier.specs.declared.parked.Parked.{Parked}
use Rattle.split_frontier.specs.Claims.{of_home, unspent_of_home, ClaimsDiffer, claims_after, IsClaimed}
use Rattle.split_frontier.specs.Rule.{Slot}
use Rattle.split_frontier.specs.Views.{View, meets, takes_turn, leaves_turn}

-- a pass at the table: its view, and the slots that it has
abbrev pub Seated : Type 0 → Type 0
Seated W = Me (Slot W) View

-- the key is still to be found: it lies in an open shape, or in the shape of an unspent lease of the pass
abbrev pub IsToBeFound : (ℕ → Shape → Type 0) → Snapshot → List Claim → ℕ → Type 0
IsToBeFound lies_in snapshot claims key =
    Any (λ node. lies_in key node.shape) snapshot.open_nodes ⊎ IsClaimed lies_in claims key

module _ {W : Type 0} where
  -- what the holder of a shard's turn finds: nodes that fit, numbers that differ, and each lease of this home that it names
  pub record Finds (fits : Node W → Type 0) (shard : ℕ) (claims : List Claim) (frontier : Contents W) : Type 0 where
    pub fitting : All fits frontier.open_nodes
    pub numbers : NumbersDiffer frontier.leased
    pub leased : (weight : Entry → ℕ) → total (of_home shard weight) claims ≤ total weight frontier.leased
    pub differ : ClaimsDiffer claims

  -- take the turn of the shard of this word: where the word was 0 the pass has the frontier, and where it was 1 another holds the turn
  abbrev pub TakesTurn : (List ℤ → Node W → Type 0) → Step (Slot W) → Seated W → ℕ → Seated W → Type 0
  TakesTurn fits step before found after = (shard : ℕ) → step.word ≡ suc shard
      → (found ≡ 0 → (parked : Parked W)
      × (after.0 ≡ takes_turn before.0 shard (snapshot_of parked.frontier))
      × (after.1 ≡ (shard, Some parked) ∷ before.1)
      × Finds (fits before.0.rest.problem) shard before.0.rest.leases parked.frontier)
      × (found ≢ 0 → (after.0 ≡ meets shard before.0) × (after.1 ≡ before.1))

  abbrev pub shown : Slot W → Snapshot
  shown (Some parked) = snapshot_of parked.frontier
  shown None = nothing_left

  -- the frontier that the pass has in its slot
  abbrev pub carried : List (ℕ × Slot W) → Snapshot
  carried [] = nothing_left
  carried (slot ∷ slots) = shown slot.1

  abbrev pub renamed : List Claim → Slot W → List Claim
  renamed claims (Some parked) = claims_after claims parked.naming.value
  renamed claims None = claims

  -- the leases of the turn: those of the pass, and what was done to them since
  abbrev pub claims_then : List Claim → List (ℕ × Slot W) → List Claim
  claims_then claims [] = claims
  claims_then claims (slot ∷ slots) = renamed claims slot.1

  -- give the turn of the shard of this word back
  abbrev pub GivesTurn : Step (Slot W) → Seated W → ℕ → Seated W → Type 0
  GivesTurn step before found after = (shard : ℕ) → step.word ≡ suc shard
      → (after.0 ≡ leaves_turn before.0 shard (carried before.1) (claims_then before.0.rest.leases before.1))
      × (after.1 ≡ rest before.1)

  module _ (admits : ℕ → Type 0) (lies_in : ℕ → Shape → Type 0) (fits : Node W → Type 0) where
    -- the five conditions on which the holder of a shard's turn may give this frontier back, when it names these leases
    pub record MayReturn (view : View) (shard : ℕ) (frontier : Contents W) (claims : List Claim) : Type 0 where
      -- each admitted key that the pass had still to find is at most what it has seen, or is still to be found
      pub covers : (key : ℕ) → admits key → IsToBeFound lies_in view.rest.taken view.rest.leases key
          → (key ≤ view.seen) ⊎ IsToBeFound lies_in (snapshot_of frontier) claims key
      -- the open nodes fit
      pub fitting : All fits frontier.open_nodes
      -- the leased entries beside those of the pass are as they were
      pub others : (weight : Entry → ℕ)
          → total weight frontier.leased + total (of_home shard weight) view.rest.leases
          ≡ total weight view.rest.taken.leased + total (of_home shard weight) claims
      -- the leases of other homes are as they were, but that some of them are spent now
      pub foreign : (home : ℕ) → home ≢ shard → (weight : Entry → ℕ)
          → total (of_home home weight) claims ≡ total (of_home home weight) view.rest.leases
      pub spent : (home : ℕ) → home ≢ shard → (weight : Entry → ℕ)
          → total (unspent_of_home home weight) claims ≤ total (unspent_of_home home weight) view.rest.leases
      -- all numbers of this home differ
      pub numbers : NumbersDiffer frontier.leased
