-- What contracts see of a turn.
use Rattle.std.specs.Prelude.{◌≡◌, ℕ, suc, ◌<◌, ◌≤◌, List, [], ◌∷◌, ℤ, None, Some, All, Contains}
use Rattle.std.specs.List.Sorted.{IsPermutation}
use Rattle.atomic_table.specs.Seated.{TableId}
use Rattle.box_search.specs.declared.space.Node.{Node}
use Rattle.box_search.specs.declared.space.Shape.{Shape}
use Rattle.box_search.specs.declared.lease.Entry.{Entry}
use Rattle.box_search.specs.declared.lease.Lease.{Lease}
use Rattle.box_search.specs.declared.lease.Take.{Take}
use Rattle.box_search.specs.declared.lease.Take.TheVariants.{Leased, Idle, Done}
use Rattle.box_search.specs.Contents.{Contents}
use Rattle.frontier_turn.specs.Bags.{total}
use Rattle.split_frontier.specs.declared.view.Claim.{Claim}
use Rattle.split_frontier.specs.Views.{View}
use Rattle.split_frontier.specs.declared.parked.Naming.{Naming}
use Rattle.split_frontier.specs.Claims.{unspent, spent, of_home, ClaimsDiffer, claims_after}
use Rattle.split_frontier.specs.Steps.{Seated, MayReturn}

-- a turn: the name of its search, its shard, the view as the turn was taken, and the frontier and the leases as they are now
pub record ShardHold (W : Type 0) : Type 0 where
  pub table_id : TableId
  pub shard : ℕ
  pub view : View
  pub frontier : Contents W
  pub leases : List Claim

module _ {W : Type 0} (problem : List ℤ) (admits : ℕ → Type 0) (lies_in : ℕ → Shape → Type 0) (fits : Node W → Type 0) where
  -- what a turn keeps: it is this search's, it holds the shard's turn with the empty slot in hand, and its frontier may go back
  pub record IsTurn (table_id seat_id : TableId) (me : Seated W) (shard : ℕ) (frontier : Contents W) (naming : Naming) : Type 0 where
    pub own : seat_id ≡ table_id
    pub words : table_id.words ≡ suc table_id.slots
    pub there : shard < table_id.slots
    pub problem_is : me.0.rest.problem ≡ problem
    pub live : 0 < me.0.rest.parts
    pub holds : me.0.rest.holds ≡ Some shard
    pub carried : me.1 ≡ (shard, None) ∷ []
    pub leased : (weight : Entry → ℕ) → total (of_home shard weight) me.0.rest.leases ≤ total weight me.0.rest.taken.leased
    pub differ : ClaimsDiffer me.0.rest.leases
    pub may_return : MayReturn admits lies_in fits me.0 shard frontier (claims_after me.0.rest.leases naming)

-- each lease of this shard that the pass names is leased
abbrev pub AreLeased : {W : Type 0} → ℕ → List Claim → Contents W → Type 0
AreLeased shard claims frontier = All (λ claim. claim.home ≡ shard → Contains frontier.leased claim.entry) claims

-- the pass names the new lease too, unspent
abbrev pub Names : {W : Type 0} → ℕ → List Claim → Take W → List Claim → Type 0
Names shard old (Leased lease) new = new ≡ unspent shard lease ∷ old
Names shard old Idle new = new ≡ old
Names shard old Done new = new ≡ old

-- the pass names the lease no more, and all others as before
abbrev pub Unnames : List Claim → Claim → List Claim → Type 0
Unnames old claim new = IsPermutation old (claim ∷ new)

-- the lease is spent now, and all others are as before
abbrev pub Spends : {W : Type 0} → List Claim → ℕ → Lease W → List Claim → Type 0
Spends old home lease new = (others : List Claim) × IsPermutation old (unspent home lease ∷ others) × (new ≡ spent home lease ∷ others)

-- a pass names just the lease that was given, whose node fits, or none
abbrev pub NamesOnly : {W : Type 0} → ℕ → (Node W → Type 0) → Take W → List Claim → Type 0
NamesOnly home fits (Leased lease) claims = (claims ≡ unspent home lease ∷ []) × fits lease.node
NamesOnly home fits Idle claims = claims ≡ []
NamesOnly home fits Done claims = claims ≡ []
