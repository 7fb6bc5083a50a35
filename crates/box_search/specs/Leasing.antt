-- What the calls of a frontier do.
use Rattle.std.specs.Prelude.{◌≡◌, ℕ, ◌<◌, ◌≤◌, List, [], ◌∷◌, ◌++◌, length, All, filter, nat_lt}
use Rattle.std.specs.List.Sorted.{IsPermutation}
use Rattle.box_search.specs.declared.space.Node.{Node}
use Rattle.box_search.specs.declared.lease.Entry.{Entry}
use Rattle.box_search.specs.declared.lease.Lease.{Lease}
use Rattle.box_search.specs.declared.lease.Take.{Take}
use Rattle.box_search.specs.declared.lease.Take.TheVariants.{Leased, Idle, Done}
use Rattle.box_search.specs.Entries.{IsLeastFree}
use Rattle.box_search.specs.Contents.{Contents}

module _ {W : Type 0} where
  -- the number, the shape and the bound of a lease
  abbrev pub entry_of : Lease W → Entry
  entry_of lease = record { number = lease.number; shape = lease.node.shape; bound = lease.node.bound }

  -- an open node of greatest bound is leased under the least number that isn't out
  pub record Leases (old : Contents W) (lease : Lease W) (new : Contents W) : Type 0 where
    pub greatest : All (λ node. node.bound ≤ lease.node.bound) old.open_nodes
    pub opened : IsPermutation old.open_nodes (lease.node ∷ new.open_nodes)
    pub leased : IsPermutation (entry_of lease ∷ old.leased) new.leased
    pub number : IsLeastFree old.leased lease.number

  -- nothing is open, something is leased, and nothing changes
  pub record IsIdle (old new : Contents W) : Type 0 where
    pub none_open : old.open_nodes ≡ []
    pub some_leased : 0 < length old.leased
    pub same : new ≡ old

  -- nothing is open or leased, and nothing changes
  pub record IsDone (old new : Contents W) : Type 0 where
    pub none_open : old.open_nodes ≡ []
    pub none_leased : old.leased ≡ []
    pub same : new ≡ old

  -- what a frontier gives
  abbrev pub Takes : Contents W → Take W → Contents W → Type 0
  Takes old (Leased lease) new = Leases old lease new
  Takes old Idle new = IsIdle old new
  Takes old Done new = IsDone old new

  -- the nodes whose bound is above the key
  abbrev pub above : ℕ → List (Node W) → List (Node W)
  above seen nodes = filter (λ node. nat_lt seen node.bound) nodes

  -- the lease has ended, and the nodes above the key are open
  pub record Finishes (old : Contents W) (lease : Lease W) (nodes : List (Node W)) (seen : ℕ) (new : Contents W) : Type 0 where
    pub opened : IsPermutation (above seen nodes ++ old.open_nodes) new.open_nodes
    pub leased : IsPermutation old.leased (entry_of lease ∷ new.leased)

  -- the lease has ended, and its node is open again
  pub record Reopens (old : Contents W) (lease : Lease W) (new : Contents W) : Type 0 where
    pub opened : IsPermutation (lease.node ∷ old.open_nodes) new.open_nodes
    pub leased : IsPermutation old.leased (entry_of lease ∷ new.leased)

  -- the nodes above the key are open too
  pub record Adds (old : Contents W) (nodes : List (Node W)) (seen : ℕ) (new : Contents W) : Type 0 where
    pub opened : IsPermutation (above seen nodes ++ old.open_nodes) new.open_nodes
    pub leased : new.leased ≡ old.leased

  -- the lease has ended, and its node is gone
  pub record Ends (old : Contents W) (lease : Lease W) (new : Contents W) : Type 0 where
    pub opened : new.open_nodes ≡ old.open_nodes
    pub leased : IsPermutation old.leased (entry_of lease ∷ new.leased)
