-- The leases that a test holds.
use Rattle.box_search.specs.declared.lease.Entry.{Entry}
use Rattle.std.specs.Prelude.{◌≡◌, ℕ, List}
use Rattle.box_search.specs.declared.lease.Lease.{Lease}
use Rattle.box_search.specs.Leasing.{entry_of}
use Rattle.frontier_turn.specs.Bags.{total}

-- the entries are those of the leases, each as often: every way to weigh them agrees
abbrev pub HoldsAll : {W : Type 0} → List Entry → List (Lease W) → Type 0
HoldsAll entries leases = (weight : Entry → ℕ) → total weight entries ≡ total (λ lease. weight (entry_of lease)) leases
