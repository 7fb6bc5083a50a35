-- What is known of a pass that goes round the shards.
use Rattle.std.specs.Prelude.{◌≡◌, ℕ, ◌<◌, List, [], ◌∷◌}
use Rattle.box_search.specs.declared.space.Node.{Node}
use Rattle.box_search.specs.declared.lease.Lease.{Lease}
use Rattle.split_frontier.specs.declared.view.Claim.{Claim}
use Rattle.split_frontier.specs.Callers.{ShardsHome, ShardsPass, IsOwn}
use Rattle.split_frontier.specs.Claims.{unspent}
use Rattle.lease_workers.specs.declared.crew.Found.{Found}
use Rattle.lease_workers.specs.declared.crew.Found.TheVariants.{Leased, Busy, Done}

-- a worker may look for a lease: it has one of so many shards, which are all, and a pass of this search that names none
pub record MayLook (shards shard : ℕ) (home : ShardsHome) (pass : ShardsPass) : Type 0 where
  pub shards_are : shards ≡ home.shards
  pub there : shard < shards
  pub own : IsOwn home pass
  pub unnamed : pass.view.rest.leases ≡ []

-- a pass comes back: it is still this search's, and has as many parts as before
pub record ComesBack (home : ShardsHome) (before after : ShardsPass) : Type 0 where
  pub own : IsOwn home after
  pub parts : after.view.rest.parts ≡ before.view.rest.parts

-- a pass names just this lease of this home, unspent, and its node fits
pub record NamesLease {W : Type 0} (fits : Node W → Type 0) (shards home : ℕ) (lease : Lease W) (claims : List Claim) : Type 0 where
  pub there : home < shards
  pub named : claims ≡ unspent home lease ∷ []
  pub fitting : fits lease.node

-- a pass names just the lease that was found, or none
abbrev pub NamesFound : {W : Type 0} → (Node W → Type 0) → ℕ → Found W → List Claim → Type 0
NamesFound fits shards (Leased home lease) claims = NamesLease fits shards home lease claims
NamesFound fits shards Busy claims = claims ≡ []
NamesFound fits shards Done claims = claims ≡ []
