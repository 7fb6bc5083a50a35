-- What a pass that names one lease at most knows of it, from turn to turn.
use Rattle.std.proofs.Common.{◌≡◌, ℕ, List, [], ◌∷◌, length, sym, ap, ◌∙◌, subst, arith, Contains}
use Rattle.std.proofs.lemmas.List.{nil_from_length}
use Rattle.std.proofs.lemmas.List.Sorted.{length_permutation}
use Rattle.box_search.specs.declared.space.Node.{Node}
use Rattle.box_search.specs.declared.lease.Lease.{Lease}
use Rattle.box_search.specs.declared.lease.Take.{Take}
use Rattle.box_search.specs.declared.lease.Take.TheVariants.{Leased, Idle, Done}
use Rattle.frontier_turn.specs.Holding.{TakesFitting}
use Rattle.box_search.proofs.Lists.{Contains-head}
use Rattle.split_frontier.specs.declared.view.Claim.{Claim}
use Rattle.split_frontier.specs.Claims.{unspent, spent}
use Rattle.split_frontier.specs.Holding.{Names, Unnames, Spends, NamesOnly}

pub names_only : {W : Type 0} (fits : Node W → Type 0) (home : ℕ) (old new : List Claim) (t : Take W) → old ≡ [] → Names home old t new → TakesFitting fits t → NamesOnly home fits t new
names_only fits home old new (Leased l) none names fit = (names ∙ ap (λ (cs : List Claim). unspent home l ∷ cs) none, fit)
names_only fits home old new Idle none names fit = names ∙ none
names_only fits home old new Done none names fit = names ∙ none

-- the pass names just this lease
pub only_named : (old : List Claim) (c : Claim) → old ≡ c ∷ [] → Contains old c
only_named old c is = subst (λ (cs : List Claim). Contains cs c) (sym is) (Contains-head c [])

-- in a turn of the lease's home it does so too
pub only_named_here : (old : List Claim) (named_at : ℕ → Claim) (home shard : ℕ) → old ≡ named_at home ∷ [] → shard ≡ home → Contains old (named_at shard)
only_named_here old named_at home shard is here = only_named old (named_at shard) (is ∙ ap (λ (place : ℕ). named_at place ∷ []) (sym here))

-- it named just this lease, and names it no more
pub none_left : (old new : List Claim) (c d : Claim) → old ≡ c ∷ [] → Unnames old d new → new ≡ []
none_left old new c d is moved = nil_from_length new (let long : length old ≡ 1 = ap length is in omega (arith, length_permutation old (d ∷ new) moved))

-- it named just this lease, and names it as a spent one
pub spent_left : {W : Type 0} (old new : List Claim) (c : Claim) (home : ℕ) (l : Lease W) → old ≡ c ∷ [] → Spends old home l new → new ≡ spent home l ∷ []
spent_left old new c home l is (others, moved, now) = now ∙ ap (λ (cs : List Claim). spent home l ∷ cs) (none_left old others c (unspent home l) is moved)
