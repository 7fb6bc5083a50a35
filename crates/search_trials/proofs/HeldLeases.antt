-- Entries and the leases that stand for them.
use Rattle.std.proofs.Common.{◌≡◌, ℕ, ◌<◌, List, [], ◌∷◌, ◌++◌, map, length, get_or, remove, Contains, refl, arith}
use Rattle.std.specs.List.Sorted.{IsPermutation}
use Rattle.std.proofs.lemmas.List.Sorted.{IsPermutation-remove}
use Rattle.box_search.specs.declared.lease.Entry.{Entry}
use Rattle.box_search.specs.declared.lease.Lease.{Lease}
use Rattle.box_search.specs.Leasing.{entry_of}
use Rattle.frontier_turn.specs.Bags.{total, IsSameBag}
use Rattle.frontier_turn.proofs.Bags.{total_snoc, permuted_total, permutation_of}
use Rattle.std.proofs.lemmas.List.Sorted.{Contains-permutation, IsPermutation-sym}
use Rattle.search_trials.specs.Held.{HoldsAll}

total_map : {X Y : Type 0} (weight : Y → ℕ) (f : X → Y) (xs : List X) → total weight (map f xs) ≡ total (λ x. weight (f x)) xs
total_map weight f [] = refl
total_map weight f (x ∷ xs) = omega (arith, total_map weight f xs)

module _ {W : Type 0} where
  -- a lease that was given is held too
  pub holds_more : (old new : List Entry) (leases : List (Lease W)) (lease : Lease W) → HoldsAll old leases → IsPermutation (entry_of lease ∷ old) new → HoldsAll new (leases ++ lease ∷ [])
  holds_more old new leases lease held moved = λ weight.
      omega (arith, permuted_total weight (entry_of lease ∷ old) new moved, held weight, total_snoc (λ (one : Lease W). weight (entry_of one)) leases lease)

  -- the entry of a lease that is held, and those of the others
  taken_apart : (entries : List Entry) (leases : List (Lease W)) (place : ℕ) (lease : Lease W) → HoldsAll entries leases → place < length leases → lease ≡ get_or leases place lease → IsSameBag entries (entry_of lease ∷ map entry_of (remove leases place))
  taken_apart entries leases place lease held within is = λ weight.
      let of_lease : Lease W → ℕ = λ one. weight (entry_of one) in
      omega (arith, held weight, permuted_total of_lease leases (lease ∷ remove leases place) (IsPermutation-remove leases place lease within is), total_map weight entry_of (remove leases place))

  -- a lease that is held is out
  pub held_is_out : (entries : List Entry) (leases : List (Lease W)) (place : ℕ) (lease : Lease W) → HoldsAll entries leases → place < length leases → lease ≡ get_or leases place lease → Contains entries (entry_of lease)
  held_is_out entries leases place lease held within is =
      let others = map entry_of (remove leases place) in
      let moved = permutation_of entries (entry_of lease ∷ others) (taken_apart entries leases place lease held within is) in
      Contains-permutation (entry_of lease ∷ others) entries (entry_of lease) (IsPermutation-sym entries (entry_of lease ∷ others) moved) (0, omega arith, refl)

  -- a lease that has ended is held no more
  pub holds_less : (old new : List Entry) (leases : List (Lease W)) (place : ℕ) (lease : Lease W) → HoldsAll old leases → place < length leases → lease ≡ get_or leases place lease → IsPermutation old (entry_of lease ∷ new) → HoldsAll new (remove leases place)
  holds_less old new leases place lease held within is moved = λ weight.
      let apart = taken_apart old leases place lease held within is weight in
      omega (arith, apart, permuted_total weight old (entry_of lease ∷ new) moved, total_map weight entry_of (remove leases place))
