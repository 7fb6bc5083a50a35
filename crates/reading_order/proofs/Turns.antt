-- A cycle can start at any of its members.
use Rattle.std.proofs.Common.{◌≡◌, ℕ, ◌+◌, ◌<◌, ◌≤◌, List, [], ◌∷◌, ◌++◌, get_or, take, drop, eqb, sym, subst, ⊎_elim, All}
use Rattle.std.specs.List.Sorted.{IsPermutation}
use Rattle.std.proofs.lemmas.Bool.{cases_lt}
use Rattle.std.proofs.lemmas.List.{take-append-drop, drop_more, append-nil}
use Rattle.std.proofs.lemmas.List.Sorted.{IsPermutation-append_comm, All-permutation}
use Rattle.std.proofs.lemmas.Map.Keys.{IsDistinct-IsPermutation}
use Rattle.std.proofs.lemmas.List.Elements.{All-head}
use Rattle.reading_order.specs.Cycles.{Leads, IsCycle}
use Rattle.reading_order.proofs.Members.{eqb_flips}

module _ (before : ℕ → ℕ → Type 0) (limit : ℕ) where
  leads_split : (x : ℕ) (xs : List ℕ) (z : ℕ) (zs : List ℕ) (y : ℕ) → Leads before x (xs ++ z ∷ zs) y → Leads before x xs z × Leads before z zs y
  leads_split x [] z zs y h = (h.0, h.1)
  leads_split x (w ∷ ws) z zs y h = let r = leads_split w ws z zs y h.1 in ((h.0, r.0), r.1)

  pub leads_join : (x : ℕ) (xs : List ℕ) (z : ℕ) (zs : List ℕ) (y : ℕ) → Leads before x xs z → Leads before z zs y → Leads before x (xs ++ z ∷ zs) y
  leads_join x [] z zs y first second = (first, second)
  leads_join x (w ∷ ws) z zs y first second = (first.0, leads_join w ws z zs y first.1 second)

  turned : (front : List ℕ) (z : ℕ) (zs : List ℕ) → IsCycle before limit (front ++ z ∷ zs) → IsCycle before limit ((z ∷ zs) ++ front)
  turned [] z zs is = rw append-nil is
  turned (a ∷ rest) z zs is =
      let parts = leads_split a rest z zs a is.ring in
      let moved : IsPermutation ((a ∷ rest) ++ z ∷ zs) ((z ∷ zs) ++ a ∷ rest) = IsPermutation-append_comm (a ∷ rest) (z ∷ zs) in
      record {
        ring = leads_join z zs a rest z parts.1 parts.0;
        distinct = IsDistinct-IsPermutation eqb eqb_flips ((a ∷ rest) ++ z ∷ zs) ((z ∷ zs) ++ a ∷ rest) moved is.distinct;
        within = All-permutation (λ x. x < limit) ((a ∷ rest) ++ z ∷ zs) ((z ∷ zs) ++ a ∷ rest) moved is.within;
      }

  -- where no cycle starts below a number, no cycle has a member below it
  pub none_below : (start : ℕ) → ((cycle : List ℕ) → IsCycle before limit cycle → get_or cycle 0 0 < start → ⊥) → (cycle : List ℕ) → IsCycle before limit cycle → All (λ x. start ≤ x) cycle
  none_below start none cycle is = λ k d within.
      ⊎_elim
      (λ less.
      let z = get_or cycle k d in
      let split : take k cycle ++ z ∷ drop (k + 1) cycle ≡ cycle = rw (← drop_more cycle k d within) (take-append-drop k cycle) in
      let P : List ℕ → Type 0 = λ xs. IsCycle before limit xs in
      let other = turned (take k cycle) z (drop (k + 1) cycle) (subst P (sym split) is) in
      absurd (none ((z ∷ drop (k + 1) cycle) ++ take k cycle) other less))
      (λ more. more)
      (cases_lt (get_or cycle k d) start)

  pub start_low : (cycle : List ℕ) → IsCycle before limit cycle → get_or cycle 0 0 < limit
  start_low [] is = absurd is.ring
  start_low (x ∷ xs) is = All-head (λ z. z < limit) x xs is.within
