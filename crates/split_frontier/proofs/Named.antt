-- The leases that a pass names: what is left without one of them, and that each is leased at its home.
use Rattle.std.proofs.Common.{◌≡◌, ℕ, ◌≤◌, ◌≢◌, List, [], ◌∷◌, Bool, true, false, eqb, Contains, sym, refl, ap, ◌∙◌, inl, inr, subst, arith, ne_eqb}
use Rattle.std.specs.Prelude.{IsPermutation}
use Rattle.std.proofs.lemmas.Bool.{eqb-true, eq-eqb}
use Rattle.std.proofs.lemmas.List.Sorted.{IsPermutation-refl, IsPermutation-cons, IsPermutation-swap, IsPermutation-trans}
use Rattle.box_search.specs.declared.lease.Entry.{Entry}
use Rattle.box_search.proofs.Lists.{Contains-cons_cases}
use Rattle.frontier_turn.specs.Bags.{total}
use Rattle.frontier_turn.specs.Snapshots.{numbered}
use Rattle.frontier_turn.proofs.Bags.{total_part, numbered_self, entry_same, same_as, counts_self, counted_item}
use Rattle.frontier_turn.proofs.Items.{Contains-item, item_Contains}
use Rattle.frontier_turn.proofs.Truths.{and_true}
use Rattle.split_frontier.specs.declared.view.Claim.{Claim}
use Rattle.split_frontier.specs.Claims.{is_at, of_home, ClaimsDiffer, without}

-- what an item of a list weighs
pub weighed : (weight : Claim → ℕ) (claims : List Claim) (c : Claim) → Contains claims c → weight c ≤ total weight claims
weighed weight claims c there = let at = item_Contains claims c there in total_part weight claims at.0 c at.1

pub of_home_self : (h : Entry → ℕ) (c : Claim) (home : ℕ) → c.home ≡ home → of_home home h c ≡ h c.entry
of_home_self h c home is = rw (eq-eqb c.home home is) refl

pub of_home_else : (h : Entry → ℕ) (c : Claim) (home : ℕ) → c.home ≢ home → of_home home h c ≡ 0
of_home_else h c home apart = rw (ne_eqb c.home home apart) refl

is_at_self : (c : Claim) → is_at c.home c.entry.number c ≡ true
is_at_self c = rw (eq-eqb c.home c.home refl, eq-eqb c.entry.number c.entry.number refl) refl

-- all but one of the leases, and that one, are all
pub parted : (claims : List Claim) (c : Claim) → Contains claims c → ClaimsDiffer claims → IsPermutation claims (c ∷ without c.home c.entry.number claims)
parted [] c (k, inside, at) differ = absurd (omega arith)
parted (x ∷ xs) c there differ =
    let number = c.entry.number in
    elim (Contains-cons_cases x xs c there) [
      | inl same ↦
          let is : is_at c.home number x ≡ true = ap (is_at c.home number) same ∙ is_at_self c in
          rw is (subst (λ (y : Claim). IsPermutation (x ∷ xs) (y ∷ xs)) same (IsPermutation-refl (x ∷ xs)))
      | inr rest ↦ chosen rest (is_at c.home number x) refl (parted xs c rest (λ home n. let once = differ home n in omega arith))
    ] where
      chosen : Contains xs c → (b : Bool) → is_at c.home c.entry.number x ≡ b → IsPermutation xs (c ∷ without c.home c.entry.number xs) → IsPermutation (x ∷ xs) (c ∷ without c.home c.entry.number (x ∷ xs))
      chosen rest true is more =
          let number = c.entry.number in
          let both = and_true (eqb x.home c.home) (eqb x.entry.number number) is in
          let h = numbered number in
          let x_weighs : of_home c.home h x ≡ 1 = of_home_self h x c.home (eqb-true x.home c.home both.0) ∙ (ap (λ (n : ℕ). numbered n x.entry) (sym (eqb-true x.entry.number number both.1)) ∙ numbered_self x.entry) in
          let c_weighs : of_home c.home h c ≡ 1 = of_home_self h c c.home refl ∙ numbered_self c.entry in
          let part = weighed (of_home c.home h) xs c rest in
          let once = differ c.home number in
          absurd (omega arith)
      chosen rest false is more =
          let others = without c.home c.entry.number xs in
          rw is (IsPermutation-trans (x ∷ xs) (x ∷ c ∷ others) (c ∷ x ∷ others) (IsPermutation-cons x xs (c ∷ others) more) (IsPermutation-swap (x ∷ c ∷ others) (c ∷ x ∷ others) 0 1 (omega arith) (omega arith) refl))

-- where each lease of this home is an entry, each stands among the entries
pub is_entry : (claims : List Claim) (entries : List Entry) (c : Claim) → ((weight : Entry → ℕ) → total (of_home c.home weight) claims ≤ total weight entries) → Contains claims c → Contains entries c.entry
is_entry claims entries c leased there =
    let h : Entry → ℕ = λ x. same_as (entry_same c.entry x) in
    let part = weighed (of_home c.home h) claims c there in
    let one : of_home c.home h c ≡ 1 = of_home_self h c c.home refl ∙ counts_self c.entry (entry_same c.entry c.entry) in
    let all = leased h in
    Contains-item entries c.entry (counted_item c.entry entries (omega arith))
