-- What follows where a test is true.
use Rattle.std.proofs.Common.{◌≡◌, ◌⊎◌, List, [], ◌∷◌, Bool, true, false, ◌||◌, ◌&&◌, refl, inl, inr}
use Rattle.frontier_turn.specs.declared.view.Snapshot.{Snapshot}
use Rattle.frontier_turn.specs.Snapshots.{nothing_left, is_empty, is_nil}

pub or_true : (a b : Bool) → (a || b) ≡ true → (a ≡ true) ⊎ (b ≡ true)
or_true true b e = inl refl
or_true false b e = inr e

pub and_true : (a b : Bool) → (a && b) ≡ true → (a ≡ true) × (b ≡ true)
and_true true b e = (refl, e)
and_true false b e = absurd (search Rattle.std.proofs.Common.rules)

nil_true : {A : Type 0} (xs : List A) → is_nil xs ≡ true → xs ≡ []
nil_true [] e = refl
nil_true (x ∷ xs) e = absurd (search Rattle.std.proofs.Common.rules)

pub empty_true : (q : Snapshot) → is_empty q ≡ true → q ≡ nothing_left
empty_true q e =
    let both = and_true (is_nil q.open_nodes) (is_nil q.leased) e in
    let a = nil_true q.open_nodes both.0 in
    let b = nil_true q.leased both.1 in
    λ i. record { open_nodes = a i; leased = b i }
