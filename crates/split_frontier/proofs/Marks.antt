-- Which shards are among the empties of a pass that has given a turn back.
use Rattle.std.proofs.Common.{◌≡◌, ℕ, ◌≢◌, ◌⊎◌, List, [], ◌∷◌, Bool, true, false, not, ◌||◌, cond, eqb, sym, refl, ap, ◌∙◌, inl, inr, rules}
use Rattle.std.specs.Prelude.{filter}
use Rattle.std.proofs.lemmas.Bool.{eqb-true}
use Rattle.frontier_turn.proofs.Truths.{or_true}
use Rattle.split_frontier.specs.Rule.{is_listed}
use Rattle.split_frontier.specs.Views.{marked}

true_apart : (b : Bool) → b ≡ true → b ≡ false → ⊥
true_apart true e f = absurd (search rules)
true_apart false e f = absurd (search rules)

or_so : (b : Bool) → (b || true) ≡ true
or_so true = refl
or_so false = refl

-- a shard other than this one is listed as before, and this one where it is empty
filtered : (shard : ℕ) (shards : List ℕ) (t : ℕ) → is_listed (filter (λ other. not (eqb other shard)) shards) t ≡ true → (t ≢ shard) × (is_listed shards t ≡ true)
filtered shard [] t e = absurd (search rules)
filtered shard (x ∷ xs) t e = go (eqb x shard) refl e (filtered shard xs t) where
  go : (b : Bool) → eqb x shard ≡ b → is_listed (cond (not (eqb x shard)) (x ∷ filter (λ other. not (eqb other shard)) xs) (filter (λ other. not (eqb other shard)) xs)) t ≡ true
      → (is_listed (filter (λ other. not (eqb other shard)) xs) t ≡ true → (t ≢ shard) × (is_listed xs t ≡ true)) → (t ≢ shard) × ((eqb x t || is_listed xs t) ≡ true)
  go true is e more = let m = more (rw is at e) in (m.0, rw m.1 (or_so (eqb x t)))
  go false is e more = elim (or_true (eqb x t) (is_listed (filter (λ other. not (eqb other shard)) xs) t) (rw is at e)) [
    | inl same ↦ ((λ z. true_apart (eqb x shard) (ap (λ (k : ℕ). eqb x k) (sym z) ∙ same) is), rw same refl)
    | inr rest ↦ let m = more rest in (m.0, rw m.1 (or_so (eqb x t)))
  ]

pub marked_listed : (shard : ℕ) (empty : Bool) (shards : List ℕ) (t : ℕ) → is_listed (marked shard empty shards) t ≡ true → ((t ≡ shard) × (empty ≡ true)) ⊎ ((t ≢ shard) × (is_listed shards t ≡ true))
marked_listed shard true shards t e = elim (or_true (eqb shard t) (is_listed (filter (λ other. not (eqb other shard)) shards) t) e) [
  | inl same ↦ inl (sym (eqb-true shard t same), refl)
  | inr rest ↦ inr (filtered shard shards t rest)
]
marked_listed shard false shards t e = inr (filtered shard shards t e)
