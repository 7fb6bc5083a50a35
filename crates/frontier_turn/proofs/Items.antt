-- Items of lists by their places, in the words of the table's definitions.
use Rattle.std.proofs.Common.{◌≡◌, ℕ, zero, suc, ◌<◌, ◌≢◌, List, [], ◌∷◌, length, get_or, set, Contains, refl, sym, ap, ◌∙◌, ⊎_elim, subst, arith}
use mathlib.Core.Option.{some, some-injective, some-ne-none}
use lib.ListN.{get_elem?}
use Rattle.atomic_table.proofs.Lists.{at_set}

-- an item by its place
abbrev pub IsItem : {X : Type 0} → List X → X → Type 0
IsItem xs x = (i : ℕ) × (get_elem? xs i ≡ some x)

module _ {X : Type 0} where
  pub here : (xs : List X) (i : ℕ) (d : X) → i < length xs → get_elem? xs i ≡ some (get_or xs i d)
  here [] i d l = absurd (omega arith)
  here (x ∷ xs) zero d l = refl
  here (x ∷ xs) (suc i) d l = here xs i d (omega arith)

  pub within : (xs : List X) (i : ℕ) (x : X) → get_elem? xs i ≡ some x → (i < length xs) × (get_or xs i x ≡ x)
  within [] i x e = absurd (some-ne-none x (sym e))
  within (y ∷ xs) zero x e = (omega arith, some-injective y x e)
  within (y ∷ xs) (suc i) x e = let t = within xs i x e in let l = t.0 in (omega arith, t.1)

  pub Contains-item : (xs : List X) (x : X) → IsItem xs x → Contains xs x
  Contains-item xs x (i, at) = let t = within xs i x at in (i, t.0, t.1)

  pub item_Contains : (xs : List X) (x : X) → Contains xs x → IsItem xs x
  item_Contains xs x (k, inside, at) = (k, here xs k x inside ∙ ap some at)

  -- what holds of the new item and of all others holds of each item
  pub each_set : (P : X → Type 0) (xs : List X) (i : ℕ) (x : X) → P x → ((j : ℕ) (y : X) → j ≢ i → get_elem? xs j ≡ some y → P y) → (j : ℕ) (y : X) → get_elem? (set xs i x) j ≡ some y → P y
  each_set P xs i x mine others j y at = ⊎_elim (λ (t : (j ≡ i) × (x ≡ y)). subst P t.1 mine) (λ (t : (j ≢ i) × (get_elem? xs j ≡ some y)). others j y t.0 t.1) (at_set xs i j x y at)
