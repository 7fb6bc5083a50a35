-- What holds of the images of the items of a list, and what holds of the items.
use Rattle.std.proofs.Common.{List, [], ◌∷◌, map, All, Any, zero, suc, arith, sym, subst, refl}
use Rattle.std.proofs.lemmas.List.Elements.{All-nil, All-cons, All-head, All-tail}

module _ {A B : Type 0} (f : A → B) (P : B → Type 0) where
  pub All-of_map : (xs : List A) → All P (map f xs) → All (λ x. P (f x)) xs
  All-of_map [] all = All-nil (λ x. P (f x))
  All-of_map (x ∷ xs) all = All-cons (λ y. P (f y)) x xs (All-head P (f x) (map f xs) all) (All-of_map xs (All-tail P (f x) (map f xs) all))

  pub Any-of_map : (xs : List A) → Any P (map f xs) → Any (λ x. P (f x)) xs
  Any-of_map [] (k, y, within, at, holds) = absurd (omega arith)
  Any-of_map (x ∷ xs) (zero, y, within, at, holds) = (0, x, omega arith, refl, subst P (sym at) holds)
  Any-of_map (x ∷ xs) (suc k, y, within, at, holds) =
      let rest = Any-of_map xs (k, y, omega arith, at, holds) in
      (suc rest.0, rest.1, omega (arith, rest.2), rest.3, rest.4)
