-- Some and all items of a list, where one more stands behind them.
use Rattle.std.proofs.Common.{◌≡◌, ◌<◌, ◌⊎◌, List, [], ◌∷◌, ◌++◌, length, length-append, take, get_or, All, arith, sym, subst, inl, inr, ⊎_elim, refl}
use Rattle.std.specs.List.{Any, Contains}
use Rattle.std.specs.List.Sorted.{IsPermutation}
use Rattle.std.proofs.lemmas.List.{get_or_append_left}
use Rattle.std.proofs.lemmas.List.Elements.{All-contains, Contains-append_left, Contains-push, Contains-push_cases}
use Rattle.std.proofs.lemmas.List.Sorted.{Contains-permutation}

module _ {X : Type 0} where
  pub one_first : (xs : List X) (d : X) → 0 < length xs → take 1 xs ≡ get_or xs 0 d ∷ []
  one_first [] d some = absurd (omega (arith, some))
  one_first (x ∷ xs) d some = refl

module _ {X : Type 0} (P : X → Type 0) where
  pub all_left : (xs ys : List X) → All P (xs ++ ys) → All P xs
  all_left xs ys all k d low = subst P (get_or_append_left xs ys d k low) (all k d (omega (arith, low, length-append xs ys)))

  pub all_last : (xs : List X) (y : X) → All P (xs ++ y ∷ []) → P y
  all_last xs y all = All-contains P (xs ++ y ∷ []) y all (Contains-push xs y)

  pub any_left : (xs ys : List X) → Any P xs → Any P (xs ++ ys)
  any_left xs ys some =
      let is : Contains (xs ++ ys) some.1 = Contains-append_left xs ys some.1 (some.0, some.2, some.3) in
      (is.0, some.1, is.1, is.2, some.4)

  pub any_cases : (xs : List X) (y : X) → Any P (xs ++ y ∷ []) → Any P xs ⊎ P y
  any_cases xs y some =
      ⊎_elim
      (λ is. inl (is.0, some.1, is.1, is.2, some.4))
      (λ last. inr (subst P (sym last) some.4))
      (Contains-push_cases xs y some.1 (some.0, some.2, some.3))

  pub any_moved : (xs ys : List X) → IsPermutation xs ys → Any P xs → Any P ys
  any_moved xs ys moved some =
      let is : Contains ys some.1 = Contains-permutation xs ys some.1 moved (some.0, some.2, some.3) in
      (is.0, some.1, is.1, is.2, some.4)

  -- what holds of all holds of that one
  pub all_at : (Q : X → Type 0) (xs : List X) → All P xs → (some : Any Q xs) → P some.1
  all_at Q xs all some = All-contains P xs some.1 all (some.0, some.2, some.3)
