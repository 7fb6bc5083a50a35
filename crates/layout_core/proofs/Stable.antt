-- A list has one stable sort, and numbers have one rising rearrangement.
use Rattle.std.proofs.Common.{◌≡◌, ℕ, ◌+◌, ◌≤◌, Bool, true, false, cond, List, [], ◌∷◌, get_or, ltb, replicate, suc, arith, refl, sym, ◌∙◌, ap, subst}
use Rattle.std.specs.List.{filter, sum_by}
use Rattle.std.specs.Cmp.{IsStrictWeakOrder}
use Rattle.std.specs.List.Sorted.{IsSortedBy, IsStableBy, IsPermutation, IsNonDecreasing, ties}
use Rattle.std.proofs.lemmas.List.Sums.{sum_by-cons}
use Rattle.std.proofs.lemmas.List.Sorted.{sum_by-IsPermutation}
use Rattle.std.proofs.lemmas.List.MinMax.{IsStrictWeakOrder-by_number}
use Rattle.std.proofs.lemmas.Bool.Decides.{nat_tests}
use Rattle.std.proofs.lemmas.Grind.{get_or_tail}

not_cons : {X : Type 0} (x : X) (xs : List X) → (x ∷ xs) ≡ [] → ⊥
not_cons x xs e = cc

cons_same : {X : Type 0} (x y : X) (xs ys : List X) → (x ∷ xs) ≡ (y ∷ ys) → (x ≡ y) × (xs ≡ ys)
cons_same x y xs ys e = (cc, cc)

first_in : {X : Type 0} (p : X → Bool) (x : X) (xs : List X) → p x ≡ true → filter p (x ∷ xs) ≡ x ∷ filter p xs
first_in p x xs is = rw is refl

module _ {X : Type 0} (lt : X → X → Bool) (order : IsStrictWeakOrder lt) where
  -- each of the elements is no less than a bound
  abbrev pub AllAbove : X → List X → Type 0
  AllAbove low [] = Unit {0}
  AllAbove low (x ∷ xs) = (lt x low ≡ false) × AllAbove low xs

  irreflexive : (x : X) (b : Bool) → lt x x ≡ b → lt x x ≡ false
  irreflexive x true is = order.one_way x x is
  irreflexive x false is = is

  pub sorted_tail : (x : X) (xs : List X) → IsSortedBy lt (x ∷ xs) → IsSortedBy lt xs
  sorted_tail x xs s = λ k d low within.
      let h = s (k + 1) d (omega arith) (omega (arith, within)) in
      let first : get_or (x ∷ xs) (k + 1 + 1) d ≡ get_or xs (k + 1) d = get_or_tail x xs (k + 1 + 1) d (omega arith) ∙ ap (λ (i : ℕ). get_or xs i d) (omega arith) in
      let second : get_or (x ∷ xs) (k + 1) d ≡ get_or xs k d = get_or_tail x xs (k + 1) d (omega arith) ∙ ap (λ (i : ℕ). get_or xs i d) (omega arith) in
      rw (first, second) at h

  -- of a list that is sorted, all are no less than what is no more than its first
  pub all_above : (low x : X) (xs : List X) → lt x low ≡ false → IsSortedBy lt (x ∷ xs) → AllAbove low (x ∷ xs)
  all_above low x [] first s = (first, tt)
  all_above low x (y ∷ ys) first s =
      let next : lt y x ≡ false = s 0 x (omega arith) (omega arith) in
      (first, all_above low y ys (order.chain y x low next first) (sorted_tail x (y ∷ ys) s))

  -- none of what is above a bound ties with what is below it
  less_all : (y w z : X) (b : Bool) → lt y w ≡ b → lt y z ≡ true → lt w z ≡ false → lt y w ≡ true
  less_all y w z true is less above = is
  less_all y w z false is less above = absurd (let no : lt y z ≡ false = order.chain y w z is above in cc)

  no_tie : (y w : X) → lt y w ≡ true → ties lt y w ≡ false
  no_tie y w less = rw less refl

  first_out : (p : X → Bool) (x : X) (xs : List X) → p x ≡ false → filter p xs ≡ [] → filter p (x ∷ xs) ≡ []
  first_out p x xs is none = rw is none

  none_tie : (y z : X) (zs : List X) → lt y z ≡ true → AllAbove z zs → filter (ties lt y) zs ≡ []
  none_tie y z [] less above = refl
  none_tie y z (w ∷ ws) less above =
      first_out (ties lt y) w ws (no_tie y w (less_all y w z (lt y w) refl less above.0)) (none_tie y z ws less above.1)

  ties_itself : (x : X) → ties lt x x ≡ true
  ties_itself x = rw (irreflexive x (lt x x) refl) refl

  -- what ties with the first of one list is in the other, so the other's first is not above it
  not_above : (y z : X) (ys zs : List X) → IsSortedBy lt (z ∷ zs) → filter (ties lt y) (y ∷ ys) ≡ filter (ties lt y) (z ∷ zs) → lt y z ≡ true → ⊥
  not_above y z ys zs s same less =
      not_cons y (filter (ties lt y) ys)
      (sym (first_in (ties lt y) y ys (ties_itself y)) ∙ same ∙ none_tie y z (z ∷ zs) less (all_above z z zs (irreflexive z (lt z z) refl) s))

  tied : (y z : X) (b c : Bool) → lt y z ≡ b → lt z y ≡ c → (lt y z ≡ true → ⊥) → (lt z y ≡ true → ⊥) → ties lt y z ≡ true
  tied y z true c is back no_less no_more = absurd (no_less is)
  tied y z false true is back no_less no_more = absurd (no_more back)
  tied y z false false is back no_less no_more = rw (is, back) refl

  rest_of : (p : X → Bool) (x : X) (ys zs : List X) (b : Bool) → p x ≡ b → filter p (x ∷ ys) ≡ filter p (x ∷ zs) → filter p ys ≡ filter p zs
  rest_of p x ys zs true is same = (cons_same x x (filter p ys) (filter p zs) (sym (first_in p x ys is) ∙ same ∙ first_in p x zs is)).1
  rest_of p x ys zs false is same = rw is at same

  -- two sorted lists with the same elements that tie with each, in one order, are the same
  pub one_list : (ys zs : List X) → IsSortedBy lt ys → IsSortedBy lt zs → ((x : X) → filter (ties lt x) ys ≡ filter (ties lt x) zs) → ys ≡ zs
  one_list [] [] s t same = refl
  one_list [] (z ∷ zs) s t same = absurd (not_cons z (filter (ties lt z) zs) (sym (first_in (ties lt z) z zs (ties_itself z)) ∙ sym (same z)))
  one_list (y ∷ ys) [] s t same = absurd (not_cons y (filter (ties lt y) ys) (sym (first_in (ties lt y) y ys (ties_itself y)) ∙ same y))
  one_list (y ∷ ys) (z ∷ zs) s t same =
      let tie : ties lt y z ≡ true = tied y z (lt y z) (lt z y) refl refl (not_above y z ys zs t (same y)) (not_above z y zs ys s (sym (same z))) in
      let first : y ≡ z = (cons_same y z (filter (ties lt y) ys) (filter (ties lt y) zs) (sym (first_in (ties lt y) y ys (ties_itself y)) ∙ same y ∙ first_in (ties lt y) z zs tie)).0 in
      let Same : X → Type 0 = λ w. (x : X) → filter (ties lt x) (y ∷ ys) ≡ filter (ties lt x) (w ∷ zs) in
      let here : Same y = subst Same (sym first) same in
      let others : ys ≡ zs = one_list ys zs (sorted_tail y ys s) (sorted_tail z zs t) (λ x. rest_of (ties lt x) y ys zs (ties lt x y) refl (here x)) in
      cc (first, others)

  -- a list has one stable sort
  pub one_stable_sort : (xs ys zs : List X) → IsSortedBy lt ys → IsStableBy lt xs ys → IsSortedBy lt zs → IsStableBy lt xs zs → ys ≡ zs
  one_stable_sort xs ys zs s stable t stable_too = one_list ys zs s t (λ x. stable x ∙ sym (stable_too x))

-- ---- numbers

one_if : Bool → ℕ
one_if b = cond b 1 0

only_more : (p : ℕ → Bool) (x y : ℕ) (ys : List ℕ) (n : ℕ) (b : Bool) → p y ≡ b → (b ≡ true → y ≡ x) → filter p ys ≡ replicate n x → filter p (y ∷ ys) ≡ replicate (one_if b + n) x
unfolding one_if
only_more p x y ys n true is same rest =
    first_in p y ys is ∙ ap (λ (zs : List ℕ). y ∷ zs) rest ∙ ap (λ (z : ℕ). z ∷ replicate n x) (same refl) ∙ ap (λ (k : ℕ). replicate k x) (let e : suc n ≡ 1 + n = omega arith in e)
only_more p x y ys n false is same rest = rw is (rest ∙ ap (λ (k : ℕ). replicate k x) (omega arith))

tied_numbers : (x y : ℕ) → ties (λ (m n : ℕ). ltb m n) x y ≡ true → y ≡ x
tied_numbers x y is = grind (arith, nat_tests)

-- of the elements that tie with a number there are copies of it alone
copies : (x : ℕ) (ys : List ℕ) → filter (ties (λ (m n : ℕ). ltb m n) x) ys ≡ replicate (sum_by (λ y. one_if (ties (λ (m n : ℕ). ltb m n) x y)) ys) x
copies x [] = refl
copies x (y ∷ ys) =
    let p : ℕ → Bool = ties (λ (m n : ℕ). ltb m n) x in
    only_more p x y ys (sum_by (λ z. one_if (p z)) ys) (p y) refl (tied_numbers x y) (copies x ys)
    ∙ ap (λ (k : ℕ). replicate k x) (sym (sum_by-cons (λ z. one_if (p z)) y ys))

rises : (xs : List ℕ) → IsNonDecreasing xs → IsSortedBy (λ (m n : ℕ). ltb m n) xs
rises xs up = λ k d low within. not_less (get_or xs (k + 1) d) (get_or xs k d) (up k (k + 1) d (omega arith) within)
  where
    not_less : (a b : ℕ) → b ≤ a → ltb a b ≡ false
    not_less a b more = grind (arith, nat_tests)

-- numbers have one rising rearrangement
pub one_rising : (xs ys zs : List ℕ) → IsPermutation xs ys → IsNonDecreasing ys → IsPermutation xs zs → IsNonDecreasing zs → ys ≡ zs
one_rising xs ys zs moved up moved_too up_too =
    one_list (λ (m n : ℕ). ltb m n) (IsStrictWeakOrder-by_number (λ (m : ℕ). m)) ys zs (rises ys up) (rises zs up_too)
    (λ x. let count : ℕ → ℕ = λ y. one_if (ties (λ (m n : ℕ). ltb m n) x y) in
    copies x ys ∙ ap (λ (k : ℕ). replicate k x) (sum_by-IsPermutation count xs ys moved ∙ sym (sum_by-IsPermutation count xs zs moved_too)) ∙ sym (copies x zs))
