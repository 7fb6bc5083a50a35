-- Totals over lists, and entries told apart by their numbers.
use Rattle.std.proofs.Common.{◌≡◌, ℕ, zero, suc, ◌+◌, ◌<◌, ◌≤◌, ◌≢◌, List, [], ◌∷◌, ◌++◌, Bool, true, false, cond, not, ◌&&◌, ◌||◌, eqb, length, set, sym, refl, ap, ◌∙◌, arith, subst, ne_eqb}
use Rattle.std.specs.Prelude.{All, filter, IsPermutation, sum_by, remove}
use Rattle.std.proofs.lemmas.List.Sorted.{sum_by-IsPermutation, IsPermutation-refl, IsPermutation-sym, IsPermutation-trans, IsPermutation-cons, IsPermutation-remove}
use Rattle.std.proofs.lemmas.List.Elements.{All-contains}
use Rattle.std.proofs.lemmas.List.Sums.{sum_by-cons}
use mathlib.Core.Option.{some, some-injective, some-ne-none}
use mathlib.Core.Logic.{dite}
use native.Mathlib.Decide.{ℕ_discrete}
use Rattle.std.proofs.Math.IntN.{ℤ_discrete}
use lib.ListN.{get_elem?}
use Rattle.frontier_turn.proofs.Items.{IsItem, Contains-item}
use Rattle.box_search.specs.declared.space.Shape.{Shape}
use Rattle.box_search.specs.declared.lease.Entry.{Entry}
use Rattle.frontier_turn.specs.Bags.{total, one_if, IsSameBag}
use Rattle.frontier_turn.specs.Snapshots.{numbered, is_numbered, NumbersDiffer}

module _ {A : Type 0} where
  pub total_set : (f : A → ℕ) (xs : List A) (i : ℕ) (v w : A) → get_elem? xs i ≡ some v → total f (set xs i w) + f v ≡ total f xs + f w
  total_set f [] i v w e = absurd (some-ne-none v (sym e))
  total_set f (x ∷ xs) zero v w e = let s : f x ≡ f v = ap f (some-injective x v e) in omega arith
  total_set f (x ∷ xs) (suc i) v w e = omega (arith, total_set f xs i v w e)

  pub total_same : (f : A → ℕ) (xs : List A) (i : ℕ) (v w : A) → get_elem? xs i ≡ some v → f w ≡ f v → total f (set xs i w) ≡ total f xs
  total_same f xs i v w e s = omega (arith, total_set f xs i v w e)

  -- two items are replaced, one after the other
  pub total_joined : (f : A → ℕ) (xs : List A) (i : ℕ) (v v' : A) (j : ℕ) (w w' : A) → get_elem? xs i ≡ some v → get_elem? (set xs i v') j ≡ some w → total f (set (set xs i v') j w') + f v + f w ≡ total f xs + f v' + f w'
  total_joined f xs i v v' j w w' e e' = omega (arith, total_set f xs i v v' e, total_set f (set xs i v') j w w' e')

  pub total_snoc : (f : A → ℕ) (xs : List A) (x : A) → total f (xs ++ x ∷ []) ≡ total f xs + f x
  total_snoc f [] x = omega arith
  total_snoc f (y ∷ xs) x = omega (arith, total_snoc f xs x)

  pub total_part : (f : A → ℕ) (xs : List A) (i : ℕ) (v : A) → get_elem? xs i ≡ some v → f v ≤ total f xs
  total_part f [] i v e = absurd (some-ne-none v (sym e))
  total_part f (x ∷ xs) zero v e = let s : f x ≡ f v = ap f (some-injective x v e) in omega arith
  total_part f (x ∷ xs) (suc i) v e = omega (arith, total_part f xs i v e)

  -- where f and g agree on the items, so do their totals
  pub total_alike : (f g : A → ℕ) (xs : List A) → ((x : A) → IsItem xs x → f x ≡ g x) → total f xs ≡ total g xs
  total_alike f g [] same = refl
  total_alike f g (x ∷ xs) same = omega (arith, same x (0, refl), total_alike f g xs (λ y at. same y (suc at.0, at.1)))

  pub total_none : (f : A → ℕ) (xs : List A) → ((x : A) → IsItem xs x → f x ≡ 0) → total f xs ≡ 0
  total_none f [] none = refl
  total_none f (x ∷ xs) none = omega (arith, none x (0, refl), total_none f xs (λ y at. none y (suc at.0, at.1)))

  pub total_ones : (xs : List A) → total (λ _. 1) xs ≡ length xs
  total_ones [] = refl
  total_ones (x ∷ xs) = omega (arith, total_ones xs)

  pub total_filter : (h : A → ℕ) (t : A → Bool) (xs : List A) → total h (filter t xs) ≡ total (λ x. cond (t x) (h x) 0) xs
  total_filter h t [] = refl
  total_filter h t (x ∷ xs) = chosen (t x) refl (total_filter h t xs) where
    chosen : (b : Bool) → t x ≡ b → total h (filter t xs) ≡ total (λ y. cond (t y) (h y) 0) xs → total h (cond (t x) (x ∷ filter t xs) (filter t xs)) ≡ cond (t x) (h x) 0 + total (λ y. cond (t y) (h y) 0) xs
    chosen true e more = rw e (omega arith)
    chosen false e more = rw e (omega arith)

  -- what passes a test and what fails it
  pub total_parts : (h : A → ℕ) (t : A → Bool) (xs : List A) → total h (filter t xs) + total h (filter (λ x. not (t x)) xs) ≡ total h xs
  total_parts h t [] = refl
  total_parts h t (x ∷ xs) = chosen (t x) refl (total_parts h t xs) where
    chosen : (b : Bool) → t x ≡ b → total h (filter t xs) + total h (filter (λ y. not (t y)) xs) ≡ total h xs
        → total h (cond (t x) (x ∷ filter t xs) (filter t xs)) + total h (cond (not (t x)) (x ∷ filter (λ y. not (t y)) xs) (filter (λ y. not (t y)) xs)) ≡ h x + total h xs
    chosen true e more = rw e (omega arith)
    chosen false e more = rw e (omega arith)

pub numbered_self : (e : Entry) → numbered e.number e ≡ 1
numbered_self e = rw (eqb-same e.number) refl where
  eqb-same : (n : ℕ) → eqb n n ≡ true
  eqb-same n = search Rattle.std.proofs.Common.rules

pub is_numbered_none : (es : List Entry) (x : ℕ) → total (numbered x) es ≡ 0 → is_numbered es x ≡ false
is_numbered_none [] x z = refl
is_numbered_none (e ∷ es) x z = chosen (eqb e.number x) refl z (is_numbered_none es x) where
  chosen : (b : Bool) → eqb e.number x ≡ b → numbered x e + total (numbered x) es ≡ 0 → (total (numbered x) es ≡ 0 → is_numbered es x ≡ false) → (eqb e.number x || is_numbered es x) ≡ false
  chosen true is z more = let one : numbered x e ≡ 1 = ap one_if is in absurd (omega arith)
  chosen false is z more = rw is (more (omega arith))

pub is_numbered_some : (es : List Entry) (x : ℕ) → 0 < total (numbered x) es → is_numbered es x ≡ true
is_numbered_some [] x l = absurd (omega arith)
is_numbered_some (e ∷ es) x l = chosen (eqb e.number x) refl l (is_numbered_some es x) where
  chosen : (b : Bool) → eqb e.number x ≡ b → 0 < numbered x e + total (numbered x) es → (0 < total (numbered x) es → is_numbered es x ≡ true) → (eqb e.number x || is_numbered es x) ≡ true
  chosen true is l more = rw is refl
  chosen false is l more = let none : numbered x e ≡ 0 = ap one_if is in rw is (more (omega arith))

pub item_numbered : (es : List Entry) (e : Entry) → IsItem es e → 0 < total (numbered e.number) es
item_numbered es e at = let here = total_part (numbered e.number) es at.0 e at.1 in let one = numbered_self e in omega arith

-- Of the entries es the pass names ls, and `others` tells what all other passes name. Then those entries that aren't others' are ls
module _ (es ls : List Entry) (differ : NumbersDiffer es) where
  abbrev is_other : Entry → Bool
  is_other e = is_numbered es e.number && not (is_numbered ls e.number)

  mine_stay : (e : Entry) → IsItem ls e → not (is_other e) ≡ true
  mine_stay e at = let here : is_numbered ls e.number ≡ true = is_numbered_some ls e.number (item_numbered ls e at) in rw here (ands (is_numbered es e.number)) where
    ands : (b : Bool) → not (b && false) ≡ true
    ands true = refl
    ands false = refl

  module _ {B : Type 0} (names : B → List Entry) (bs : List B) (all : (h : Entry → ℕ) → total h es ≡ total h ls + total (λ b. total h (names b)) bs) where
    theirs_go : (b : B) → IsItem bs b → (e : Entry) → IsItem (names b) e → not (is_other e) ≡ false
    theirs_go b at e in_b =
        let x = e.number in
        let once = differ x in
        let sums = all (numbered x) in
        let here = item_numbered (names b) e in_b in
        let part = total_part (λ (c : B). total (numbered x) (names c)) bs at.0 b at.1 in
        let no : is_numbered ls x ≡ false = is_numbered_none ls x (omega arith) in
        let is : is_numbered es x ≡ true = is_numbered_some es x (omega arith) in
        rw (no, is) refl

    pub mine_are : IsSameBag (filter (λ e. not (is_other e)) es) ls
    mine_are h =
        let t : Entry → Bool = λ e. not (is_other e) in
        let h' : Entry → ℕ = λ e. cond (t e) (h e) 0 in
        let kept : total h' ls ≡ total h ls = total_alike h' h ls (λ e at. ap (λ (b : Bool). cond b (h e) 0) (mine_stay e at)) in
        let gone : total (λ b. total h' (names b)) bs ≡ 0 = total_none (λ b. total h' (names b)) bs (λ b at. total_none h' (names b) (λ e in_b. ap (λ (c : Bool). cond c (h e) 0) (theirs_go b at e in_b))) in
        let sums = all h' in
        let cut = total_filter h t es in
        omega arith

-- Two bags that are the same have the same items
shape_same : (x y : Shape) → Dec (x ≡ y)
shape_same x y = dite (ℤ_discrete x.a0 y.a0)
    (λ e0. dite (ℤ_discrete x.a1 y.a1)
    (λ e1. dite (ℤ_discrete x.b0 y.b0)
    (λ e2. dite (ℤ_discrete x.b1 y.b1)
    (λ e3. dite (ℤ_discrete x.c0 y.c0)
    (λ e4. dite (ℤ_discrete x.c1 y.c1)
    (λ e5. yes (λ i. record { a0 = e0 i; a1 = e1 i; b0 = e2 i; b1 = e3 i; c0 = e4 i; c1 = e5 i }))
    (λ n. no (λ e. n (ap (λ (s : Shape). s.c1) e))))
    (λ n. no (λ e. n (ap (λ (s : Shape). s.c0) e))))
    (λ n. no (λ e. n (ap (λ (s : Shape). s.b1) e))))
    (λ n. no (λ e. n (ap (λ (s : Shape). s.b0) e))))
    (λ n. no (λ e. n (ap (λ (s : Shape). s.a1) e))))
    (λ n. no (λ e. n (ap (λ (s : Shape). s.a0) e)))

pub entry_same : (x y : Entry) → Dec (x ≡ y)
entry_same x y = dite (ℕ_discrete x.number y.number)
    (λ e0. dite (shape_same x.shape y.shape)
    (λ e1. dite (ℕ_discrete x.bound y.bound)
    (λ e2. yes (λ i. record { number = e0 i; shape = e1 i; bound = e2 i }))
    (λ n. no (λ e. n (ap (λ (s : Entry). s.bound) e))))
    (λ n. no (λ e. n (ap (λ (s : Entry). s.shape) e))))
    (λ n. no (λ e. n (ap (λ (s : Entry). s.number) e)))

abbrev pub same_as : {P : Type 0} → Dec P → ℕ
same_as (yes p) = 1
same_as (no n) = 0

pub counts_self : (e : Entry) (d : Dec (e ≡ e)) → same_as d ≡ 1
counts_self e (yes p) = refl
counts_self e (no n) = absurd (n refl)

pub counted_item : (e : Entry) (xs : List Entry) → 0 < total (λ x. same_as (entry_same e x)) xs → IsItem xs e
counted_item e [] l = absurd (omega arith)
counted_item e (x ∷ xs) l = go (entry_same e x) l (counted_item e xs) where
  go : (d : Dec (e ≡ x)) → 0 < same_as d + total (λ y. same_as (entry_same e y)) xs → (0 < total (λ y. same_as (entry_same e y)) xs → IsItem xs e) → IsItem (x ∷ xs) e
  go (yes p) l more = (0, ap some (sym p))
  go (no n) l more = let at = more (omega arith) in (suc at.0, at.1)

pub bag_item : (xs ys : List Entry) (e : Entry) → IsSameBag xs ys → IsItem ys e → IsItem xs e
bag_item xs ys e same at =
    let h : Entry → ℕ = λ x. same_as (entry_same e x) in
    let here = total_part h ys at.0 e at.1 in
    let one : h e ≡ 1 = counts_self e (entry_same e e) in
    let sum = same h in
    counted_item e xs (omega arith)

pub bag_nil : {A : Type 0} (xs : List A) → IsSameBag xs [] → xs ≡ []
bag_nil [] same = refl
bag_nil (x ∷ xs) same = let sum : 1 + total (λ _. 1) xs ≡ 0 = same (λ _. 1) in absurd (omega arith)

module _ {A : Type 0} where
  total_is_sum : (f : A → ℕ) (xs : List A) → total f xs ≡ sum_by f xs
  total_is_sum f [] = refl
  total_is_sum f (x ∷ xs) = ap (λ (n : ℕ). f x + n) (total_is_sum f xs) ∙ sym (sum_by-cons f x xs)

  pub permuted_total : (f : A → ℕ) (xs ys : List A) → IsPermutation xs ys → total f ys ≡ total f xs
  permuted_total f xs ys same = total_is_sum f ys ∙ (sum_by-IsPermutation f xs ys same ∙ sym (total_is_sum f xs))

-- the same items, each as often, are a permutation
pub permutation_of : (xs ys : List Entry) → IsSameBag xs ys → IsPermutation xs ys
permutation_of [] ys same = subst (IsPermutation []) (sym (bag_nil ys (λ h. sym (same h)))) (IsPermutation-refl [])
permutation_of (x ∷ xs) ys same =
    let (k, within, is) = Contains-item ys x (bag_item ys (x ∷ xs) x (λ h. sym (same h)) (0, refl)) in
    let rest = remove ys k in
    let moved : IsPermutation ys (x ∷ rest) = IsPermutation-remove ys k x within (sym is) in
    let less : IsSameBag xs rest = λ h. let all = same h in let some' = permuted_total h ys (x ∷ rest) moved in omega arith in
    IsPermutation-trans (x ∷ xs) (x ∷ rest) ys (IsPermutation-cons x xs rest (permutation_of xs rest less)) (IsPermutation-sym ys (x ∷ rest) moved)

-- no entry has the number
pub none_numbered : (es : List Entry) (x : ℕ) → All (λ entry. entry.number ≢ x) es → total (numbered x) es ≡ 0
none_numbered es x none = total_none (numbered x) es (λ e at. ap one_if (ne_eqb e.number x (All-contains (λ (entry : Entry). entry.number ≢ x) es e none (Contains-item es e at))))

-- numbers that differ still do with one more entry, whose number was free
pub numbers_more : (e : Entry) (es es' : List Entry) → All (λ entry. entry.number ≢ e.number) es → IsPermutation (e ∷ es) es' → NumbersDiffer es → NumbersDiffer es'
numbers_more e es es' free moved differ x =
    let before = differ x in
    let sum = permuted_total (numbered x) (e ∷ es) es' moved in
    dite (ℕ_discrete e.number x)
    (λ (same : e.number ≡ x).
    let none : total (numbered x) es ≡ 0 = subst (λ (n : ℕ). total (numbered n) es ≡ 0) same (none_numbered es e.number free) in
    let one : numbered x e ≡ 1 = subst (λ (n : ℕ). numbered n e ≡ 1) same (numbered_self e) in
    omega arith)
    (λ apart. let none : numbered x e ≡ 0 = ap one_if (ne_eqb e.number x apart) in omega arith)

-- and with one entry less
pub numbers_fewer : (e : Entry) (es es' : List Entry) → IsPermutation es (e ∷ es') → NumbersDiffer es → NumbersDiffer es'
numbers_fewer e es es' moved differ x = let before = differ x in let sum = permuted_total (numbered x) es (e ∷ es') moved in omega arith
