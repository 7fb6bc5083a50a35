-- Stretches of a list that have all the items that pass a test.
use Rattle.std.proofs.Common.{◌≡◌, ℕ, zero, suc, ◌+◌, ◌-◌, ◌<◌, ◌≤◌, Bool, false, List, [], ◌∷◌, ◌++◌, length, get_or, take, drop, arith, refl, sym, ◌∙◌, ap, ⊎_elim, below_more, append-nil}
use Rattle.std.specs.List.{filter}
use Rattle.std.proofs.lemmas.Bool.{cases_lt}
use Rattle.std.proofs.lemmas.List.{take-append-drop, drop-drop, drop-take, get_or-take, get_or-drop, length-take, length-drop}
use Rattle.std.proofs.lemmas.List.Elements.{filter-append}

take_less : (a b : ℕ) (xs : List ℕ) → a ≤ b → take a (take b xs) ≡ take a xs
take_less zero b xs less = refl
take_less (suc a) zero xs less = absurd (omega arith)
take_less (suc a) (suc b) [] less = refl
take_less (suc a) (suc b) (x ∷ xs) less = ap (λ (ys : List ℕ). x ∷ ys) (take_less a b xs (omega arith))

-- a stretch of a stretch
pub stretch_twice : (xs : List ℕ) (from many first end : ℕ) → first ≤ end → end ≤ many → take (from + end - (from + first)) (drop (from + first) xs) ≡ take (end - first) (drop first (take many (drop from xs)))
stretch_twice xs from many first end ordered short =
    let ys : List ℕ = drop from xs in
    let a : from + end - (from + first) ≡ end - first = omega arith in
    let b : first + (many - first) ≡ many = omega (arith, ordered, short) in
    let c : drop first (take many ys) ≡ take (many - first) (drop first ys) = ap (λ (n : ℕ). drop first (take n ys)) (sym b) ∙ drop-take first (many - first) ys in
    ap (λ (n : ℕ). take n (drop (from + first) xs)) a
    ∙ ap (λ (zs : List ℕ). take (end - first) zs) (sym (drop-drop first from xs))
    ∙ sym (ap (λ (zs : List ℕ). take (end - first) zs) c ∙ take_less (end - first) (many - first) (drop first ys) (omega (arith, ordered, short)))

module _ (p : ℕ → Bool) where
  none_left : (xs : List ℕ) → ((k : ℕ) → k < length xs → p (get_or xs k 0) ≡ false) → filter p xs ≡ []
  none_left [] none = refl
  none_left (x ∷ xs) none =
      let here : p x ≡ false = none 0 (omega arith) in
      let others : filter p xs ≡ [] = none_left xs (λ k within. none (suc k) (omega arith)) in
      rw (here, others) refl

  -- of the first items none passes outside of the stretch
  pub record HasPassing (xs : List ℕ) (i from to : ℕ) : Type 0 where
    pub ordered : from ≤ to
    pub inside : to ≤ length xs
    pub reached : to ≤ i
    pub before : (k : ℕ) → k < from → p (get_or xs k 0) ≡ false
    pub after : (k : ℕ) → to ≤ k → k < i → p (get_or xs k 0) ≡ false

  pub passing_none : (xs : List ℕ) → HasPassing xs 0 0 0
  passing_none xs = record { ordered = omega arith; inside = omega arith; reached = omega arith; before = λ k below. absurd (omega arith); after = λ k above below. absurd (omega arith) }

  pub passing_more : (xs : List ℕ) (i from to from' to' : ℕ) → HasPassing xs i from to → i < length xs → (to ≡ 0 → from' ≡ i) → (0 < to → from' ≡ from) → to' ≡ i + 1 → HasPassing xs (i + 1) from' to'
  passing_more xs i from to from' to' so_far within first same end = ⊎_elim
      (λ some. record {
        ordered = omega (arith, same some, so_far.ordered, so_far.reached, end);
        inside = omega (arith, end, within);
        reached = omega (arith, end);
        before = λ k below. so_far.before k (omega (arith, same some, below));
        after = λ k above below. absurd (omega (arith, end, above, below));
      })
      (λ none. let empty : to ≡ 0 = omega arith in record {
        ordered = omega (arith, first empty, end);
        inside = omega (arith, end, within);
        reached = omega (arith, end);
        before = λ k below. so_far.after k (omega (arith, empty)) (omega (arith, first empty, below));
        after = λ k above below. absurd (omega (arith, end, above, below));
      })
      (cases_lt 0 to)

  pub passing_skip : (xs : List ℕ) (i from to : ℕ) → HasPassing xs i from to → p (get_or xs i 0) ≡ false → HasPassing xs (i + 1) from to
  passing_skip xs i from to so_far fails = record {
    ordered = so_far.ordered;
    inside = so_far.inside;
    reached = omega (arith, so_far.reached);
    before = so_far.before;
    after = λ k above below. below_more (λ (k : ℕ). to ≤ k → p (get_or xs k 0) ≡ false) i (λ k less over. so_far.after k over less) (λ over. fails) k below above;
  }

  pub passing_all : (xs : List ℕ) (i from to : ℕ) → HasPassing xs i from to → length xs ≤ i → filter p (take (to - from) (drop from xs)) ≡ filter p xs
  passing_all xs i from to so_far all =
      let n : ℕ = to - from in
      let ys : List ℕ = drop from xs in
      let front : filter p (take from xs) ≡ [] = none_left (take from xs) (λ k within.
      let below : k < from = omega (arith, within, length-take from xs) in
      ap p (get_or-take from xs k 0 below) ∙ so_far.before k below) in
      let back : filter p (drop n ys) ≡ [] = none_left (drop n ys) (λ k within.
      let long : length (drop n ys) ≡ length xs - from - n = omega (arith, length-drop n ys, length-drop from xs) in
      ap p (get_or-drop n ys k 0 ∙ get_or-drop from xs (n + k) 0) ∙ so_far.after (from + (n + k)) (omega (arith, so_far.ordered)) (omega (arith, within, long, all, so_far.ordered))) in
      let second : filter p ys ≡ filter p (take n ys) = ap (filter p) (sym (take-append-drop n ys)) ∙ filter-append p (take n ys) (drop n ys) ∙ ap (λ (zs : List ℕ). filter p (take n ys) ++ zs) back ∙ append-nil (filter p (take n ys)) in
      let whole : filter p xs ≡ filter p ys = ap (filter p) (sym (take-append-drop from xs)) ∙ filter-append p (take from xs) ys ∙ ap (λ (zs : List ℕ). zs ++ filter p ys) front in
      sym (whole ∙ second)
