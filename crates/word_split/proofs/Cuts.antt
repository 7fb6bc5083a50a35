-- What a threshold leaves on either side of rising gaps.
use Rattle.std.proofs.Common.{◌≡◌, ℕ, ◌+◌, ◌-◌, ◌<◌, ◌≤◌, Bool, true, false, List, [], ◌∷◌, ◌++◌, length, take, drop, get_or, sum, filter, nat_le, nat_lt, Contains, All, arith, refl, ap, sym, ◌∙◌, subst, append-nil, ⊎_elim}
use Rattle.std.specs.List.Sorted.{IsNonDecreasing}
use Rattle.std.proofs.lemmas.Bool.{le-leb, lt-leb, lt-ltb, le-ltb, cases_lt}
use Rattle.std.proofs.lemmas.List.{take-append-drop, length-take-le, length-drop, get_or-take, get_or-drop, get_or_default}
use Rattle.std.proofs.lemmas.List.Elements.{filter-append, All-head, All-tail, Contains-get_or}
use Rattle.std.proofs.lemmas.List.Sums.{length-filter, sum_by-take-drop}
use Rattle.word_split.specs.Thresholds.{narrow_count, narrow_sum, wide_count, wide_sum, IsCandidate}
use Rattle.word_split.specs.Partings.{IsCut}

abbrev Passes : (ℕ → Bool) → ℕ → Type 0
Passes p x = p x ≡ true

abbrev Fails : (ℕ → Bool) → ℕ → Type 0
Fails p x = p x ≡ false

filter_all : (p : ℕ → Bool) (xs : List ℕ) → All (Passes p) xs → filter p xs ≡ xs
filter_all p [] all = refl
filter_all p (x ∷ xs) all =
    rw (All-head (Passes p) x xs all, filter_all p xs (All-tail (Passes p) x xs all)) refl

filter_none : (p : ℕ → Bool) (xs : List ℕ) → All (Fails p) xs → filter p xs ≡ []
filter_none p [] none = refl
filter_none p (x ∷ xs) none =
    rw (All-head (Fails p) x xs none) (filter_none p xs (All-tail (Fails p) x xs none))

filter_parts : (p : ℕ → Bool) (xs : List ℕ) (count : ℕ) → filter p xs ≡ filter p (take count xs) ++ filter p (drop count xs)
filter_parts p xs count = ap (filter p) (sym (take-append-drop count xs)) ∙ filter-append p (take count xs) (drop count xs)

filter_front : (p : ℕ → Bool) (xs : List ℕ) (count : ℕ) → All (Passes p) (take count xs) → All (Fails p) (drop count xs) → filter p xs ≡ take count xs
filter_front p xs count all none =
    filter_parts p xs count ∙ rw (filter_all p (take count xs) all, filter_none p (drop count xs) none, append-nil) refl

filter_back : (p : ℕ → Bool) (xs : List ℕ) (count : ℕ) → All (Fails p) (take count xs) → All (Passes p) (drop count xs) → filter p xs ≡ drop count xs
filter_back p xs count none all =
    filter_parts p xs count ∙ rw (filter_none p (take count xs) none, filter_all p (drop count xs) all) refl

-- what a cut leaves on either side
pub record AreParts (rising : List ℕ) (count t : ℕ) : Type 0 where
  pub narrow : narrow_count rising t ≡ count
  pub narrow_in_all : narrow_sum rising t ≡ sum (take count rising)
  pub wide : wide_count rising t ≡ length rising - count
  pub wide_in_all : wide_sum rising t + sum (take count rising) ≡ sum rising

module _ (rising : List ℕ) (rises : IsNonDecreasing rising) (count t : ℕ) (at : t ≡ get_or rising (count - 1) 0) (cut : IsCut rising count) where
  before : All (λ gap. gap ≤ t) (take count rising)
  before k d low =
      let short : length (take count rising) ≡ count = length-take-le count rising (omega (arith, cut.low)) in
      let is : get_or (take count rising) k d ≡ get_or rising k d = get_or-take count rising k d (omega (arith, low, short)) in
      let same : get_or rising k d ≡ get_or rising k 0 = get_or_default rising k d 0 (omega (arith, low, short, cut.low)) in
      let below : get_or rising k 0 ≤ get_or rising (count - 1) 0 = rises k (count - 1) 0 (omega (arith, low, short)) (omega (arith, cut.low)) in
      omega (arith, is, same, below, at)

  behind : All (λ gap. t < gap) (drop count rising)
  behind k d low =
      let rest : count + k < length rising = omega (arith, low, length-drop count rising) in
      let is : get_or (drop count rising) k d ≡ get_or rising (count + k) d = get_or-drop count rising k d in
      let same : get_or rising (count + k) d ≡ get_or rising (count + k) 0 = get_or_default rising (count + k) d 0 rest in
      let above : get_or rising count 0 ≤ get_or rising (count + k) 0 = rises count (count + k) 0 (omega arith) rest in
      omega (arith, is, same, above, at, cut.rises)

  narrow_ones : filter (λ gap. nat_le gap t) rising ≡ take count rising
  narrow_ones =
      filter_front (λ gap. nat_le gap t) rising count
      (λ k d low. le-leb (get_or (take count rising) k d) t (before k d low))
      (λ k d low. lt-leb (get_or (drop count rising) k d) t (behind k d low))

  wide_ones : filter (λ gap. nat_lt t gap) rising ≡ drop count rising
  wide_ones =
      filter_back (λ gap. nat_lt t gap) rising count
      (λ k d low. le-ltb t (get_or (take count rising) k d) (before k d low))
      (λ k d low. lt-ltb t (get_or (drop count rising) k d) (behind k d low))

  pub parts : AreParts rising count t
  parts = record {
    narrow = sym (length-filter (λ (gap : ℕ). nat_le gap t) rising) ∙ ap (λ (xs : List ℕ). length xs) narrow_ones ∙ length-take-le count rising (omega (arith, cut.low));
    narrow_in_all = ap (λ (xs : List ℕ). sum xs) narrow_ones;
    wide = sym (length-filter (λ (gap : ℕ). nat_lt t gap) rising) ∙ ap (λ (xs : List ℕ). length xs) wide_ones ∙ length-drop count rising;
    wide_in_all =
        let rest : wide_sum rising t ≡ sum (drop count rising) = ap (λ (xs : List ℕ). sum xs) wide_ones in
        omega (arith, rest, sum_by-take-drop (λ (gap : ℕ). gap) rising count);
  }

  pub cut_candidate : IsCandidate rising t
  cut_candidate = record {
    is_gap = subst (λ (gap : ℕ). Contains rising gap) (sym at) (Contains-get_or rising (count - 1) 0 (omega (arith, cut.low)));
    narrow = omega (arith, parts.narrow, cut.some);
    wide = omega (arith, parts.wide, cut.low);
  }

module _ (rising : List ℕ) (rises : IsNonDecreasing rising) where
  -- between two neighbours is no gap
  pub no_gap_between : (u count : ℕ) → count < length rising → 0 < count → Contains rising u → u < get_or rising count 0 → u ≤ get_or rising (count - 1) 0
  no_gap_between u count low some is less =
      let k = is.0 in
      let same : get_or rising k u ≡ get_or rising k 0 = get_or_default rising k u 0 is.1 in
      ⊎_elim
      (λ before. omega (arith, same, is.2, rises k (count - 1) 0 (omega (arith, before)) (omega (arith, low))))
      (λ behind. absurd (omega (arith, same, is.2, rises count k 0 behind is.1, less)))
      (cases_lt k count)

  -- no gap is less than the first
  pub none_before_first : (u : ℕ) → Contains rising u → get_or rising 0 0 ≤ u
  none_before_first u is =
      let same : get_or rising is.0 u ≡ get_or rising is.0 0 = get_or_default rising is.0 u 0 is.1 in
      omega (arith, same, is.2, rises 0 is.0 0 (omega arith) is.1)

  -- a gap that another one is wider than is less than the last
  pub candidate_below : (u : ℕ) → IsCandidate rising u → u < get_or rising (length rising - 1) 0
  candidate_below u is = ⊎_elim
      (λ less. less)
      (λ least.
      let none : filter (λ gap. nat_lt u gap) rising ≡ [] = filter_none (λ gap. nat_lt u gap) rising
      (λ k d low.
      let same : get_or rising k d ≡ get_or rising k 0 = get_or_default rising k d 0 low in
      le-ltb u (get_or rising k d) (omega (arith, same, rises k (length rising - 1) 0 (omega (arith, low)) (omega (arith, low)), least))) in
      let zero : wide_count rising u ≡ 0 = sym (length-filter (λ (gap : ℕ). nat_lt u gap) rising) ∙ ap (λ (xs : List ℕ). length xs) none in
      absurd (omega (arith, zero, is.wide)))
      (cases_lt u (get_or rising (length rising - 1) 0))
