-- The least cycle is found step by step.
use Rattle.std.proofs.Common.{◌≡◌, ℕ, ◌+◌, ◌<◌, ◌≤◌, List, [], ◌∷◌, ◌++◌, true, false, length, get_or, eqb, suc, arith, sym, ◌∙◌, ap, subst, ◌⊎◌, inl, inr, ⊎_elim, All}
use Rattle.std.specs.List.{list_any, IsDistinct}
use Rattle.std.specs.Cmp.{nat_eq_equiv}
use Rattle.std.proofs.lemmas.Bool.{or_cases, cases_Bool, cases_lt, eqb-true, false≢true}
use Rattle.std.proofs.lemmas.List.{append-nil, append_assoc, length-append, length_push}
use Rattle.std.proofs.lemmas.List.Elements.{All-head, All-tail, All-cons, All-nil, All-push, All-get_or}
use Rattle.std.proofs.lemmas.List.Folds.{list_any-append}
use Rattle.std.proofs.lemmas.Map.Keys.{IsDistinct-push, IsDistinct-cons, IsDistinct-from_apart}
use Rattle.std.proofs.lemmas.Map.Steps.{length-le_from_distinct_below}
use Rattle.reading_order.specs.Lexical.{IsLexicallyAtMost}
use Rattle.reading_order.specs.Cycles.{Leads, IsCycle, IsLeastCycle, StartAlike}
use Rattle.reading_order.specs.Steps.{AreSteps, AreAtLeast, HasNext, IsLeastNext}
use Rattle.reading_order.proofs.Lexical.{IsLexicallyAtMost-push}
use Rattle.reading_order.proofs.Members.{place_of}

-- the numbers behind the start of a least cycle, as far as the last one, from which the next is `left` steps away
pub record IsTrail (before : ℕ → ℕ → Type 0) (limit start : ℕ) (steps : List ℕ) (whole : ℕ) (path : List ℕ) (last left : ℕ) : Type 0 where
  pub low : last < limit
  pub joins : (rest : List ℕ) → Leads before last rest start → Leads before start (path ++ rest) start
  pub splits : (rest : List ℕ) → Leads before start (path ++ rest) start → Leads before last rest start
  pub closest : AreAtLeast before limit steps last left
  pub has_next : HasNext before limit steps last left
  pub count : length path + left ≡ whole
  pub distinct : IsDistinct eqb (start ∷ path)
  pub apart : (x : ℕ) → list_any (eqb x) (start ∷ path) ≡ true → (get_or steps x 0 ≡ 0) ⊎ (left < get_or steps x 0)
  pub within : All (λ x. x < limit) (start ∷ path)
  pub least : (other : List ℕ) → All (λ x. x < limit) other → Leads before start other start → length other ≡ whole → IsLexicallyAtMost path other

module _ (before : ℕ → ℕ → Type 0) (limit : ℕ) where
  abbrev Below : List ℕ → Type 0
  Below xs = All (λ x. x < limit) xs

  -- a walk to the target is no shorter than the number of steps
  pub walk_bound : (target : ℕ) (steps : List ℕ) → AreSteps before limit target steps → target < limit → (x : ℕ) (xs : List ℕ) → x < limit → Below xs → Leads before x xs target → get_or steps x 0 ≤ length xs + 1
  walk_bound target steps are low x [] here below leads = omega (arith, are.near x target here low leads, are.at_target)
  walk_bound target steps are low x (y ∷ ys) here below leads =
      let y_low : y < limit = All-head (λ z. z < limit) y ys below in
      omega (arith, are.near x y here y_low leads.0, walk_bound target steps are low y ys y_low (All-tail (λ z. z < limit) y ys below) leads.1)

  -- and so a walk from the start back to it
  pub ring_bound : (start : ℕ) (steps : List ℕ) (away : ℕ) → AreSteps before limit start steps → start < limit → AreAtLeast before limit steps start away → (xs : List ℕ) → Below xs → Leads before start xs start → away ≤ length xs
  ring_bound start steps away are low closest [] below leads = omega (arith, closest start low leads, are.at_target)
  ring_bound start steps away are low closest (y ∷ ys) below leads =
      let y_low : y < limit = All-head (λ z. z < limit) y ys below in
      omega (arith, closest y y_low leads.0, walk_bound start steps are low y ys y_low (All-tail (λ z. z < limit) y ys below) leads.1)

  -- a cycle has at most as many members as there are numbers
  pub cycle_count : (cycle : List ℕ) → IsCycle before limit cycle → length cycle ≤ limit
  cycle_count cycle is =
      length-le_from_distinct_below cycle limit is.distinct
      (λ q h.
      let p = place_of q cycle h in
      omega (arith, p.2, All-get_or (λ z. z < limit) cycle p.0 0 p.1 is.within))

  -- where no step from the start leads back, it is on no cycle
  pub no_cycle_from : (start : ℕ) (steps : List ℕ) → AreSteps before limit start steps → start < limit → AreAtLeast before limit steps start limit → (cycle : List ℕ) → IsCycle before limit cycle → get_or cycle 0 0 ≡ start → ⊥
  no_cycle_from start steps are low closest [] is same = is.ring
  no_cycle_from start steps are low closest (x ∷ xs) is same =
      let ring : Leads before start xs start = let P : ℕ → Type 0 = λ z. Leads before z xs z in subst P same is.ring in
      absurd (omega (arith, ring_bound start steps limit are low closest xs (All-tail (λ z. z < limit) x xs is.within) ring, cycle_count (x ∷ xs) is))

  module _ (start : ℕ) (steps : List ℕ) (are : AreSteps before limit start steps) (low : start < limit) (whole : ℕ) where
    pub IsTrail-start : AreAtLeast before limit steps start whole → HasNext before limit steps start whole → IsTrail before limit start steps whole [] start whole
    IsTrail-start closest next = record {
      low = low;
      joins = λ rest leads. leads;
      splits = λ rest leads. leads;
      closest = closest;
      has_next = next;
      count = omega arith;
      distinct = IsDistinct-cons eqb start [] tt (IsDistinct-from_apart eqb [] (λ i j d less l. absurd (omega arith)));
      apart = λ x h. inl (⊎_elim (λ e. let P : ℕ → Type 0 = λ z. get_or steps z 0 ≡ 0 in subst P (sym (eqb-true x start e)) are.at_target) (λ e. absurd (false≢true e)) (or_cases (eqb x start) false h));
      within = All-cons (λ z. z < limit) start [] low (All-nil (λ z. z < limit));
      least = λ other below leads size. tt;
    }

    least_step : (path : List ℕ) (last left next : ℕ) → IsTrail before limit start steps whole path last (suc left) → IsLeastNext before limit steps last (suc left) next
        → (zs : List ℕ) → Below (path ++ zs) → Leads before start (path ++ zs) start → length (path ++ zs) ≡ whole → IsLexicallyAtMost (next ∷ []) zs
    least_step path last left next trail is [] below leads size =
        absurd (omega (arith, size, trail.count, length-append path []))
    least_step path last left next trail is (y ∷ ys) below leads size =
        let step = trail.splits (y ∷ ys) leads in
        let below_zs : Below (y ∷ ys) = below_right path (y ∷ ys) below in
        let y_low : y < limit = All-head (λ z. z < limit) y ys below_zs in
        let most = walk_bound start steps are low y ys y_low (All-tail (λ z. z < limit) y ys below_zs) step.1 in
        let away : get_or steps y 0 ≡ suc left = omega (arith, most, trail.closest y y_low step.0, size, trail.count, length-append path (y ∷ ys)) in
        let le : next ≤ y = is.least y y_low step.0 away in
        ⊎_elim (λ less. inl less) (λ same. inr (omega arith, tt)) (cases_lt next y)
      where
        below_right : (xs ys : List ℕ) → Below (xs ++ ys) → Below ys
        below_right [] ys h = h
        below_right (x ∷ xs) ys h = below_right xs ys (All-tail (λ z. z < limit) x (xs ++ ys) h)

    pub IsTrail-push : (path : List ℕ) (last left next : ℕ) → suc left < limit → IsTrail before limit start steps whole path last (suc left) → IsLeastNext before limit steps last (suc left) next
        → IsTrail before limit start steps whole (path ++ next ∷ []) next left
    IsTrail-push path last left next small trail is = record {
      low = is.low;
      joins = λ rest leads. rw append_assoc (trail.joins (next ∷ rest) (is.is_next, leads));
      splits = λ rest leads. (trail.splits (next ∷ rest) (rw append_assoc at leads)).1;
      closest = λ y y_low h. omega (arith, are.near next y is.low y_low h, is.is_away);
      has_next = are.far next left is.low is.is_away small;
      count = omega (arith, trail.count, length_push path next);
      distinct = IsDistinct-push nat_eq_equiv (start ∷ path) next trail.distinct
          (⊎_elim
          (λ there. absurd (⊎_elim (λ e. absurd (omega (arith, e, is.is_away))) (λ e. absurd (omega (arith, e, is.is_away))) (trail.apart next there)))
          (λ out. out)
          (cases_Bool (list_any (eqb next) (start ∷ path))));
      apart = λ x h. ⊎_elim
          (λ there. ⊎_elim (λ e. inl e) (λ e. inr (omega (arith, e))) (trail.apart x there))
          (λ here. ⊎_elim
          (λ e. let same : x ≡ next = eqb-true x next e in
          let P : ℕ → Type 0 = λ z. left < get_or steps z 0 in
          inr (subst P (sym same) (omega (arith, is.is_away))))
          (λ e. absurd (false≢true e))
          (or_cases (eqb x next) false here))
          (or_cases (list_any (eqb x) (start ∷ path)) (list_any (eqb x) (next ∷ [])) (sym (list_any-append (eqb x) (start ∷ path) (next ∷ [])) ∙ h));
      within = All-push (λ z. z < limit) (start ∷ path) next trail.within is.low;
      least = λ other below leads size. IsLexicallyAtMost-push path next other (trail.least other below leads size)
          (λ zs e.
          let Q : List ℕ → Type 0 = λ ws. Below ws in
          let R : List ℕ → Type 0 = λ ws. Leads before start ws start in
          least_step path last left next trail is zs (subst Q e below) (subst R e leads) (sym (ap length e) ∙ size));
    }

    -- the trail is closed where the start comes next
    pub least_cycle : (path : List ℕ) (last : ℕ) → IsTrail before limit start steps whole path last 0 → AreAtLeast before limit steps start whole
        → ((cycle : List ℕ) → IsCycle before limit cycle → All (λ x. start ≤ x) cycle) → IsLeastCycle before limit (start ∷ path)
    least_cycle path last trail closest first =
        let next = trail.has_next in
        let back : next.next ≡ start = are.only_target next.next next.low next.is_away in
        let closes : before last start = let P : ℕ → Type 0 = λ z. before last z in subst P back next.is_next in
        let joined : Leads before start (path ++ []) start = trail.joins [] closes in
        let ring : Leads before start path start = let P : List ℕ → Type 0 = λ ws. Leads before start ws start in subst P (append-nil path) joined in
        record {
          is_cycle = record { ring = ring; distinct = trail.distinct; within = trail.within };
          start = first;
          shortest = λ other is same. no_shorter path trail.count other is same;
          least = λ other is same size. no_lesser path trail.count trail.least other is same size;
        }
      where
        no_shorter : (path : List ℕ) → length path + 0 ≡ whole → (other : List ℕ) → IsCycle before limit other → StartAlike (start ∷ path) other → length (start ∷ path) ≤ length other
        no_shorter path count [] is same = absurd is.ring
        no_shorter path count (x ∷ xs) is same =
            let ring : Leads before start xs start = let P : ℕ → Type 0 = λ z. Leads before z xs z in subst P (sym same) is.ring in
            omega (arith, count, ring_bound start steps whole are low closest xs (All-tail (λ z. z < limit) x xs is.within) ring)

        no_lesser : (path : List ℕ) → length path + 0 ≡ whole → ((other : List ℕ) → Below other → Leads before start other start → length other ≡ whole → IsLexicallyAtMost path other) → (other : List ℕ) → IsCycle before limit other → StartAlike (start ∷ path) other → length (start ∷ path) ≡ length other → IsLexicallyAtMost (start ∷ path) other
        no_lesser path count least [] is same size = absurd is.ring
        no_lesser path count least (x ∷ xs) is same size =
            let ring : Leads before start xs start = let P : ℕ → Type 0 = λ z. Leads before z xs z in subst P (sym same) is.ring in
            inr (same, least xs (All-tail (λ z. z < limit) x xs is.within) ring (omega (arith, size, count)))
