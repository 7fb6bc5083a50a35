-- The numbers that were taken so far, each the least one that was free.
use Rattle.std.proofs.Common.{◌≡◌, ℕ, ◌<◌, List, [], ◌∷◌, ◌++◌, true, false, length, get_or, take, eqb, arith, refl, sym, ◌∙◌, ap, subst, inl, inr, ⊎_elim}
use Rattle.std.specs.List.{list_any, range_with_len, remove}
use Rattle.std.specs.List.Sorted.{IsPermutation}
use Rattle.std.proofs.lemmas.Bool.{or_cases, cases_lt, eq-eqb, false≢true}
use Rattle.std.proofs.lemmas.List.{append-nil, get_or_append_left, get_or_at, get_or_push, take-append-le, take_at, length_push, length-append, get_or_default, nil_from_length, get_or-take, length-take-le}
use Rattle.std.proofs.lemmas.List.Folds.{list_any-append}
use Rattle.std.proofs.lemmas.List.Sorted.{IsPermutation-more, IsPermutation-refl}
use Rattle.std.proofs.lemmas.Map.Keys.{apart_from_distinct}
use Rattle.reading_order.specs.Lexical.{IsLexicallyAtMost}
use Rattle.reading_order.specs.Orders.{IsTopologicalOrder, IsLeastTopologicalOrder}
use Rattle.reading_order.specs.Fronts.{IsFront, IsTakenOrBlocked}
use Rattle.reading_order.proofs.Lexical.{IsLexicallyAtMost-push}
use Rattle.reading_order.proofs.Members.{IsIn, IsOut, place_of, in_at, in_or_out, in_whole, below_whole, distinct_whole, length_whole}

-- the least number that can be taken
pub record IsFree (before : ℕ → ℕ → Type 0) (limit : ℕ) (taken : List ℕ) (x : ℕ) : Type 0 where
  pub low : x < limit
  pub out : list_any (eqb x) taken ≡ false
  pub settled : (a : ℕ) → a < limit → before a x → list_any (eqb a) taken ≡ true
  pub least : (y : ℕ) → y < x → IsTakenOrBlocked before limit taken y

module _ (before : ℕ → ℕ → Type 0) (limit : ℕ) where
  -- what comes next in an order that begins with the numbers taken was not taken
  next_is_out : (taken : List ℕ) (y : ℕ) (ys : List ℕ) → IsTopologicalOrder before limit (taken ++ y ∷ ys) → IsIn y taken → ⊥
  next_is_out taken y ys order there =
      let whole = taken ++ y ∷ ys in
      let p = place_of y taken there in
      let last : get_or whole (length taken) 0 ≡ y = get_or_at taken y ys 0 (length taken) refl in
      let first : get_or whole p.0 0 ≡ y = get_or_append_left taken (y ∷ ys) 0 p.0 p.1 ∙ p.2 in
      let size : length taken < length whole = omega (arith, length-append taken (y ∷ ys)) in
      let apart = apart_from_distinct eqb whole p.0 (length taken) 0 (distinct_whole limit whole order.whole) p.1 size in
      false≢true (sym apart ∙ eq-eqb _ _ (first ∙ sym last))

  -- and all that are before it were
  next_is_free : (taken : List ℕ) (y : ℕ) (ys : List ℕ) → IsTopologicalOrder before limit (taken ++ y ∷ ys) → (p : ℕ) → p < limit → before p y → IsIn p taken
  next_is_free taken y ys order p low earlier =
      let whole = taken ++ y ∷ ys in
      let q = place_of p whole (in_whole limit whole order.whole p low) in
      let last : get_or whole (length taken) 0 ≡ y = get_or_at taken y ys 0 (length taken) refl in
      let size : length taken < length whole = omega (arith, length-append taken (y ∷ ys)) in
      let holds : before (get_or whole q.0 0) (get_or whole (length taken) 0) = rw (q.2, last) earlier in
      let ordered : q.0 < length taken = order.obeys q.0 (length taken) q.1 size holds in
      in_at p taken q.0 ordered (sym (get_or_append_left taken (y ∷ ys) 0 q.0 ordered) ∙ q.2)

  least_next : (taken : List ℕ) (v : ℕ) → IsFree before limit taken v → (zs : List ℕ) → IsTopologicalOrder before limit (taken ++ zs) → IsLexicallyAtMost (v ∷ []) zs
  least_next taken v free [] order =
      in_or_out v taken (ap (list_any (eqb v)) (sym (append-nil taken)) ∙ in_whole limit (taken ++ []) order.whole v free.low) free.out
  least_next taken v free (y ∷ ys) order =
      ⊎_elim
      (λ less. absurd (⊎_elim
      (λ there. next_is_out taken y ys order there)
      (λ blocked. in_or_out blocked.earlier taken (next_is_free taken y ys order blocked.earlier blocked.low blocked.is_before) blocked.out)
      (free.least y less)))
      (λ most. ⊎_elim (λ less. inl less) (λ same. inr (omega arith, tt)) (cases_lt v y))
      (cases_lt y v)

  settled_push : (taken : List ℕ) (v : ℕ) → ((a j : ℕ) → a < limit → j < length taken → before a (get_or taken j 0) → IsIn a (take j taken)) → ((a : ℕ) → a < limit → before a v → IsIn a taken)
      → (a j : ℕ) → a < limit → j < length (taken ++ v ∷ []) → before a (get_or (taken ++ v ∷ []) j 0) → IsIn a (take j (taken ++ v ∷ []))
  settled_push taken v settled free a j low l h =
      ⊎_elim
      (λ less.
      let same : take j (taken ++ v ∷ []) ≡ take j taken = take-append-le j taken (v ∷ []) (omega arith) in
      let at : get_or (taken ++ v ∷ []) j 0 ≡ get_or taken j 0 = get_or_append_left taken (v ∷ []) 0 j less in
      rw same (settled a j low less (rw at at h)))
      (λ more.
      let here : j ≡ length taken = omega (arith, l, more, length_push taken v) in
      let same : take j (taken ++ v ∷ []) ≡ taken = take_at taken (v ∷ []) j (sym here) in
      let at : get_or (taken ++ v ∷ []) j 0 ≡ v = get_or_push taken v 0 j (sym here) in
      rw same (free a low (rw at at h)))
      (cases_lt j (length taken))

  -- a free number was among those that are left
  in_left : (taken left : List ℕ) (v : ℕ) → IsPermutation (range_with_len 0 limit) (taken ++ left) → v < limit → IsOut v taken → IsIn v left
  in_left taken left v whole low out =
      ⊎_elim (λ a. absurd (in_or_out v taken a out)) (λ b. b)
      (or_cases (list_any (eqb v) taken) (list_any (eqb v) left) (sym (list_any-append (eqb v) taken left) ∙ in_whole limit (taken ++ left) whole v low))

  pub IsFront-push : (taken left : List ℕ) (v : ℕ) → IsFront before limit taken left → IsFree before limit taken v → (rest : List ℕ) × IsFront before limit (taken ++ v ∷ []) rest
  IsFront-push taken left v front free =
      let p = place_of v left (in_left taken left v front.whole free.low free.out) in (
        remove left p.0,
        record {
          whole = IsPermutation-more (range_with_len 0 limit) taken left p.0 v p.1 (sym p.2 ∙ get_or_default left p.0 0 v p.1) front.whole;
          settled = settled_push taken v front.settled free.settled;
          least = λ other order. IsLexicallyAtMost-push taken v other (front.least other order)
              (λ zs e. least_next taken v free zs (subst (IsTopologicalOrder before limit) e order));
        },
      )

  pub IsFront-nil : IsFront before limit [] (range_with_len 0 limit)
  IsFront-nil = record {
    whole = IsPermutation-refl (range_with_len 0 limit);
    settled = λ a j low l h. absurd (omega arith);
    least = λ other order. tt;
  }

  obeys_front : (taken : List ℕ) → IsPermutation (range_with_len 0 limit) taken → ((a j : ℕ) → a < limit → j < length taken → before a (get_or taken j 0) → IsIn a (take j taken))
      → (i j : ℕ) → i < length taken → j < length taken → before (get_or taken i 0) (get_or taken j 0) → i < j
  obeys_front taken whole settled i j low high h =
      let a = get_or taken i 0 in
      let size : length (take j taken) ≡ j = length-take-le j taken (omega arith) in
      let p = place_of a (take j taken) (settled a j (below_whole limit taken whole a (in_at a taken i low refl)) high h) in
      let less : p.0 < j = omega (arith, p.1, size) in
      let same : get_or taken p.0 0 ≡ a = sym (get_or-take j taken p.0 0 less) ∙ p.2 in
      ⊎_elim
      (λ under. under)
      (λ over.
      let apart = apart_from_distinct eqb taken p.0 i 0 (distinct_whole limit taken whole) (omega arith) low in
      absurd (false≢true (sym apart ∙ eq-eqb _ _ same)))
      (cases_lt i j)

  pub nothing_left : (taken left : List ℕ) → IsPermutation (range_with_len 0 limit) (taken ++ left) → length taken ≡ limit → IsPermutation (range_with_len 0 limit) taken
  nothing_left taken left whole full =
      let none : left ≡ [] = nil_from_length left (omega (arith, full, length_whole limit (taken ++ left) whole, length-append taken left)) in
      let h : IsPermutation (range_with_len 0 limit) (taken ++ []) = rw none at whole in
      rw append-nil at h

  pub least_order : (taken left : List ℕ) → IsFront before limit taken left → length taken ≡ limit → IsLeastTopologicalOrder before limit taken
  least_order taken left front full =
      let whole = nothing_left taken left front.whole full in
      record {
        is_order = record { whole = whole; obeys = obeys_front taken whole front.settled };
        least = front.least;
      }
