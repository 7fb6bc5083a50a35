-- The flags and the places of a table that is emptied number by number.
use Rattle.std.proofs.Common.{◌≡◌, ℕ, ◌<◌, List, [], ◌∷◌, ◌++◌, Bool, true, false, ◌||◌, length, get_or, set, replicate, eqb, arith, refl, sym, ◌∙◌, inl, inr, ⊎_elim}
use Rattle.std.specs.List.{list_any}
use Rattle.std.proofs.lemmas.Bool.{cases_eq, cases_Bool, cases_lt, eq-eqb, ne_eqb, or_left, or_right, false≢true}
use Rattle.std.proofs.lemmas.List.{get_or-set_same, get_or-set_other, get_or-replicate, get_or_past, length-replicate}
use Rattle.std.proofs.lemmas.List.Folds.{list_any-append}
use Rattle.reading_order.specs.declared.table.Table.{Table}
use Rattle.reading_order.specs.Tables.{Marks}
use Rattle.reading_order.specs.Looking.{AreLooked, AreFlags, IsNotFree, IsLeastFreeNumber}
use Rattle.reading_order.specs.Fronts.{IsFront, IsTakenOrBlocked, IsGreedy}
use Rattle.reading_order.proofs.Members.{in_whole}
use Rattle.reading_order.proofs.Fronts.{nothing_left, IsFree}

module _ (before : Table) where
  pub kept_from : (taken : List Bool) (order : List ℕ) → AreFlags before.side taken order → (x : ℕ) → x < before.side → IsNotFree before taken x → IsTakenOrBlocked (Marks before) before.side order x
  kept_from taken order flags x low h =
      ⊎_elim
      (λ yes. inl (sym (flags x low) ∙ yes))
      (λ no.
      let held = h no in
      inr (record { earlier = held.earlier; low = held.low; is_before = held.marks; out = sym (flags held.earlier held.low) ∙ held.out }))
      (cases_Bool (get_or taken x false))

  pub free_from : (taken : List Bool) (order : List ℕ) → AreFlags before.side taken order → (x : ℕ) → IsLeastFreeNumber before taken x → IsFree (Marks before) before.side order x
  free_from taken order flags x is = record {
    low = is.low;
    out = sym (flags x is.low) ∙ is.out;
    settled = λ a low h. sym (flags a low) ∙ is.clear a low h;
    least = λ y less. kept_from taken order flags y (omega (arith, is.low)) (is.least y less);
  }

  pub flags_push : (taken : List Bool) (order : List ℕ) (v : ℕ) → length taken ≡ before.side → v < before.side → AreFlags before.side taken order → AreFlags before.side (set taken v true) (order ++ v ∷ [])
  flags_push taken order v size v_low flags x low =
      ⊎_elim
      (λ same.
      let e : get_or (set taken v true) x false ≡ true = rw same (get_or-set_same taken v true false (omega (arith, size))) in
      e ∙ sym (list_any-append (eqb x) order (v ∷ []) ∙ or_right (list_any (eqb x) order) (eqb x v || false) (or_left (eqb x v) false (eq-eqb x v same))))
      (λ other.
      let e : get_or (set taken v true) x false ≡ get_or taken x false = get_or-set_other taken v x true false other in
      e ∙ flags x low ∙ sym (list_any-append (eqb x) order (v ∷ []) ∙ out_of_one x v (list_any (eqb x) order) other))
      (cases_eq x v)
    where
      out_of_one : (x v : ℕ) (b : Bool) → (x ≡ v → ⊥) → (b || (eqb x v || false)) ≡ b
      out_of_one x v true other = refl
      out_of_one x v false other = rw (ne_eqb x v other) refl

  pub looked_push : (taken : List Bool) (looked : List ℕ) (v : ℕ) → AreLooked before taken looked → AreLooked before (set taken v true) looked
  looked_push taken looked v are = record {
    count = are.count;
    low = are.low;
    clear = λ x low y less h. kept_true taken v y (are.clear x low y less h);
  }
    where
      kept_true : (taken : List Bool) (v y : ℕ) → get_or taken y false ≡ true → get_or (set taken v true) y false ≡ true
      kept_true taken v y h =
          ⊎_elim
          (λ same.
          ⊎_elim
          (λ within. rw same (get_or-set_same taken v true false within))
          (λ past. let no : false ≡ true = sym (get_or_past taken y false (omega (arith, past, same))) ∙ h in absurd (false≢true no))
          (cases_lt v (length taken)))
          (λ other. get_or-set_other taken v y true false other ∙ h)
          (cases_eq y v)

  pub flags_nil : AreFlags before.side (replicate before.side false) []
  flags_nil x low = get_or-replicate before.side x false false low

  pub looked_nil : AreLooked before (replicate before.side false) (replicate before.side 0)
  looked_nil = record {
    count = length-replicate before.side 0;
    low = λ x low. omega (arith, get_or-replicate {A = ℕ} before.side x 0 0 low);
    clear = λ x low y less h. absurd (omega (arith, less, get_or-replicate {A = ℕ} before.side x 0 0 low));
  }

  pub greedy_full : (order left : List ℕ) → IsFront (Marks before) before.side order left → length order ≡ before.side → IsGreedy (Marks before) before.side order
  greedy_full order left front full =
      let whole = nothing_left (Marks before) before.side order left front.whole full in
      record { left = left; front = front; stuck = λ x low. inl (in_whole before.side order whole x low) }

  pub greedy_stuck : (taken : List Bool) (order left : List ℕ) → IsFront (Marks before) before.side order left → AreFlags before.side taken order → ((x : ℕ) → x < before.side → IsNotFree before taken x) → IsGreedy (Marks before) before.side order
  greedy_stuck taken order left front flags none =
      record { left = left; front = front; stuck = λ x low. kept_from taken order flags x low (none x low) }
