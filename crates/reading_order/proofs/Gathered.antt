-- Each number of the path leads to all that stand as high as it or lower, and so the members of a group to one another.
use Rattle.std.proofs.Common.{◌≡◌, ◌≢◌, ℕ, ◌+◌, ◌-◌, ◌<◌, ◌≤◌, ◌^◌, List, [], ◌∷◌, ◌++◌, Bool, true, false, cond, length, get_or, set, eqb, suc, arith, sym, ◌∙◌, subst, inl, inr, ⊎_elim}
use Rattle.std.proofs.lemmas.Bool.{cases_lt, cases_eq, cases_Bool, cond-true, cond-false, eq-eqb, ne_eqb}
use Rattle.std.proofs.lemmas.List.{get_or-set_same, get_or-set_other}
use Rattle.std.proofs.lemmas.List.Elements.{All-nil, All-cons, All-append}
use Rattle.std.proofs.lemmas.List.Sums.{sum_by-set, sum_by-cons}
use Rattle.reading_order.specs.declared.table.Table.{Table}
use Rattle.reading_order.specs.Tables.{Marks}
use Rattle.reading_order.specs.Groups.{AreLevels, AreMoved, IsMetNext, IsBeforeGroup, IsWalk, Reaches, IsFlaggedOrOnRing, AreFlaggedOrOnRings, AreGathered, IsValueOf, IsNoneAt, IsChained, AreSeveralAt, count_unmet}
use Rattle.reading_order.proofs.Turns.{leads_join}
use Rattle.reading_order.proofs.Gathering.{Stands, where_moved}

module _ (before : ℕ → ℕ → Type 0) (limit : ℕ) where
  pub walk_step : (x y : ℕ) → before x y → IsWalk before limit x y
  walk_step x y h = record { over = []; below = All-nil (λ z. z < limit); leads = h }

  walk_join : (x y z : ℕ) → y < limit → IsWalk before limit x y → IsWalk before limit y z → IsWalk before limit x z
  walk_join x y z low first second = record {
    over = first.over ++ y ∷ second.over;
    below = All-append (λ w. w < limit) first.over (y ∷ second.over) first.below (All-cons (λ w. w < limit) y second.over low second.below);
    leads = leads_join before limit x first.over y second.over z first.leads second.leads;
  }

  reach_walk : (x y z : ℕ) → y < limit → Reaches before limit x y → IsWalk before limit y z → IsWalk before limit x z
  reach_walk x y z low (inl e) second = let P : ℕ → Type 0 = λ w. IsWalk before limit w z in subst P (sym e) second
  reach_walk x y z low (inr first) second = walk_join x y z low first second

  walk_reach : (x y z : ℕ) → y < limit → IsWalk before limit x y → Reaches before limit y z → IsWalk before limit x z
  walk_reach x y z low first (inl e) = let P : ℕ → Type 0 = λ w. IsWalk before limit x w in subst P e first
  walk_reach x y z low first (inr second) = walk_join x y z low first second

  -- two numbers that lead to one another
  pub ring_of_two : (x y : ℕ) → y < limit → x ≢ y → Reaches before limit x y → Reaches before limit y x → IsWalk before limit x x
  ring_of_two x y low ne (inl e) second = absurd (ne e)
  ring_of_two x y low ne (inr first) second = walk_reach x y x low first second

-- how many numbers were not met
abbrev weight : ℕ → ℕ
weight l = cond (eqb 0 l) 1 0

weight_of_none : (l : ℕ) → l ≡ 0 → weight l ≡ 1
weight_of_none l h = cond-true (eqb 0 l) 1 0 (eq-eqb 0 l (sym h))

weight_of_some : (l : ℕ) → 0 < l → weight l ≡ 0
weight_of_some l h = cond-false (eqb 0 l) 1 0 (ne_eqb 0 l (λ e. absurd (omega (arith, e, h))))

pub unmet_less : (levels : List ℕ) (k level : ℕ) → k < length levels → get_or levels k 0 ≡ 0 → 0 < level → count_unmet (set levels k level) + 1 ≡ count_unmet levels
unmet_less levels k level low none some =
    omega (arith, sum_by-set weight levels k level 0 low, weight_of_none (get_or levels k 0) none, weight_of_some level some)

pub unmet_at_most : (old new : List ℕ) → length new ≡ length old → ((k : ℕ) → k < length new → get_or new k 0 ≡ 0 → get_or old k 0 ≡ 0) → count_unmet new ≤ count_unmet old
unmet_at_most [] [] count h = omega arith
unmet_at_most [] (y ∷ ys) count h = absurd (omega (arith, count))
unmet_at_most (x ∷ xs) [] count h = absurd (omega (arith, count))
unmet_at_most (x ∷ xs) (y ∷ ys) count h =
    let rest = unmet_at_most xs ys (omega (arith, count)) (λ k low e. h (suc k) (omega (arith, low)) e) in
    let head : weight y ≤ weight x = ⊎_elim
    (λ e. omega (arith, weight_of_none y e, weight_of_none x (h 0 (omega arith) e)))
    (λ ne. omega (arith, weight_of_some y (omega (arith, ne))))
    (cases_eq y 0) in
    omega (arith, rest, head, sum_by-cons weight x xs, sum_by-cons weight y ys)

pub unmet_moved : (old new : List ℕ) (least most level : ℕ) → 0 < least → 0 < level → AreMoved old new least most level (length old) → count_unmet new ≤ count_unmet old
unmet_moved old new least most level from some moved =
    unmet_at_most old new moved.count
    (λ k low h. ⊎_elim
    (λ under. sym (moved.stays k (inl under)) ∙ h)
    (λ more. ⊎_elim
    (λ over. sym (moved.stays k (inr over)) ∙ h)
    (λ upto. absurd (omega (arith, moved.moved k (omega (arith, low, moved.count)) more upto, h, some)))
    (cases_lt most (get_or old k 0)))
    (cases_lt (get_or old k 0) least))

module _ (before : Table) (levels looked : List ℕ) (depth : ℕ) (are : AreLevels before levels looked depth) (deep : depth + 1 < 2 ^ 64 - 1) (flags : List Bool) (gathered : AreGathered before levels flags depth) where
  -- nothing stands between the last level and that of what is closed
  not_over : (x : ℕ) → x < before.side → depth < get_or levels x 0 → get_or levels x 0 ≤ depth + 1 → ⊥
  not_over x low over upto = absurd (omega (arith, are.last x low over, upto, deep))

  pub gathered_met : (e : ℕ) → e < before.side → get_or levels e 0 ≡ 0 → IsMetNext before levels depth e → AreGathered before (set levels e (depth + 1)) flags (depth + 1)
  gathered_met e e_low new next =
      let here : get_or (set levels e (depth + 1)) e 0 ≡ depth + 1 = get_or-set_same levels e (depth + 1) 0 (omega (arith, are.count, e_low)) in
      let there : (x : ℕ) → x ≢ e → get_or (set levels e (depth + 1)) x 0 ≡ get_or levels x 0 = λ x ne. get_or-set_other levels e x (depth + 1) 0 ne in
      let at_e : (x : ℕ) → x ≡ e → get_or (set levels e (depth + 1)) x 0 ≡ depth + 1 = λ x same. let P : ℕ → Type 0 = λ z. get_or (set levels e (depth + 1)) z 0 ≡ depth + 1 in subst P (sym same) here in
      record {
        chain = λ x y x_low y_low some le upto. ⊎_elim
            (λ y_same. ⊎_elim
            (λ x_same. inl (y_same ∙ sym x_same))
            (λ x_ne.
            let x_some : 0 < get_or levels x 0 = omega (arith, some, there x x_ne) in
            let x_upto : get_or levels x 0 ≤ depth + 1 = omega (arith, le, upto, there x x_ne) in
            let x_under : get_or levels x 0 ≤ depth = ⊎_elim (λ over. absurd (not_over x x_low over x_upto)) (λ h. h) (cases_lt depth (get_or levels x 0)) in
            let P : ℕ → Type 0 = λ z. IsWalk (Marks before) before.side z x in
            inr (subst P (sym y_same) (to_path x x_low x_some x_under next)))
            (cases_eq x e))
            (λ y_ne.
            let y_upto : get_or levels y 0 ≤ depth + 1 = omega (arith, upto, there y y_ne) in
            let y_under : get_or levels y 0 ≤ depth = ⊎_elim (λ over. absurd (not_over y y_low over y_upto)) (λ h. h) (cases_lt depth (get_or levels y 0)) in
            ⊎_elim
            (λ x_same. absurd (omega (arith, at_e x x_same, le, there y y_ne, y_under)))
            (λ x_ne. gathered.chain x y x_low y_low (omega (arith, some, there x x_ne)) (omega (arith, le, there x x_ne, there y y_ne)) y_under)
            (cases_eq x e))
            (cases_eq y e);
        known = λ x low h. ⊎_elim
            (λ same. absurd (omega (arith, at_e x same, h, deep)))
            (λ ne. gathered.known x low (sym (there x ne) ∙ h))
            (cases_eq x e);
      }
    where
      to_path : (x : ℕ) → x < before.side → 0 < get_or levels x 0 → get_or levels x 0 ≤ depth → IsMetNext before levels depth e → IsWalk (Marks before) before.side e x
      to_path x x_low some under (inl (lower, group)) =
          let last = gathered.chain x group.later x_low group.low some (omega (arith, under, group.at)) (omega (arith, group.at)) in
          walk_reach (Marks before) before.side e group.later x group.low (walk_step (Marks before) before.side e group.later group.marks) last
      to_path x x_low some under (inr none) = absurd (omega (arith, some, under, none.0))

  pub gathered_joined : (new : List ℕ) (e level : ℕ) → e < before.side → get_or levels e 0 ≡ level → 0 < level → level < depth → IsBeforeGroup before levels depth e → AreMoved levels new level depth level before.side → AreGathered before new flags level
  gathered_joined new e level e_low e_at some under group moved =
      let at = where_moved before levels looked depth are new level depth level moved in
      record {
        chain = λ x y x_low y_low x_some le upto. chain x y x_low y_low x_some le upto (at x x_low) (at y y_low);
        known = λ x low h. ⊎_elim
            (λ p. absurd (omega (arith, p.0, p.1, h, under, deep)))
            (λ r. ⊎_elim (λ p. gathered.known x low (sym p.1 ∙ h)) (λ p. absurd (omega (arith, p.2, h, under, deep))) r)
            (at x low);
      }
    where
      chain : (x y : ℕ) → x < before.side → y < before.side → 0 < get_or new x 0 → get_or new x 0 ≤ get_or new y 0 → get_or new y 0 ≤ level
          → Stands levels new level depth level x → Stands levels new level depth level y → Reaches (Marks before) before.side y x
      chain x y x_low y_low x_some le upto (inl a) (inl b) = gathered.chain x y x_low y_low (omega (arith, a.1, x_some)) (omega (arith, a.1, b.1, le)) (omega (arith, b.0, under))
      chain x y x_low y_low x_some le upto (inl a) (inr (inl b)) = absurd (omega (arith, b.0, b.1, upto, under))
      chain x y x_low y_low x_some le upto (inl a) (inr (inr b)) = gathered.chain x y x_low y_low (omega (arith, a.1, x_some)) (omega (arith, a.0, b.0)) b.1
      chain x y x_low y_low x_some le upto (inr (inl a)) b = absurd (omega (arith, a.0, a.1, le, upto, under))
      chain x y x_low y_low x_some le upto (inr (inr a)) (inl b) = absurd (omega (arith, a.2, b.0, b.1, le))
      chain x y x_low y_low x_some le upto (inr (inr a)) (inr (inl b)) = absurd (omega (arith, b.0, b.1, upto, under))
      chain x y x_low y_low x_some le upto (inr (inr a)) (inr (inr b)) =
          let side = before.side in
          let down = gathered.chain e y e_low y_low (omega (arith, e_at, some)) (omega (arith, e_at, b.0)) b.1 in
          let up = walk_step (Marks before) side e group.later group.marks in
          let last = gathered.chain x group.later x_low group.low (omega (arith, a.0, some)) (omega (arith, a.1, group.at)) (omega (arith, group.at)) in
          inr (reach_walk (Marks before) side y e x e_low down (walk_reach (Marks before) side e group.later x group.low up last))

  pub gathered_closed : (new : List ℕ) (flags_new : List Bool) → 0 < depth → AreMoved levels new depth depth (2 ^ 64 - 1) before.side → ((x : ℕ) → x < before.side → get_or flags x false ≡ true → get_or flags_new x false ≡ true) → ((x : ℕ) → x < before.side → get_or levels x 0 ≡ depth → IsFlaggedOrOnRing before flags_new x) → AreGathered before new flags_new (depth - 1)
  gathered_closed new flags_new some moved grows group =
      let at = where_moved before levels looked depth are new depth depth (2 ^ 64 - 1) moved in
      record {
        chain = λ x y x_low y_low x_some le upto. chain x y x_low y_low x_some le upto (at x x_low) (at y y_low);
        known = λ x low h. ⊎_elim
            (λ p. absurd (omega (arith, p.0, p.1, h, deep)))
            (λ r. ⊎_elim
            (λ p. ⊎_elim (λ on. inl (grows x low on)) (λ ring. inr ring) (gathered.known x low (sym p.1 ∙ h)))
            (λ p. group x low (omega (arith, p.0, p.1)))
            r)
            (at x low);
      }
    where
      chain : (x y : ℕ) → x < before.side → y < before.side → 0 < get_or new x 0 → get_or new x 0 ≤ get_or new y 0 → get_or new y 0 ≤ depth - 1
          → Stands levels new depth depth (2 ^ 64 - 1) x → Stands levels new depth depth (2 ^ 64 - 1) y → Reaches (Marks before) before.side y x
      chain x y x_low y_low x_some le upto (inl a) (inl b) = gathered.chain x y x_low y_low (omega (arith, a.1, x_some)) (omega (arith, a.1, b.1, le)) (omega (arith, b.0))
      chain x y x_low y_low x_some le upto (inl a) (inr (inl b)) = absurd (omega (arith, b.0, b.1, upto))
      chain x y x_low y_low x_some le upto (inl a) (inr (inr b)) = absurd (omega (arith, b.2, upto, deep))
      chain x y x_low y_low x_some le upto (inr (inl a)) b = absurd (omega (arith, a.0, a.1, le, upto))
      chain x y x_low y_low x_some le upto (inr (inr a)) b = absurd (omega (arith, a.2, le, upto, deep))

-- nothing is on the path at first, and what is closed is flagged
pub gathered_at_first : (before : Table) (flags : List Bool) (levels : List ℕ) → length flags ≡ before.side → IsValueOf flags (2 ^ 64 - 1) levels before.side → AreGathered before levels flags 0
gathered_at_first before flags levels count level_of = record {
  chain = λ x y x_low y_low some le upto. absurd (omega (arith, some, le, upto));
  known = λ x low h. ⊎_elim
      (λ on. inl on)
      (λ off. absurd (omega (arith, level_of.others x (omega (arith, low, count)) off, h)))
      (cases_Bool (get_or flags x false));
}

-- in the end all numbers are closed
pub gathered_at_last : (before : Table) (levels looked : List ℕ) (flags : List Bool) (depth : ℕ) → AreLevels before levels looked depth → AreGathered before levels flags depth → depth ≡ 0 → IsNoneAt levels 0 0 → AreFlaggedOrOnRings before flags
gathered_at_last before levels looked flags depth are gathered empty met x low =
    gathered.known x low (are.last x low (let ne : get_or levels x 0 ≢ 0 = met x (omega arith) (omega (arith, low, are.count)) in omega (arith, empty, ne)))

-- the members of a closed group are on rings where there are several
module _ (before : Table) (levels : List ℕ) (depth : ℕ) (count : length levels ≡ before.side) where
  pub rings_of_several : (flags : List Bool) → 0 < depth → IsChained before levels depth → AreSeveralAt levels depth → (x : ℕ) → x < before.side → get_or levels x 0 ≡ depth → IsFlaggedOrOnRing before flags x
  rings_of_several flags some chain several x low at =
      let s = several x (omega (arith, low, count)) at in
      let y_low : s.0 < before.side = omega (arith, s.1, count) in
      inr (ring_of_two (Marks before) before.side x s.0 y_low s.3
      (chain s.0 x y_low low (omega (arith, some, s.2)) (omega (arith, s.2, at)) (omega (arith, at)))
      (chain x s.0 low y_low (omega (arith, some, at)) (omega (arith, s.2, at)) (omega (arith, s.2))))
