-- What each turn of the search keeps, and what is flagged.
use Rattle.std.proofs.Common.{◌≡◌, ◌≢◌, ℕ, ◌-◌, ◌<◌, ◌≤◌, ◌^◌, List, [], ◌∷◌, Bool, true, false, length, get_or, set, arith, sym, ◌∙◌, subst, ◌⊎◌, inl, inr, ⊎_elim, All}
use Rattle.std.proofs.lemmas.Bool.{cases_lt, cases_eq, cases_Bool}
use Rattle.std.proofs.lemmas.List.{get_or-set_same, get_or-set_other, length-set}
use Rattle.std.proofs.lemmas.List.Elements.{All-head, All-tail}
use Rattle.reading_order.specs.declared.table.Table.{Table}
use Rattle.reading_order.specs.Tables.{Marks}
use Rattle.reading_order.specs.Cycles.{Leads, StartsNoCycle, AreOnNone}
use Rattle.reading_order.specs.Groups.{AreLevels, IsNoneLower, AreMoved, IsLoneAt, AreSettled, IsLookedWhole, AreClosed, IsValueOf}

module _ (before : Table) (levels : List ℕ) (depth : ℕ) (settled : AreSettled before levels depth) where
  -- what leads to a number that stands at the last level or above it stands no lower
  levels_rise : (x : ℕ) (xs : List ℕ) (y : ℕ) → x < before.side → y < before.side → All (λ z. z < before.side) xs → Leads (Marks before) x xs y → depth ≤ get_or levels y 0 → get_or levels y 0 ≤ get_or levels x 0
  levels_rise x [] y x_low y_low below leads high = settled y x y_low x_low high leads
  levels_rise x (z ∷ zs) y x_low y_low below leads high =
      let z_low : z < before.side = All-head (λ w. w < before.side) z zs below in
      let more = levels_rise z zs y z_low y_low (All-tail (λ w. w < before.side) z zs below) leads.1 high in
      let step = settled z x z_low x_low (omega (arith, more, high)) leads.0 in
      omega (arith, more, step)

  -- a number that stands there alone, and is not before itself, is on no cycle
  lone_on_none : (x : ℕ) → length levels ≡ before.side → IsLoneAt levels depth x → (Marks before x x → ⊥) → StartsNoCycle (Marks before) before.side x
  lone_on_none x count lone not_itself [] is same = is.ring
  lone_on_none x count lone not_itself (w ∷ []) is same =
      let P : ℕ → Type 0 = λ z. Marks before z z in
      not_itself (subst P same is.ring)
  lone_on_none x count lone not_itself (w ∷ z ∷ zs) is same =
      let side = before.side in
      let w_low : w < side = All-head (λ v. v < side) w (z ∷ zs) is.within in
      let rest : All (λ v. v < side) (z ∷ zs) = All-tail (λ v. v < side) w (z ∷ zs) is.within in
      let z_low : z < side = All-head (λ v. v < side) z zs rest in
      let P : ℕ → Type 0 = λ v. get_or levels v 0 ≡ depth in
      let here : get_or levels w 0 ≡ depth = subst P (sym same) lone.at in
      let up = levels_rise z zs w z_low w_low (All-tail (λ v. v < side) z zs rest) is.ring.1 (omega (arith, here)) in
      let down = settled z w z_low w_low (omega (arith, here, up)) is.ring.0 in
      let alike : z ≡ x = lone.only z (omega (arith, z_low, count)) (omega (arith, here, up, down)) in
      let Q : ℕ → Type 0 = λ v. Marks before v z in
      let R : ℕ → Type 0 = λ v. Marks before x v in
      not_itself (subst R alike (subst Q same is.ring.0))

  pub flagged_lone : (flags : List Bool) (x : ℕ) → AreOnNone (Marks before) before.side flags → length levels ≡ before.side → IsLoneAt levels depth x → (Marks before x x → ⊥) → AreOnNone (Marks before) before.side (set flags x true)
  flagged_lone flags x none count lone not_itself z low h =
      ⊎_elim
      (λ same. let P : ℕ → Type 0 = λ w. StartsNoCycle (Marks before) before.side w in subst P (sym same) (lone_on_none x count lone not_itself))
      (λ ne. none z low (sym (get_or-set_other flags x z true false ne) ∙ h))
      (cases_eq z x)

-- where a number stands after all levels from one to another have moved to one
abbrev pub Stands : List ℕ → List ℕ → ℕ → ℕ → ℕ → ℕ → Type 0
Stands old new least most level x =
    ((get_or old x 0 < least) × (get_or new x 0 ≡ get_or old x 0))
    ⊎ ((most < get_or old x 0) × (get_or new x 0 ≡ get_or old x 0))
    ⊎ ((least ≤ get_or old x 0) × (get_or old x 0 ≤ most) × (get_or new x 0 ≡ level))

module _ (before : Table) (levels looked : List ℕ) (depth : ℕ) (are : AreLevels before levels looked depth) where
  -- one more was looked at of what is before a number of a group
  pub levels_looked : (k p : ℕ) → k < before.side → 0 < get_or levels k 0 → get_or levels k 0 < 2 ^ 64 - 1 → p ≤ before.side → IsNoneLower before levels k p → AreLevels before levels (set looked k p) depth
  levels_looked k p k_low some under p_low none =
      let here : get_or (set looked k p) k 0 ≡ p = get_or-set_same looked k p 0 (omega (arith, are.looked_count, k_low)) in
      let there : (x : ℕ) → x ≢ k → get_or (set looked k p) x 0 ≡ get_or looked x 0 = λ x ne. get_or-set_other looked k x p 0 ne in
      let P : ℕ → Type 0 = λ z. get_or (set looked k p) z 0 ≡ p in
      let Q : ℕ → Type 0 = λ z. 0 < get_or levels z 0 in
      let R : ℕ → Type 0 = λ z. get_or levels z 0 < 2 ^ 64 - 1 in
      let S : ℕ → Type 0 = λ z. IsNoneLower before levels z p in
      record {
        count = are.count;
        looked_count = length-set looked k p ∙ are.looked_count;
        low = λ x low. ⊎_elim
            (λ same. omega (arith, subst P (sym same) here, p_low))
            (λ ne. omega (arith, there x ne, are.low x low))
            (cases_eq x k);
        rise = λ x low y less marks. ⊎_elim
            (λ same. subst S (sym same) none y (omega (arith, less, subst P (sym same) here)) marks)
            (λ ne. are.rise x low y (omega (arith, less, there x ne)) marks)
            (cases_eq x k);
        unmet = λ x low h. ⊎_elim
            (λ same. absurd (omega (arith, subst Q (sym same) some, h)))
            (λ ne. there x ne ∙ are.unmet x low h)
            (cases_eq x k);
        closed = λ x low h. ⊎_elim
            (λ same. absurd (omega (arith, subst R (sym same) under, h)))
            (λ ne. there x ne ∙ are.closed x low h)
            (cases_eq x k);
        last = are.last;
      }

  module _ (new : List ℕ) (least most level : ℕ) (moved : AreMoved levels new least most level before.side) where
    pub where_moved : (x : ℕ) → x < before.side → Stands levels new least most level x
    where_moved x low =
        ⊎_elim
        (λ under. inl (under, moved.stays x (inl under)))
        (λ from. ⊎_elim
        (λ over. inr (inl (over, moved.stays x (inr over))))
        (λ upto. inr (inr (from, upto, moved.moved x low from upto)))
        (cases_lt most (get_or levels x 0)))
        (cases_lt (get_or levels x 0) least)

  -- the last group is closed
  pub levels_closed : (new : List ℕ) → 0 < depth → depth < 2 ^ 64 - 1 → IsLookedWhole before levels looked depth → AreMoved levels new depth depth (2 ^ 64 - 1) before.side → AreLevels before new looked (depth - 1)
  levels_closed new some deep whole moved =
      let at = where_moved new depth depth (2 ^ 64 - 1) moved in
      record {
        count = moved.count ∙ are.count;
        looked_count = are.looked_count;
        low = are.low;
        rise = λ x low y less marks.
            let y_low : y < before.side = omega (arith, less, are.low x low) in
            let old = are.rise x low y less marks in
            ⊎_elim
            (λ p. closed_rise x y y_low p old (at y y_low))
            (λ r. let x_new : get_or new x 0 ≤ 2 ^ 64 - 1 = ⊎_elim (λ p. omega (arith, p.1, are.last x low p.0)) (λ p. omega (arith, p.2)) r in
            let x_high : depth ≤ get_or levels x 0 = ⊎_elim (λ p. omega (arith, p.0)) (λ p. p.0) r in
            omega (arith, x_new, closed_high y y_low (omega (arith, x_high, old)) (at y y_low)))
            (at x low);
        unmet = λ x low h. ⊎_elim
            (λ p. are.unmet x low (sym p.1 ∙ h))
            (λ r. ⊎_elim (λ p. absurd (omega (arith, p.0, p.1, h))) (λ p. absurd (omega (arith, p.2, h))) r)
            (at x low);
        closed = λ x low h. ⊎_elim
            (λ p. are.closed x low (sym p.1 ∙ h))
            (λ r. ⊎_elim (λ p. are.closed x low (sym p.1 ∙ h)) (λ p. whole x low (omega (arith, p.0, p.1))) r)
            (at x low);
        last = λ x low h. ⊎_elim
            (λ p. absurd (omega (arith, p.0, p.1, h, some)))
            (λ r. ⊎_elim (λ p. p.1 ∙ are.last x low p.0) (λ p. p.2) r)
            (at x low);
      }
    where
      closed_high : (y : ℕ) → y < before.side → depth ≤ get_or levels y 0 → Stands levels new depth depth (2 ^ 64 - 1) y → get_or new y 0 ≡ 2 ^ 64 - 1
      closed_high y low high (inl b) = absurd (omega (arith, b.0, high))
      closed_high y low high (inr (inl b)) = b.1 ∙ are.last y low b.0
      closed_high y low high (inr (inr b)) = b.2

      closed_rise : (x y : ℕ) → y < before.side → ((get_or levels x 0 < depth) × (get_or new x 0 ≡ get_or levels x 0)) → get_or levels x 0 ≤ get_or levels y 0 → Stands levels new depth depth (2 ^ 64 - 1) y → get_or new x 0 ≤ get_or new y 0
      closed_rise x y low a old (inl b) = omega (arith, a.1, b.1, old)
      closed_rise x y low a old (inr (inl b)) = omega (arith, a.1, b.1, old)
      closed_rise x y low a old (inr (inr b)) = omega (arith, a.0, a.1, b.2, deep)

-- the flagged numbers are closed at first
pub levels_at_first : (before : Table) (flags : List Bool) (levels looked : List ℕ) → length flags ≡ before.side → AreClosed before flags → IsValueOf flags (2 ^ 64 - 1) levels before.side → IsValueOf flags before.side looked before.side → AreLevels before levels looked 0
levels_at_first before flags levels looked count closed level_of look_of =
    let side = before.side in
    let level_flagged : (x : ℕ) → x < side → get_or flags x false ≡ true → get_or levels x 0 ≡ 2 ^ 64 - 1 = λ x low h. level_of.flagged x low h in
    let level_none : (x : ℕ) → x < side → get_or flags x false ≡ false → get_or levels x 0 ≡ 0 = λ x low h. level_of.others x (omega (arith, low, count)) h in
    let look_flagged : (x : ℕ) → x < side → get_or flags x false ≡ true → get_or looked x 0 ≡ side = λ x low h. look_of.flagged x low h in
    let look_none : (x : ℕ) → x < side → get_or flags x false ≡ false → get_or looked x 0 ≡ 0 = λ x low h. look_of.others x (omega (arith, low, count)) h in
    record {
      count = level_of.count ∙ count;
      looked_count = look_of.count ∙ count;
      low = λ x low. ⊎_elim (λ h. omega (arith, look_flagged x low h)) (λ h. omega (arith, look_none x low h)) (cases_Bool (get_or flags x false));
      rise = λ x low y less marks. ⊎_elim
          (λ h. let y_low : y < side = omega (arith, less, look_flagged x low h) in
          omega (arith, level_flagged x low h, level_flagged y y_low (closed x y low y_low h marks)))
          (λ h. absurd (omega (arith, less, look_none x low h)))
          (cases_Bool (get_or flags x false));
      unmet = λ x low h. ⊎_elim (λ on. absurd (omega (arith, level_flagged x low on, h))) (λ off. look_none x low off) (cases_Bool (get_or flags x false));
      closed = λ x low h. ⊎_elim (λ on. look_flagged x low on) (λ off. absurd (omega (arith, level_none x low off, h))) (cases_Bool (get_or flags x false));
      last = λ x low h. ⊎_elim (λ on. level_flagged x low on) (λ off. absurd (omega (arith, level_none x low off, h))) (cases_Bool (get_or flags x false));
    }
