-- The reaches are found in the order of the levels.
use Rattle.std.proofs.Common.{◌≡◌, ◌≢◌, ℕ, ◌+◌, ◌<◌, ◌≤◌, min, cond, ltb, List, length, get_or, set, arith, refl, sym, ◌∙◌, ap, subst, ◌⊎◌, inl, inr, ⊎_elim}
use Rattle.std.proofs.lemmas.Bool.{cases_lt, cases_eq, lt-ltb, le-ltb, cond-true, cond-false}
use Rattle.std.proofs.lemmas.List.{get_or-set_same, get_or-set_other, length-set}
use Rattle.layout_geom.specs.declared.rect.Rect.{Rect}
use Rattle.reading_order.specs.Reach.{AreInOrder, IsLineBetween, StartsAt, IsReach, AreReaches}

module _ (lines : List Rect) (levels order : List ℕ) (from edge : ℕ) where
  -- what is known when the first lines of the order were met
  pub record IsWalked (met level before within : ℕ) (old reaches : List ℕ) : Type 0 where
    pub count : length reaches ≡ length old
    pub starts : from ≤ level
    pub ahead : (k : ℕ) → met ≤ k → k < length order → from < get_or levels (get_or order k 0) 0 → level ≤ get_or levels (get_or order k 0) 0
    pub lesser : IsReach lines levels from edge level before
    pub bound : (k : ℕ) → k < met → from < get_or levels (get_or order k 0) 0 → ((d : Rect) → edge < (get_or lines (get_or order k 0) d).x1) → (d : Rect) → within ≤ (get_or lines (get_or order k 0) d).x0
    pub some : (within ≡ 8192) ⊎ ((line : ℕ) × IsLineBetween lines levels from edge (level + 1) line × StartsAt lines line within)
    pub reached : (k : ℕ) → k < met → from < get_or levels (get_or order k 0) 0 → IsReach lines levels from edge (get_or levels (get_or order k 0) 0) (get_or reaches (get_or order k 0) 0)
    pub others : (b : ℕ) → get_or levels b 0 ≤ from → get_or reaches b 0 ≡ get_or old b 0

  pub walked_nil : (old : List ℕ) → IsWalked 0 from 8192 8192 old old
  walked_nil old = record {
    count = refl;
    starts = omega arith;
    ahead = λ k met l above. omega (arith, above);
    lesser = record { bound = λ line is d. absurd (omega (arith, is.behind, is.ahead)); some = inl refl };
    bound = λ k met above right d. absurd (omega arith);
    some = inl refl;
    reached = λ k met above. absurd (omega arith);
    others = λ b low. refl;
  }

  pub walked_skip : (met level before within : ℕ) (old reaches : List ℕ) → IsWalked met level before within old reaches → get_or levels (get_or order met 0) 0 ≤ from → IsWalked (met + 1) level before within old reaches
  walked_skip met level before within old reaches is under = record {
    count = is.count;
    starts = is.starts;
    ahead = λ k more l above. is.ahead k (omega arith) l above;
    lesser = is.lesser;
    bound = λ k less above right d. is.bound k (not_here k less above) above right d;
    some = is.some;
    reached = λ k less above. is.reached k (not_here k less above) above;
    others = is.others;
  }
    where
      not_here : (k : ℕ) → k < met + 1 → from < get_or levels (get_or order k 0) 0 → k < met
      not_here k less above =
          ⊎_elim (λ early. early)
          (λ late.
          let e : k ≡ met = omega arith in
          let P : ℕ → Type 0 = λ z. from < get_or levels (get_or order z 0) 0 in
          absurd (omega (arith, subst P e above, under)))
          (cases_lt k met)

  module _ (in_order : AreInOrder (length lines) levels order) where
    -- how far those at lesser levels than the next line reach
    next_reach : (met level before within : ℕ) (old reaches : List ℕ) → IsWalked met level before within old reaches → met < length order → from < get_or levels (get_or order met 0) 0
        → IsReach lines levels from edge (get_or levels (get_or order met 0) 0) (cond (ltb level (get_or levels (get_or order met 0) 0)) within before)
    next_reach met level before within old reaches is l above =
        let b = get_or order met 0 in
        let there = get_or levels b 0 in
        let P : ℕ → Type 0 = λ r. IsReach lines levels from edge there r in
        ⊎_elim
        (λ less. subst P (sym (cond-true (ltb level there) within before (lt-ltb level there less)))
        (record {
          bound = λ line between d.
              let p = in_order.all line between.low in
              let Q : ℕ → Type 0 = λ z. from < get_or levels z 0 in
              let R : ℕ → Type 0 = λ z. (d : Rect) → edge < (get_or lines z d).x1 in
              let S : ℕ → Type 0 = λ z. within ≤ (get_or lines z d).x0 in
              ⊎_elim
              (λ early. subst S p.2 (is.bound p.0 early (subst Q (sym p.2) between.behind) (subst R (sym p.2) between.right) d))
              (λ late.
              let T : ℕ → Type 0 = λ z. there ≤ get_or levels z 0 in
              absurd (omega (arith, subst T p.2 (in_order.rises met p.0 late p.1), between.ahead)))
              (cases_lt p.0 met);
          some = ⊎_elim
              (λ none. inl none)
              (λ r. inr (r.0, record { low = r.1.low; behind = r.1.behind; ahead = omega (arith, r.1.ahead, less); right = r.1.right }, r.2))
              is.some;
        }))
        (λ more.
        let e : level ≡ there = omega (arith, more, is.ahead met (omega arith) l above) in
        let Q : ℕ → Type 0 = λ z. IsReach lines levels from edge z before in
        subst P (sym (cond-false (ltb level there) within before (le-ltb level there more))) (subst Q e is.lesser))
        (cases_lt level there)

    pub walked_meet : (met level before within : ℕ) (old reaches : List ℕ) (line : Rect) (reach wider : ℕ) → IsWalked met level before within old reaches → met < length order → length old ≡ length lines → from < get_or levels (get_or order met 0) 0
        → ((d : Rect) → line ≡ get_or lines (get_or order met 0) d)
        → reach ≡ cond (ltb level (get_or levels (get_or order met 0) 0)) within before
        → wider ≡ cond (ltb edge line.x1) (min within line.x0) within
        → IsWalked (met + 1) (get_or levels (get_or order met 0) 0) reach wider old (set reaches (get_or order met 0) reach)
    walked_meet met level before within old reaches line reach wider is l size above line_is reach_is wider_is =
        let b = get_or order met 0 in
        let there = get_or levels b 0 in
        let b_low : b < length lines = in_order.low met 0 l in
        let P : ℕ → Type 0 = λ r. IsReach lines levels from edge there r in
        let found : IsReach lines levels from edge there reach = subst P (sym reach_is) (next_reach met level before within old reaches is l above) in
        let risen : level ≤ there = is.ahead met (omega arith) l above in
        record {
          count = length-set reaches b reach ∙ is.count;
          starts = omega (arith, above);
          ahead = λ k more k_in k_above. in_order.rises met k (omega arith) k_in;
          lesser = found;
          bound = λ k less k_above right d. ⊎_elim
              (λ early. omega (arith, is.bound k early k_above right d, grows))
              (λ late.
              let e : met ≡ k = omega arith in
              let Q : ℕ → Type 0 = λ z. edge < (get_or lines (get_or order z 0) d).x1 in
              let here : edge < line.x1 = let R : Rect → Type 0 = λ r. edge < r.x1 in subst R (sym (line_is d)) (subst Q (sym e) (right d)) in
              let S : Rect → Type 0 = λ r. wider ≤ r.x0 in
              let T : ℕ → Type 0 = λ z. wider ≤ (get_or lines (get_or order z 0) d).x0 in
              subst T e (subst S (line_is d) (omega (arith, wider_is, cond-true (ltb edge line.x1) (min within line.x0) within (lt-ltb edge line.x1 here)))))
              (cases_lt k met);
          some = widest risen b_low;
          reached = λ k less k_above.
              let c = get_or order k 0 in
              ⊎_elim
              (λ same.
              let Q : ℕ → Type 0 = λ z. IsReach lines levels from edge (get_or levels z 0) (get_or (set reaches b reach) z 0) in
              let at : reach ≡ get_or (set reaches b reach) b 0 = sym (get_or-set_same reaches b reach 0 (omega (arith, is.count, size, b_low))) in
              subst Q (sym same) (subst P at found))
              (λ ne.
              let early : k < met = ⊎_elim (λ h. h) (λ h. let e : k ≡ met = omega arith in absurd (ne (ap (λ z. get_or order z 0) e))) (cases_lt k met) in
              let at : get_or reaches c 0 ≡ get_or (set reaches b reach) c 0 = sym (get_or-set_other reaches b c reach 0 ne) in
              let Q : ℕ → Type 0 = λ z. IsReach lines levels from edge (get_or levels c 0) z in
              subst Q at (is.reached k early k_above))
              (cases_eq c b);
          others = λ c low.
              let ne : c ≢ b = λ e. let Q : ℕ → Type 0 = λ z. get_or levels z 0 ≤ from in absurd (omega (arith, subst Q e low, above)) in
              get_or-set_other reaches b c reach 0 ne ∙ is.others c low;
        }
      where
        grows : wider ≤ within
        grows = ⊎_elim
            (λ less. omega (arith, wider_is, cond-true (ltb edge line.x1) (min within line.x0) within (lt-ltb edge line.x1 less)))
            (λ more. omega (arith, wider_is, cond-false (ltb edge line.x1) (min within line.x0) within (le-ltb edge line.x1 more)))
            (cases_lt edge line.x1)

        before_some : level ≤ get_or levels (get_or order met 0) 0 → wider ≡ within → (wider ≡ 8192) ⊎ ((c : ℕ) × IsLineBetween lines levels from edge (get_or levels (get_or order met 0) 0 + 1) c × StartsAt lines c wider)
        before_some risen same =
            ⊎_elim
            (λ none. inl (same ∙ none))
            (λ r. inr (r.0, record { low = r.1.low; behind = r.1.behind; ahead = omega (arith, r.1.ahead, risen); right = r.1.right }, λ d. r.2 d ∙ sym same))
            is.some

        widest : level ≤ get_or levels (get_or order met 0) 0 → get_or order met 0 < length lines → (wider ≡ 8192) ⊎ ((c : ℕ) × IsLineBetween lines levels from edge (get_or levels (get_or order met 0) 0 + 1) c × StartsAt lines c wider)
        widest risen b_low =
            ⊎_elim
            (λ less.
            let e : wider ≡ min within line.x0 = wider_is ∙ cond-true (ltb edge line.x1) (min within line.x0) within (lt-ltb edge line.x1 less) in
            ⊎_elim
            (λ wide.
            let R : Rect → Type 0 = λ r. edge < r.x1 in
            inr (
              get_or order met 0,
              record { low = b_low; behind = above; ahead = omega arith; right = λ d. subst R (line_is d) less },
              λ d. let S : Rect → Type 0 = λ r. r.x0 ≡ wider in subst S (line_is d) (omega (arith, e, wide)),
            ))
            (λ narrow. before_some risen (omega (arith, e, narrow)))
            (cases_lt line.x0 within))
            (λ more. before_some risen (wider_is ∙ cond-false (ltb edge line.x1) (min within line.x0) within (le-ltb edge line.x1 more)))
            (cases_lt edge line.x1)

    pub walked_all : (level before within : ℕ) (old reaches : List ℕ) → IsWalked (length order) level before within old reaches → AreReaches lines levels from edge old reaches
    walked_all level before within old reaches is = record {
      count = is.count;
      reached = λ b low above.
          let p = in_order.all b low in
          let P : ℕ → Type 0 = λ z. from < get_or levels z 0 in
          let Q : ℕ → Type 0 = λ z. IsReach lines levels from edge (get_or levels z 0) (get_or reaches z 0) in
          subst Q p.2 (is.reached p.0 p.1 (subst P (sym p.2) above));
      others = is.others;
    }
