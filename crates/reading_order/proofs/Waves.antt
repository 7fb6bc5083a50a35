-- The steps are found wave by wave.
use Rattle.std.proofs.Common.{◌≡◌, ◌≢◌, ℕ, ◌+◌, ◌-◌, ◌<◌, ◌≤◌, List, [], ◌∷◌, ◌++◌, Bool, true, false, length, get_or, set, replicate, eqb, zero, suc, arith, refl, sym, ◌∙◌, ap, subst, ◌⊎◌, inl, inr, ⊎_elim, All, Any}
use Rattle.std.specs.List.{list_any}
use Rattle.std.proofs.lemmas.Bool.{or_left, or_right, cases_lt, cases_eq, eq-eqb, false≢true}
use Rattle.std.proofs.lemmas.List.{get_or-set_same, get_or-set_other, get_or-replicate, length-set, length-replicate, length_push, get_or_append_left, append-nil, append_assoc}
use Rattle.std.proofs.lemmas.List.Elements.{All-cons, All-nil, All-push, All-weaker, All-get_or, All-append}
use Rattle.std.proofs.lemmas.List.Folds.{list_any-append}
use Rattle.std.proofs.lemmas.List.Quantifiers.{Any-push}
use Rattle.reading_order.specs.declared.table.Table.{Table}
use Rattle.reading_order.specs.Tables.{is_marked, Marks}
use Rattle.reading_order.specs.Steps.{AreSteps, HasNext}
use Rattle.reading_order.specs.Waves.{IsWave, IsReached, IsUnreached, ExtendsWave}
use Rattle.reading_order.proofs.Members.{IsIn, place_of}

-- the steps below a number of them were found, and the last wave has those that are one less
pub record AreFound (before : Table) (target step : ℕ) (wave steps : List ℕ) : Type 0 where
  pub count : length steps ≡ before.side
  pub at_target : get_or steps target 0 ≡ 0
  pub only_target : (x : ℕ) → x < before.side → get_or steps x 0 ≡ 0 → x ≡ target
  pub reached : (x : ℕ) → x < before.side → (get_or steps x 0 < step) ⊎ (get_or steps x 0 ≡ before.side)
  pub near : (x y : ℕ) → x < before.side → y < before.side → Marks before x y → get_or steps y 0 + 1 < step → get_or steps x 0 ≤ get_or steps y 0 + 1
  pub far : (x away : ℕ) → x < before.side → get_or steps x 0 ≡ suc away → suc away < before.side → HasNext (Marks before) before.side steps x away
  pub wave_low : All (λ y. y < before.side) wave
  pub wave_all : (y : ℕ) → y < before.side → get_or steps y 0 + 1 ≡ step → list_any (eqb y) wave ≡ true
  pub wave_only : All (λ y. get_or steps y 0 + 1 ≡ step) wave

in_push : (x : ℕ) (xs : List ℕ) (y : ℕ) → IsIn x xs → IsIn x (xs ++ y ∷ [])
in_push x xs y h = list_any-append (eqb x) xs (y ∷ []) ∙ or_left (list_any (eqb x) xs) (list_any (eqb x) (y ∷ [])) h

in_pushed : (xs : List ℕ) (y : ℕ) → IsIn y (xs ++ y ∷ [])
in_pushed xs y = list_any-append (eqb y) xs (y ∷ []) ∙ or_right (list_any (eqb y) xs) (list_any (eqb y) (y ∷ [])) (or_left (eqb y y) false (eq-eqb y y refl))

module _ (before : Table) (wave : List ℕ) (step : ℕ) (old : List ℕ) where
  pub wave_nil : IsWave before wave step old old [] 0
  wave_nil = record {
    count = refl;
    given = λ x less h. absurd (omega arith);
    kept = λ x less h. refl;
    later = λ x less. refl;
    low = All-nil (λ x. x < before.side);
    only = All-nil (λ x. get_or old x 0 ≡ step);
  }

  pub wave_skip : (new next : List ℕ) (k : ℕ) → IsWave before wave step old new next k → get_or new k 0 ≢ before.side → IsWave before wave step old new next (k + 1)
  wave_skip new next k is has = record {
    count = is.count;
    given = λ x less h. ⊎_elim
        (λ under. is.given x under h)
        (λ over. let here : x ≡ k = omega arith in
        let e : get_or new k 0 ≡ before.side = is.later k (omega arith) ∙ (let P : ℕ → Type 0 = λ z. get_or old z 0 ≡ before.side in subst P here h) in
        absurd (has e))
        (cases_lt x k);
    kept = λ x less h. ⊎_elim (λ under. is.kept x under h) (λ over. is.later x over) (cases_lt x k);
    later = λ x more. is.later x (omega arith);
    low = is.low;
    only = is.only;
  }

  pub wave_none : (new next : List ℕ) (k : ℕ) → IsWave before wave step old new next k → get_or new k 0 ≡ before.side → All (λ y. is_marked before k y ≡ false) wave → IsWave before wave step old new next (k + 1)
  wave_none new next k is blank none = record {
    count = is.count;
    given = λ x less h. ⊎_elim
        (λ under. is.given x under h)
        (λ over. let here : k ≡ x = omega arith in
        let P : ℕ → Type 0 = λ z. IsUnreached before wave new z in
        inr (subst P here (record { none = none; steps = blank })))
        (cases_lt x k);
    kept = λ x less h. ⊎_elim (λ under. is.kept x under h) (λ over. is.later x over) (cases_lt x k);
    later = λ x more. is.later x (omega arith);
    low = is.low;
    only = is.only;
  }

  pub wave_take : (new next : List ℕ) (k : ℕ) → length new ≡ before.side → k < before.side → IsWave before wave step old new next k → get_or new k 0 ≡ before.side → Any (λ y. Marks before k y) wave → IsWave before wave step old (set new k step) (next ++ k ∷ []) (k + 1)
  wave_take new next k size k_low is blank leads =
      let here : get_or (set new k step) k 0 ≡ step = get_or-set_same new k step 0 (omega (arith, size)) in
      let there : (x : ℕ) → x ≢ k → get_or (set new k step) x 0 ≡ get_or new x 0 = λ x ne. get_or-set_other new k x step 0 ne in
      record {
        count = length-set new k step ∙ is.count;
        given = λ x less h. ⊎_elim
            (λ under. let ne : x ≢ k = omega arith in
            ⊎_elim
            (λ r. inl (record { leads = r.leads; steps = there x ne ∙ r.steps; within = in_push x next k r.within }))
            (λ u. inr (record { none = u.none; steps = there x ne ∙ u.steps }))
            (is.given x under h))
            (λ over. let same : k ≡ x = omega arith in
            let P : ℕ → Type 0 = λ z. IsReached before wave step (set new k step) (next ++ k ∷ []) z in
            inl (subst P same (record { leads = leads; steps = here; within = in_pushed next k })))
            (cases_lt x k);
        kept = λ x less h. ⊎_elim
            (λ under. let ne : x ≢ k = omega arith in there x ne ∙ is.kept x under h)
            (λ over. let same : k ≡ x = omega arith in
            let e : get_or old x 0 ≡ before.side = let P : ℕ → Type 0 = λ z. get_or old z 0 ≡ before.side in subst P same (sym (is.later k (omega arith)) ∙ blank) in
            absurd (h e))
            (cases_lt x k);
        later = λ x more. let ne : x ≢ k = omega arith in there x ne ∙ is.later x (omega arith);
        low = All-push (λ x. x < before.side) next k is.low k_low;
        only = All-push (λ x. get_or (set new k step) x 0 ≡ step) next k
            (All-weaker (λ x. get_or new x 0 ≡ step) (λ x. get_or (set new k step) x 0 ≡ step)
            (λ x h. ⊎_elim (λ same. let P : ℕ → Type 0 = λ z. get_or (set new k step) z 0 ≡ step in subst P (sym same) here) (λ ne. there x ne ∙ h) (cases_eq x k))
            next is.only)
            here;
      }

-- The same, of the numbers before one number, in a wave that grows.
module _ (before : Table) (later step : ℕ) (old : List ℕ) (given : List ℕ) where
  pub extends_nil : ExtendsWave before later step old old given given 0
  extends_nil = record { added = []; gains = sym (append-nil given); is_wave = wave_nil before (later ∷ []) step old }

  pub extends_skip : (new next : List ℕ) (k : ℕ) → ExtendsWave before later step old new given next k → get_or new k 0 ≢ before.side → ExtendsWave before later step old new given next (k + 1)
  extends_skip new next k is has =
      record { added = is.added; gains = is.gains; is_wave = wave_skip before (later ∷ []) step old new is.added k is.is_wave has }

  pub extends_none : (new next : List ℕ) (k : ℕ) → ExtendsWave before later step old new given next k → get_or new k 0 ≡ before.side → is_marked before k later ≡ false → ExtendsWave before later step old new given next (k + 1)
  extends_none new next k is blank none =
      record {
        added = is.added;
        gains = is.gains;
        is_wave = wave_none before (later ∷ []) step old new is.added k is.is_wave blank
            (All-cons (λ y. is_marked before k y ≡ false) later [] none (All-nil (λ y. is_marked before k y ≡ false)));
      }

  pub extends_take : (new next : List ℕ) (k : ℕ) → length new ≡ before.side → k < before.side → ExtendsWave before later step old new given next k → get_or new k 0 ≡ before.side → Marks before k later → ExtendsWave before later step old (set new k step) given (next ++ k ∷ []) (k + 1)
  extends_take new next k size low is blank marks =
      record {
        added = is.added ++ k ∷ [];
        gains = ap (λ xs. xs ++ k ∷ []) is.gains ∙ append_assoc given is.added (k ∷ []);
        is_wave = wave_take before (later ∷ []) step old new is.added k size low is.is_wave blank (0, later, omega arith, refl, marks);
      }

-- Nothing is before an empty wave.
pub wave_of_none : (before : Table) (step : ℕ) (old : List ℕ) → IsWave before [] step old old [] before.side
wave_of_none before step old = record {
  count = refl;
  given = λ x less h. inr (record { none = All-nil (λ y. is_marked before x y ≡ false); steps = h });
  kept = λ x less h. refl;
  later = λ x less. refl;
  low = All-nil (λ x. x < before.side);
  only = All-nil (λ x. get_or old x 0 ≡ step);
}

any_of_first : (P : ℕ → Type 0) (xs : List ℕ) (y : ℕ) → Any P xs → Any P (xs ++ y ∷ [])
any_of_first P xs y (k, x, within, at, p) =
    (k, x, omega (arith, within, length_push xs y), get_or_append_left xs (y ∷ []) x k within ∙ at, p)

of_one : (P : ℕ → Type 0) (y : ℕ) → Any P (y ∷ []) → P y
of_one P y (zero, x, within, at, p) = subst P (sym at) p
of_one P y (suc k, x, within, at, p) = absurd (omega arith)

-- A wave and the numbers before one more number.
pub wave_join : (before : Table) (wave : List ℕ) (y step : ℕ) (old mid new next added : List ℕ) → step < before.side → IsWave before wave step old mid next before.side → IsWave before (y ∷ []) step mid new added before.side → IsWave before (wave ++ y ∷ []) step old new (next ++ added) before.side
wave_join before wave y step old mid new next added small first second = record {
  count = second.count ∙ first.count;
  given = λ x low blank. ⊎_elim
      (λ r. inl (record {
        leads = any_of_first (λ z. Marks before x z) wave y r.leads;
        steps = second.kept x low (has x r.steps) ∙ r.steps;
        within = list_any-append (eqb x) next added ∙ or_left (list_any (eqb x) next) (list_any (eqb x) added) r.within;
      }))
      (λ u. ⊎_elim
      (λ r. inl (record {
        leads = Any-push (λ z. Marks before x z) wave y (of_one (λ z. Marks before x z) y r.leads);
        steps = r.steps;
        within = list_any-append (eqb x) next added ∙ or_right (list_any (eqb x) next) (list_any (eqb x) added) r.within;
      }))
      (λ v. inr (record {
        none = All-append (λ z. is_marked before x z ≡ false) wave (y ∷ []) u.none v.none;
        steps = v.steps;
      }))
      (second.given x low u.steps))
      (first.given x low blank);
  kept = λ x low ne. let e = first.kept x low ne in second.kept x low (λ h. ne (sym e ∙ h)) ∙ e;
  later = λ x more. second.later x more ∙ first.later x more;
  low = All-append (λ x. x < before.side) next added first.low second.low;
  only = All-append (λ x. get_or new x 0 ≡ step) next added (stays next first.low first.only) second.only;
}
  where
    has : (x : ℕ) → get_or mid x 0 ≡ step → get_or mid x 0 ≢ before.side
    has x at blank = absurd (omega (arith, at, blank, small))

    stays : (xs : List ℕ) → All (λ x. x < before.side) xs → All (λ x. get_or mid x 0 ≡ step) xs → All (λ x. get_or new x 0 ≡ step) xs
    stays xs low at k d within = second.kept (get_or xs k d) (low k d within) (has (get_or xs k d) (at k d within)) ∙ at k d within

not_both : (b : Bool) → b ≡ true → b ≡ false → ⊥
not_both b on off = false≢true (sym off ∙ on)

module _ (before : Table) (target : ℕ) (target_low : target < before.side) where
  pub found_nil : AreFound before target 1 (target ∷ []) (set (replicate before.side before.side) target 0)
  found_nil =
      let blank = replicate before.side before.side in
      let size : length blank ≡ before.side = length-replicate before.side before.side in
      let here : get_or (set blank target 0) target 0 ≡ 0 = get_or-set_same blank target 0 0 (omega (arith, size)) in
      let there : (x : ℕ) → x < before.side → x ≢ target → get_or (set blank target 0) x 0 ≡ before.side =
      λ x low ne. get_or-set_other blank target x 0 0 ne ∙ get_or-replicate {A = ℕ} before.side x before.side 0 low in
      let only : (x : ℕ) → x < before.side → get_or (set blank target 0) x 0 < before.side → x ≡ target =
      λ x low less. ⊎_elim (λ same. same) (λ ne. absurd (omega (arith, there x low ne))) (cases_eq x target) in
      record {
        count = length-set blank target 0 ∙ size;
        at_target = here;
        only_target = λ x low h. only x low (omega (arith, h));
        reached = λ x low. ⊎_elim
            (λ same. let P : ℕ → Type 0 = λ z. get_or (set blank target 0) z 0 < 1 in inl (subst P (sym same) (omega (arith, here))))
            (λ ne. inr (there x low ne))
            (cases_eq x target);
        near = λ x y x_low y_low h less. absurd (omega (arith, less));
        far = λ x away low h less.
            let same = only x low (omega (arith, h)) in
            let e : get_or (set blank target 0) x 0 ≡ 0 = let P : ℕ → Type 0 = λ z. get_or (set blank target 0) z 0 ≡ 0 in subst P (sym same) here in
            absurd (omega (arith, e, h));
        wave_low = All-cons (λ y. y < before.side) target [] target_low (All-nil (λ y. y < before.side));
        wave_all = λ y low h. let same = only y low (omega (arith, h)) in or_left (eqb y target) false (eq-eqb y target same);
        wave_only = All-cons (λ y. get_or (set blank target 0) y 0 + 1 ≡ 1) target [] (omega (arith, here)) (All-nil (λ y. get_or (set blank target 0) y 0 + 1 ≡ 1));
      }

  module _ (step : ℕ) (low : step < before.side) (positive : 0 < step) (wave old new next : List ℕ) (are : AreFound before target step wave old) (is : IsWave before wave step old new next before.side) where
    -- one of the wave that a number is before
    in_wave : (x : ℕ) → Any (λ y. Marks before x y) wave → HasNext (Marks before) before.side old x (step - 1)
    in_wave x (k, y, within, at, marks) =
        let P : ℕ → Type 0 = λ z. z < before.side in
        let Q : ℕ → Type 0 = λ z. get_or old z 0 + 1 ≡ step in
        let y_low : y < before.side = subst P at (All-get_or P wave k y within are.wave_low) in
        let y_step : get_or old y 0 + 1 ≡ step = subst Q at (All-get_or Q wave k y within are.wave_only) in
        record { next = y; low = y_low; is_next = marks; is_away = omega (arith, y_step) }

    kept : (x : ℕ) → x < before.side → get_or old x 0 < before.side → get_or new x 0 ≡ get_or old x 0
    kept x x_low less = is.kept x x_low (omega arith)

    -- what has a lesser step had it before
    had : (x : ℕ) → x < before.side → get_or new x 0 < step → get_or new x 0 ≡ get_or old x 0
    had x x_low less =
        ⊎_elim
        (λ blank. ⊎_elim (λ r. absurd (omega (arith, r.steps))) (λ u. absurd (omega (arith, u.steps))) (is.given x x_low blank))
        (λ has. is.kept x x_low has)
        (cases_eq (get_or old x 0) before.side)

    near_next : (x y : ℕ) → x < before.side → y < before.side → Marks before x y → get_or new y 0 + 1 < step + 1 → get_or new x 0 ≤ get_or new y 0 + 1
    near_next x y x_low y_low marks less =
        let y_had = had y y_low (omega arith) in
        ⊎_elim
        (λ blank. ⊎_elim
        (λ r. ⊎_elim
        (λ early. absurd (omega (arith, are.near x y x_low y_low marks (omega (arith, early, y_had)), blank, early, y_had, low)))
        (λ at. omega (arith, r.steps, at))
        (cases_lt (get_or new y 0 + 1) step))
        (λ u. ⊎_elim
        (λ early. absurd (omega (arith, are.near x y x_low y_low marks (omega (arith, early, y_had)), blank, early, y_had, low)))
        (λ at.
        let p = place_of y wave (are.wave_all y y_low (omega (arith, at, less, y_had))) in
        let P : ℕ → Type 0 = λ z. is_marked before x z ≡ false in
        absurd (not_both (is_marked before x y) marks (subst P p.2 (All-get_or P wave p.0 0 p.1 u.none))))
        (cases_lt (get_or new y 0 + 1) step))
        (is.given x x_low blank))
        (λ has.
        let x_kept = is.kept x x_low has in
        ⊎_elim
        (λ early. omega (arith, are.near x y x_low y_low marks (omega (arith, early, y_had)), x_kept, y_had))
        (λ at. ⊎_elim (λ found. omega (arith, x_kept, found, at)) (λ blank. absurd (has blank)) (are.reached x x_low))
        (cases_lt (get_or new y 0 + 1) step))
        (cases_eq (get_or old x 0) before.side)

    far_next : (x away : ℕ) → x < before.side → get_or new x 0 ≡ suc away → suc away < before.side → HasNext (Marks before) before.side new x away
    far_next x away x_low h less =
        ⊎_elim
        (λ blank. ⊎_elim
        (λ r. let n = in_wave x r.leads in
        record { next = n.next; low = n.low; is_next = n.is_next; is_away = kept n.next n.low (omega (arith, n.is_away, low)) ∙ n.is_away ∙ omega (arith, r.steps, h) })
        (λ u. absurd (omega (arith, u.steps, h, less)))
        (is.given x x_low blank))
        (λ has.
        let n = are.far x away x_low (sym (is.kept x x_low has) ∙ h) less in
        record { next = n.next; low = n.low; is_next = n.is_next; is_away = kept n.next n.low (omega (arith, n.is_away, less)) ∙ n.is_away })
        (cases_eq (get_or old x 0) before.side)

    wave_next : (y : ℕ) → y < before.side → get_or new y 0 + 1 ≡ step + 1 → IsIn y next
    wave_next y y_low h =
        ⊎_elim
        (λ blank. ⊎_elim (λ r. r.within) (λ u. absurd (omega (arith, u.steps, h, low))) (is.given y y_low blank))
        (λ has. ⊎_elim (λ found. absurd (omega (arith, is.kept y y_low has, found, h))) (λ blank. absurd (has blank)) (are.reached y y_low))
        (cases_eq (get_or old y 0) before.side)

    pub found_next : AreFound before target (step + 1) next new
    found_next = record {
      count = is.count ∙ are.count;
      at_target = kept target target_low (omega (arith, are.at_target, target_low)) ∙ are.at_target;
      only_target = λ x x_low h. are.only_target x x_low (sym (had x x_low (omega (arith, h, positive))) ∙ h);
      reached = λ x x_low. ⊎_elim
          (λ blank. ⊎_elim (λ r. inl (omega (arith, r.steps))) (λ u. inr u.steps) (is.given x x_low blank))
          (λ has. ⊎_elim (λ found. inl (omega (arith, found, is.kept x x_low has))) (λ blank. absurd (has blank)) (are.reached x x_low))
          (cases_eq (get_or old x 0) before.side);
      near = near_next;
      far = far_next;
      wave_low = is.low;
      wave_all = wave_next;
      wave_only = All-weaker (λ x. get_or new x 0 ≡ step) (λ x. get_or new x 0 + 1 ≡ step + 1) (λ x h. omega (arith, h)) next is.only;
    }

  pub found_all : (step : ℕ) (wave steps : List ℕ) → step ≤ before.side → AreFound before target step wave steps → (step ≡ before.side) ⊎ (length wave ≡ 0) → AreSteps (Marks before) before.side target steps
  found_all step wave steps most are end = record {
    count = are.count;
    at_target = are.at_target;
    only_target = are.only_target;
    near = near_all;
    far = are.far;
  }
    where
      bound : (x : ℕ) → x < before.side → get_or steps x 0 ≤ before.side
      bound x x_low = ⊎_elim (λ found. omega (arith, found, most)) (λ blank. omega (arith, blank)) (are.reached x x_low)

      near_all : (x y : ℕ) → x < before.side → y < before.side → Marks before x y → get_or steps x 0 ≤ get_or steps y 0 + 1
      near_all x y x_low y_low marks =
          ⊎_elim
          (λ found. ⊎_elim
          (λ early. are.near x y x_low y_low marks early)
          (λ at. ⊎_elim
          (λ full. omega (arith, bound x x_low, full, at))
          (λ none. let p = place_of y wave (are.wave_all y y_low (omega (arith, at, found))) in absurd (omega (arith, p.1, none)))
          end)
          (cases_lt (get_or steps y 0 + 1) step))
          (λ blank. omega (arith, bound x x_low, blank))
          (are.reached y y_low)
