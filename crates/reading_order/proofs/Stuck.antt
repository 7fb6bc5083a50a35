-- Where numbers are left and none of them is free, there is a cycle.
use Rattle.std.proofs.Common.{◌≡◌, ℕ, ◌<◌, List, [], ◌∷◌, ◌++◌, false, length, get_or, take, eqb, zero, suc, arith, refl, sym, ◌∙◌, subst, ◌⊎◌, inl, inr, ⊎_elim, All}
use Rattle.std.specs.List.{list_any, IsDistinct, AllByRecursion}
use Rattle.std.proofs.lemmas.Bool.{or_cases, or_parts, cases_Bool, eqb-true, eq-eqb, false≢true}
use Rattle.std.proofs.lemmas.List.{get_or_append_left, get_or_at, get_or-take, length-append, length-take}
use Rattle.std.proofs.lemmas.List.Elements.{All-head, All-cons, All-nil, All-take, All-get_or, All-weaker}
use Rattle.std.proofs.lemmas.Map.Keys.{apart_from_distinct, IsDistinct-from_apart, IsDistinct-cons}
use Rattle.std.proofs.lemmas.Map.Steps.{length-le_from_distinct_below}
use Rattle.reading_order.specs.Cycles.{Leads, IsCycle}
use Rattle.reading_order.specs.Fronts.{IsFront, IsTakenOrBlocked, IsGreedy}
use Rattle.reading_order.proofs.Members.{IsIn, IsOut, place_of, in_at, in_or_out, below_whole, distinct_whole, length_whole}

pub out_of_all : (u : ℕ) (xs : List ℕ) → IsOut u xs → AllByRecursion (λ y. eqb u y ≡ false) xs
out_of_all u [] h = tt
out_of_all u (x ∷ xs) h = let parts = or_parts (eqb u x) (list_any (eqb u) xs) h in (parts.0, out_of_all u xs parts.1)

pub distinct_take : (k : ℕ) (xs : List ℕ) → IsDistinct eqb xs → IsDistinct eqb (take k xs)
distinct_take k xs distinct =
    IsDistinct-from_apart eqb (take k xs)
    (λ i j d less l.
    let size : j < k = omega (arith, l, length-take k xs) in
    let within : j < length xs = omega (arith, l, length-take k xs) in
    let first : get_or (take k xs) i d ≡ get_or xs i d = get_or-take k xs i d (omega arith) in
    let second : get_or (take k xs) j d ≡ get_or xs j d = get_or-take k xs j d size in
    rw (first, second) (apart_from_distinct eqb xs i j d distinct less within))

module _ (before : ℕ → ℕ → Type 0) (limit : ℕ) where
  -- each is before the next
  abbrev Chain : ℕ → List ℕ → Type 0
  Chain x [] = Unit {0}
  Chain x (y ∷ ys) = before x y × Chain y ys

  SomeCycle : Type 0
  SomeCycle = (cycle : List ℕ) × IsCycle before limit cycle

  -- a chain that is cut behind one of its numbers leads to all that this number is before
  cut : (x : ℕ) (xs : List ℕ) (u : ℕ) → IsIn u (x ∷ xs) → Chain x xs → (k : ℕ) × ((y : ℕ) → before u y → Leads before x (take k xs) y)
  cut x [] u there chain =
      ⊎_elim
      (λ e. (0, λ y h. subst (λ w. before w y) (eqb-true u x e) h))
      (λ e. absurd (false≢true e))
      (or_cases (eqb u x) false there)
  cut x (z ∷ zs) u there chain =
      ⊎_elim
      (λ e. (0, λ y h. subst (λ w. before w y) (eqb-true u x e) h))
      (λ e. let r = cut z zs u e chain.1 in (suc r.0, λ y h. (chain.0, r.1 y h)))
      (or_cases (eqb u x) (list_any (eqb u) (z ∷ zs)) there)

  module _ (Left : ℕ → Type 0) (low : (x : ℕ) → Left x → x < limit) (held : (x : ℕ) → Left x → (y : ℕ) × Left y × before y x) where
    record IsTail (k x : ℕ) (xs : List ℕ) : Type 0 where
      count : length xs ≡ k
      chain : Chain x xs
      distinct : IsDistinct eqb (x ∷ xs)
      left : All Left (x ∷ xs)

    abbrev Found : ℕ → Type 0
    Found k = ((cycle : List ℕ) × IsCycle before limit cycle) ⊎ ((x : ℕ) × (xs : List ℕ) × IsTail k x xs)

    extend : (k x : ℕ) (xs : List ℕ) → IsTail k x xs → Found (suc k)
    extend k x xs tail =
        let h = held x (All-head Left x xs tail.left) in
        ⊎_elim
        (λ there.
        let r = cut x xs h.0 there tail.chain in
        inl (
          x ∷ take r.0 xs,
          record {
            ring = r.1 x h.2;
            distinct = distinct_take (suc r.0) (x ∷ xs) tail.distinct;
            within = All-take (λ y. y < limit) (suc r.0) (x ∷ xs) (All-weaker Left (λ y. y < limit) low (x ∷ xs) tail.left);
          },
        ))
        (λ out.
        inr (
          h.0,
          x ∷ xs,
          record {
            count = omega (arith, tail.count);
            chain = (h.2, tail.chain);
            distinct = IsDistinct-cons eqb h.0 (x ∷ xs) (out_of_all h.0 (x ∷ xs) out) tail.distinct;
            left = All-cons Left h.0 (x ∷ xs) h.1 tail.left;
          },
        ))
        (cases_Bool (list_any (eqb h.0) (x ∷ xs)))

    grow : (k x : ℕ) → Left x → Found k
    grow zero x here =
        inr (
          x,
          [],
          record {
            count = refl;
            chain = tt;
            distinct = IsDistinct-cons eqb x [] tt (IsDistinct-from_apart eqb [] (λ i j d less l. absurd (omega arith)));
            left = All-cons Left x [] here (All-nil Left);
          },
        )
    grow (suc k) x here =
        ⊎_elim (λ cycle. inl cycle) (λ r. extend k r.0 r.1 r.2) (grow k x here)

    cycle_from : (x : ℕ) → Left x → (cycle : List ℕ) × IsCycle before limit cycle
    cycle_from x here =
        ⊎_elim (λ cycle. cycle)
        (λ r.
        let tail = r.2 in
        let all = r.0 ∷ r.1 in
        let below : (q : ℕ) → IsIn q all → q < limit = λ q h. let p = place_of q all h in
        let l : get_or all p.0 0 < limit = low _ (All-get_or Left all p.0 0 p.1 tail.left) in
        omega (arith, l, p.2) in
        absurd (omega (arith, length-le_from_distinct_below all limit tail.distinct below, tail.count)))
        (grow limit x here)

  pub some_cycle : (taken : List ℕ) → IsGreedy before limit taken → length taken < limit → (cycle : List ℕ) × IsCycle before limit cycle
  some_cycle taken greedy few = left_over taken greedy.left greedy.front greedy.stuck few
    where
      left_over : (taken left : List ℕ) → IsFront before limit taken left → ((x : ℕ) → x < limit → IsTakenOrBlocked before limit taken x) → length taken < limit → (cycle : List ℕ) × IsCycle before limit cycle
      left_over taken [] front stuck few =
          absurd (omega (arith, few, length_whole limit (taken ++ []) front.whole, length-append taken []))
      left_over taken (z ∷ zs) front stuck few =
          let all = taken ++ z ∷ zs in
          let last : get_or all (length taken) 0 ≡ z = get_or_at taken z zs 0 (length taken) refl in
          let size : length taken < length all = omega (arith, length-append taken (z ∷ zs)) in
          let in_all : IsIn z all = in_at z all (length taken) size last in
          cycle_from (λ x. (x < limit) × IsOut x taken) (λ x h. h.0)
          (λ x h. ⊎_elim
          (λ there. absurd (in_or_out x taken there h.1))
          (λ blocked. (blocked.earlier, (blocked.low, blocked.out), blocked.is_before))
          (stuck x h.0))
          z (
            below_whole limit all front.whole z in_all,
            ⊎_elim
                (λ there.
                let p = place_of z taken there in
                let first : get_or all p.0 0 ≡ z = get_or_append_left taken (z ∷ zs) 0 p.0 p.1 ∙ p.2 in
                absurd (false≢true (sym (apart_from_distinct eqb all p.0 (length taken) 0 (distinct_whole limit all front.whole) p.1 size) ∙ eq-eqb _ _ (first ∙ sym last))))
                (λ out. out)
                (cases_Bool (list_any (eqb z) taken)),
          )
