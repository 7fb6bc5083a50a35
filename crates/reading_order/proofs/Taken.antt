-- A number that was taken is on no cycle: what leads to it was taken before it.
use Rattle.std.proofs.Common.{◌≡◌, ℕ, ◌<◌, ◌≤◌, List, [], ◌∷◌, ◌++◌, length, get_or, take, eqb, arith, sym, ◌∙◌, subst, All}
use Rattle.std.proofs.lemmas.Bool.{eq-eqb, false≢true}
use Rattle.std.proofs.lemmas.List.{get_or_append_left, get_or-take, length-append, length-take-le}
use Rattle.std.proofs.lemmas.List.Elements.{All-head, All-tail}
use Rattle.std.proofs.lemmas.Map.Keys.{apart_from_distinct}
use Rattle.reading_order.specs.Cycles.{Leads, StartsNoCycle}
use Rattle.reading_order.specs.Fronts.{IsFront, IsGreedy}
use Rattle.reading_order.proofs.Members.{IsIn, place_of, in_at, distinct_whole}

module _ (before : ℕ → ℕ → Type 0) (limit : ℕ) (taken left : List ℕ) (front : IsFront before limit taken left) where
  -- what is before a number that was taken stands at an earlier place
  earlier_place : (x y j : ℕ) → x < limit → j < length taken → get_or taken j 0 ≡ y → before x y → (i : ℕ) × (i < j) × (get_or taken i 0 ≡ x)
  earlier_place x y j low j_in at h =
      let P : ℕ → Type 0 = λ z. before x z in
      let p = place_of x (take j taken) (front.settled x j low j_in (subst P (sym at) h)) in
      let size : length (take j taken) ≡ j = length-take-le j taken (omega arith) in
      let less : p.0 < j = omega (arith, p.1, size) in
      (p.0, less, sym (get_or-take j taken p.0 0 less) ∙ p.2)

  places_fall : (x : ℕ) (xs : List ℕ) (y j : ℕ) → x < limit → All (λ z. z < limit) xs → j < length taken → get_or taken j 0 ≡ y → Leads before x xs y → (i : ℕ) × (i < j) × (get_or taken i 0 ≡ x)
  places_fall x [] y j low below j_in at h = earlier_place x y j low j_in at h
  places_fall x (z ∷ zs) y j low below j_in at h =
      let r = places_fall z zs y j (All-head (λ w. w < limit) z zs below) (All-tail (λ w. w < limit) z zs below) j_in at h.1 in
      let s = earlier_place x z r.0 low (omega (arith, r.1, j_in)) r.2 h.0 in
      (s.0, omega (arith, s.1, r.1), s.2)

  starts_none : (x : ℕ) → IsIn x taken → StartsNoCycle before limit x
  starts_none x there [] is same = is.ring
  starts_none x there (y ∷ ys) is same =
      let p = place_of x taken there in
      let at : get_or taken p.0 0 ≡ y = p.2 ∙ sym same in
      let r = places_fall y ys y p.0 (All-head (λ w. w < limit) y ys is.within) (All-tail (λ w. w < limit) y ys is.within) p.1 at is.ring in
      let all = taken ++ left in
      let size : length taken ≤ length all = omega (arith, length-append taken left) in
      let first : get_or all r.0 0 ≡ y = get_or_append_left taken left 0 r.0 (omega (arith, r.1, p.1)) ∙ r.2 in
      let second : get_or all p.0 0 ≡ y = get_or_append_left taken left 0 p.0 p.1 ∙ at in
      let apart = apart_from_distinct eqb all r.0 p.0 0 (distinct_whole limit all front.whole) r.1 (omega (arith, p.1, size)) in
      false≢true (sym apart ∙ eq-eqb _ _ (first ∙ sym second))

pub taken_starts_none : (before : ℕ → ℕ → Type 0) (limit : ℕ) (taken : List ℕ) → IsGreedy before limit taken → (x : ℕ) → IsIn x taken → StartsNoCycle before limit x
taken_starts_none before limit taken greedy x there = starts_none before limit taken greedy.left greedy.front x there

-- what is before a number that was taken was taken too
pub taken_before : (before : ℕ → ℕ → Type 0) (limit : ℕ) (taken : List ℕ) → IsGreedy before limit taken → (x y : ℕ) → y < limit → IsIn x taken → before y x → IsIn y taken
taken_before before limit taken greedy x y low there h =
    let p = place_of x taken there in
    let r = earlier_place before limit taken greedy.left greedy.front y x p.0 low p.1 p.2 h in
    in_at y taken r.0 (omega (arith, r.1, p.1)) r.2
