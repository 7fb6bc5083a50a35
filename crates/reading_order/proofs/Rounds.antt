-- The least rectangle round the lines of an area.
use Rattle.std.proofs.Common.{◌≡◌, ℕ, ◌+◌, ◌-◌, ◌<◌, ◌≤◌, List, length, get_or, arith, sym, subst, ⊎_elim, All}
use Rattle.std.specs.List.{range_with_len}
use Rattle.std.specs.List.Sorted.{IsPermutation}
use Rattle.std.proofs.lemmas.List.Sorted.{All-permutation}
use Rattle.std.proofs.lemmas.List.FromFn.{get_or-range_with_len, length-range_with_len}
use Rattle.std.proofs.lemmas.Bool.{cases_lt}
use Rattle.layout_geom.specs.declared.rect.Rect.{Rect}
use Rattle.layout_geom.specs.declared.area.Area.{Area}
use Rattle.layout_geom.specs.Rectangles.{Encloses, IsHull}
use Rattle.reading_order.specs.Areas.{GoesOn, GoesOnAt, line_at, IsLeastRound, IsArea}

hull_encloses : (r s h t : Rect) → IsHull r s h → Encloses r t → Encloses h t
hull_encloses r s h t is in_r = record {
  left = omega (arith, is.left, in_r.left);
  top = omega (arith, is.top, in_r.top);
  right = omega (arith, is.right, in_r.right);
  bottom = omega (arith, is.bottom, in_r.bottom);
}

hull_encloses_second : (r s h : Rect) → IsHull r s h → Encloses h s
hull_encloses_second r s h is = record { left = omega (arith, is.left); top = omega (arith, is.top); right = omega (arith, is.right); bottom = omega (arith, is.bottom) }

hull_least : (r s h other : Rect) → IsHull r s h → Encloses other r → Encloses other s → Encloses other h
hull_least r s h other is first second = record {
  left = omega (arith, is.left, first.left, second.left);
  top = omega (arith, is.top, first.top, second.top);
  right = omega (arith, is.right, first.right, second.right);
  bottom = omega (arith, is.bottom, first.bottom, second.bottom);
}

module _ (lines : List Rect) (listing : List ℕ) (from : ℕ) where
  pub round_one : (r : Rect) → ((d : Rect) → r ≡ line_at lines listing from d) → IsLeastRound lines listing from (from + 1) r
  round_one r is = record {
    round = λ k d low high.
        let e : from ≡ k = omega (arith, low, high) in
        let P : ℕ → Type 0 = λ z. Encloses r (line_at lines listing z d) in
        let Q : Rect → Type 0 = λ w. Encloses r w in
        let itself : Encloses r r = record { left = omega arith; top = omega arith; right = omega arith; bottom = omega arith } in
        subst P e (subst Q (is d) itself);
    least = λ other h. let Q : Rect → Type 0 = λ w. Encloses other w in subst Q (sym (is r)) (h from r (omega arith) (omega arith));
  }

  pub round_more : (last : ℕ) (r next h : Rect) → from ≤ last → IsLeastRound lines listing from last r → ((d : Rect) → next ≡ line_at lines listing last d) → IsHull r next h → IsLeastRound lines listing from (last + 1) h
  round_more last r next h some round is hull = record {
    round = λ k d low high. ⊎_elim
        (λ under. hull_encloses r next h (line_at lines listing k d) hull (round.round k d low under))
        (λ over.
        let e : last ≡ k = omega (arith, over, high) in
        let P : ℕ → Type 0 = λ z. Encloses h (line_at lines listing z d) in
        let Q : Rect → Type 0 = λ w. Encloses h w in
        subst P e (subst Q (is d) (hull_encloses_second r next h hull)))
        (cases_lt k last);
    least = λ other all.
        let Q : Rect → Type 0 = λ w. Encloses other w in
        hull_least r next h other hull
        (round.least other (λ k d low high. all k d low (omega (arith, high))))
        (subst Q (sym (is next)) (all last next some (omega arith)));
  }

  pub area_done : (reach position : ℕ) (area : Area) → area.first ≡ from → area.count ≡ position - from → from < position → position ≤ length listing → IsLeastRound lines listing from position area.bbox
      → ((k : ℕ) → from ≤ k → k + 1 < position → GoesOnAt lines listing reach k) → (position < length listing → GoesOnAt lines listing reach (position - 1) → ⊥) → IsArea lines listing reach from area
  area_done reach position area first count some fits round whole cut =
      let e : position ≡ from + area.count = omega (arith, count, some) in
      record {
        starts = first;
        some = omega (arith, count, some);
        fits = omega (arith, e, fits);
        whole = λ k low high. whole k low (omega (arith, e, high));
        cut = λ more goes. let P : ℕ → Type 0 = λ z. GoesOnAt lines listing reach (z - 1) in
            cut (omega (arith, e, more)) (subst P (sym e) goes);
        round = let P : ℕ → Type 0 = λ z. IsLeastRound lines listing from z area.bbox in subst P e round;
      }

  -- the lines at a position and before it
  pub not_on : (reach position : ℕ) (line next : Rect) → 0 < position → ((d : Rect) → line ≡ line_at lines listing (position - 1) d) → ((d : Rect) → next ≡ line_at lines listing position d) → (GoesOn reach line next → ⊥) → GoesOnAt lines listing reach (position - 1) → ⊥
  not_on reach position line next some line_is next_is stops goes =
      let e : position - 1 + 1 ≡ position = omega (arith, some) in
      let P : ℕ → Type 0 = λ z. GoesOn reach (line_at lines listing (position - 1) line) (line_at lines listing z line) in
      let Q : Rect → Type 0 = λ w. GoesOn reach w (line_at lines listing position line) in
      let R : Rect → Type 0 = λ w. GoesOn reach line w in
      stops (subst R (sym (next_is line)) (subst Q (sym (line_is line)) (subst P e (goes line))))

  pub on_more : (reach position : ℕ) (line next : Rect) → 0 < position → ((d : Rect) → line ≡ line_at lines listing (position - 1) d) → ((d : Rect) → next ≡ line_at lines listing position d) → GoesOn reach line next
      → ((k : ℕ) → from ≤ k → k + 1 < position → GoesOnAt lines listing reach k) → (k : ℕ) → from ≤ k → k + 1 < position + 1 → GoesOnAt lines listing reach k
  on_more reach position line next some line_is next_is goes whole k low high d =
      ⊎_elim
      (λ under. whole k low under d)
      (λ over.
      let k_is : position - 1 ≡ k = omega (arith, over, high) in
      let next_place : position ≡ k + 1 = omega (arith, over, high) in
      let P : ℕ → Type 0 = λ z. GoesOn reach (line_at lines listing z d) (line_at lines listing (k + 1) d) in
      let Q : ℕ → Type 0 = λ z. GoesOn reach (line_at lines listing (position - 1) d) (line_at lines listing z d) in
      let R : Rect → Type 0 = λ w. GoesOn reach w (line_at lines listing position d) in
      let S : Rect → Type 0 = λ w. GoesOn reach line w in
      subst P k_is (subst Q next_place (subst R (line_is d) (subst S (next_is d) goes))))
      (cases_lt (k + 1) position)

pub page_encloses : (lines : List Rect) (listing : List ℕ) (page : Rect) → All (Encloses page) lines → All (λ k. k < length lines) listing → (k : ℕ) (d : Rect) → k < length listing → Encloses page (line_at lines listing k d)
page_encloses lines listing page all low k d within = all (get_or listing k 0) d (low k 0 within)

pub listing_low : (n : ℕ) (listing : List ℕ) → IsPermutation (range_with_len 0 n) listing → All (λ k. k < n) listing
listing_low n listing whole =
    All-permutation (λ k. k < n) (range_with_len 0 n) listing whole
    (λ k d within. omega (arith, within, length-range_with_len 0 n, get_or-range_with_len 0 n k d (omega (arith, within, length-range_with_len 0 n))))
