-- What leaves the same white space: the joint of two rectangles in place of one of them, an order, an exchange of columns and rows.
use Rattle.std.proofs.Common.{◌≡◌, ℕ, ◌+◌, ◌-◌, ◌<◌, ◌↔◌, List, [], ◌∷◌, ◌++◌, length, get_or, set, Contains, arith, sym, subst, ⊎_elim, refl, get_or-set_same, get_or-set_other, length-append, length-set, take}
use Rattle.std.specs.List.{AllZip}
use Rattle.std.specs.List.Sorted.{IsPermutation}
use Rattle.std.proofs.Math.ListN.{get_or-append}
use Rattle.std.proofs.Math.Nat.{mul_comm}
use Rattle.std.proofs.lemmas.Bool.{cases_lt}
use Rattle.std.proofs.lemmas.List.{take_more}
use Rattle.std.proofs.lemmas.List.Elements.{at_read, All-nil, All-cons, All-head, All-tail, All-append, All-push, All-set, All-contains}
use Rattle.std.proofs.lemmas.List.Sorted.{All-permutation, IsPermutation-sym}
use Rattle.layout_geom.specs.declared.rect.Rect.{Rect}
use Rattle.layout_geom.specs.Rectangles.{Overlaps, Encloses, IsClear}
use Rattle.whitespace_cover.specs.Admissible.{IsRoomy, IsAdmissible, IsFull, IsBestRect}
use Rattle.whitespace_cover.specs.Bars.{IsJoint, Blocks, LeaveSame, IsTurned}

-- what is clear of two lists is clear of each
front_clear : (r : Rect) (xs ys : List Rect) → IsClear r (xs ++ ys) → IsClear r xs
front_clear r xs ys clear = λ k d within.
    subst (λ (q : Rect). Overlaps r q → ⊥) (get_or-append xs ys d k within) (clear k d (omega (arith, length-append xs ys)))

back_clear : (r : Rect) (xs ys : List Rect) → IsClear r (xs ++ ys) → IsClear r ys
back_clear r [] ys clear = clear
back_clear r (x ∷ xs) ys clear = back_clear r xs ys (All-tail (λ box. Overlaps r box → ⊥) x (xs ++ ys) clear)

pub both_clear : (r : Rect) (xs ys : List Rect) → IsClear r xs → IsClear r ys → IsClear r (xs ++ ys)
both_clear r xs ys = All-append (λ box. Overlaps r box → ⊥) xs ys

one_clear : (r x : Rect) → IsClear r (x ∷ []) → Overlaps r x → ⊥
one_clear r x clear = All-head (λ box. Overlaps r box → ⊥) x [] clear

-- what overlaps a part overlaps the whole
pub overlaps_outer : (r outer inner : Rect) → Encloses outer inner → Overlaps r inner → Overlaps r outer
overlaps_outer r outer inner round meets = record {
  left = omega (arith, meets.left, round.right);
  right = omega (arith, meets.right, round.left);
  top = omega (arith, meets.top, round.bottom);
  bottom = omega (arith, meets.bottom, round.top);
}

-- a rectangle in a joint that is among the others changes nothing
pub inside_joint : (bars : List Rect) (joint rect : Rect) → Contains bars joint → Encloses joint rect → (r : Rect) → IsClear r bars ↔ IsClear r (bars ++ rect ∷ [])
inside_joint bars joint rect there round r = (
  λ clear. All-push (λ box. Overlaps r box → ⊥) bars rect clear
      (λ meets. All-contains (λ box. Overlaps r box → ⊥) bars joint clear there (overlaps_outer r joint rect round meets)),
  λ clear. front_clear r bars (rect ∷ []) clear,
)

pub contains_set : (xs : List Rect) (i : ℕ) (x : Rect) → i < length xs → Contains (set xs i x) x
contains_set xs i x within = (i, omega (arith, length-set xs i x), get_or-set_same xs i x x within)

module _ (least : ℕ) where
  pub same_itself : (xs : List Rect) → LeaveSame least xs xs
  same_itself xs = record { there = λ r roomy clear. clear; back = λ r roomy clear. clear }

  pub same_chain : (xs ys zs : List Rect) → LeaveSame least xs ys → LeaveSame least ys zs → LeaveSame least xs zs
  same_chain xs ys zs first second = record {
    there = λ r roomy clear. second.there r roomy (first.there r roomy clear);
    back = λ r roomy clear. first.back r roomy (second.back r roomy clear);
  }

  pub same_append : (xs ys zs : List Rect) → LeaveSame least xs ys → LeaveSame least (xs ++ zs) (ys ++ zs)
  same_append xs ys zs same = record {
    there = λ r roomy clear. both_clear r ys zs (same.there r roomy (front_clear r xs zs clear)) (back_clear r xs zs clear);
    back = λ r roomy clear. both_clear r xs zs (same.back r roomy (front_clear r ys zs clear)) (back_clear r ys zs clear);
  }

  pub same_order : (xs ys : List Rect) → IsPermutation xs ys → LeaveSame least xs ys
  same_order xs ys moved = record {
    there = λ r roomy clear. All-permutation (λ box. Overlaps r box → ⊥) xs ys moved clear;
    back = λ r roomy clear. All-permutation (λ box. Overlaps r box → ⊥) ys xs (IsPermutation-sym xs ys moved) clear;
  }

  -- one more
  pub same_more : (items : List Rect) (i : ℕ) (rect : Rect) (bars more : List Rect) → i < length items → rect ≡ get_or items i rect → LeaveSame least bars (take i items) → LeaveSame least more (bars ++ rect ∷ []) → LeaveSame least more (take (i + 1) items)
  same_more items i rect bars more within is so_far one =
      rw (take_more items i rect within, ← is)
      (same_chain more (bars ++ rect ∷ []) (take i items ++ rect ∷ []) one (same_append bars (take i items) (rect ∷ []) so_far))

  other_place : (bars : List Rect) (i : ℕ) (joint d : Rect) (r : Rect) (k : ℕ) → (k ≡ i → ⊥) → (Overlaps r (get_or (set bars i joint) k d) → ⊥) → Overlaps r (get_or bars k d) → ⊥
  other_place bars i joint d r k other apart = subst (λ (q : Rect). Overlaps r q → ⊥) (get_or-set_other bars i k joint d other) apart

  -- a joint in the place of its bar, with the bar and the next behind
  pub joint_set : (bars : List Rect) (i : ℕ) (bar next joint : Rect) → i < length bars → bar ≡ get_or bars i bar → IsJoint least bar next joint → LeaveSame least ((set bars i joint ++ bar ∷ []) ++ next ∷ []) (bars ++ next ∷ [])
  joint_set bars i bar next joint within is joins = record {
    there = λ r roomy clear.
        let front : IsClear r (set bars i joint ++ bar ∷ []) = front_clear r (set bars i joint ++ bar ∷ []) (next ∷ []) clear in
        let others : IsClear r (set bars i joint) = front_clear r (set bars i joint) (bar ∷ []) front in
        let apart : Overlaps r bar → ⊥ = one_clear r bar (back_clear r (set bars i joint) (bar ∷ []) front) in
        both_clear r bars (next ∷ [])
        (λ k d inside.
        ⊎_elim
        (λ before. other_place bars i joint d r k (λ same. omega (arith, same, before)) (others k d (omega (arith, length-set bars i joint))))
        (λ rest.
        ⊎_elim
        (λ behind. other_place bars i joint d r k (λ same. omega (arith, same, behind)) (others k d (omega (arith, length-set bars i joint))))
        (λ back.
        let here : k ≡ i = omega (arith, rest, back) in
        λ meets. at_read bars (λ o. Overlaps r o → ⊥) i bar within is apart d (subst (λ (j : ℕ). Overlaps r (get_or bars j d)) here meets))
        (cases_lt i k))
        (cases_lt k i))
        (back_clear r (set bars i joint ++ bar ∷ []) (next ∷ []) clear);
    back = λ r roomy clear.
        let others : IsClear r bars = front_clear r bars (next ∷ []) clear in
        let last : IsClear r (next ∷ []) = back_clear r bars (next ∷ []) clear in
        let apart : Overlaps r bar → ⊥ = subst (λ (q : Rect). Overlaps r q → ⊥) (sym is) (others i bar within) in
        both_clear r (set bars i joint ++ bar ∷ []) (next ∷ [])
        (both_clear r (set bars i joint) (bar ∷ [])
        (All-set (λ box. Overlaps r box → ⊥) bars i joint (λ meets. ⊎_elim apart (one_clear r next last) (joins r roomy meets)) others)
        (All-cons (λ box. Overlaps r box → ⊥) bar [] apart (All-nil (λ box. Overlaps r box → ⊥))))
        last;
  }

  -- after the bar and the next were put where they stand out
  pub joint_taken : (bars : List Rect) (i : ℕ) (bar next joint : Rect) (two three : List Rect) → i < length bars → bar ≡ get_or bars i bar → IsJoint least bar next joint → ((r : Rect) → IsClear r two ↔ IsClear r (set bars i joint ++ bar ∷ [])) → ((r : Rect) → IsClear r three ↔ IsClear r (two ++ next ∷ [])) → LeaveSame least three (bars ++ next ∷ [])
  joint_taken bars i bar next joint two three within is joins first second =
      let bared : LeaveSame least two (set bars i joint ++ bar ∷ []) = record { there = λ r roomy clear. (first r).0 clear; back = λ r roomy clear. (first r).1 clear } in
      let ended : LeaveSame least three (two ++ next ∷ []) = record { there = λ r roomy clear. (second r).0 clear; back = λ r roomy clear. (second r).1 clear } in
      same_chain three (two ++ next ∷ []) (bars ++ next ∷ []) ended
      (same_chain (two ++ next ∷ []) ((set bars i joint ++ bar ∷ []) ++ next ∷ []) (bars ++ next ∷ [])
      (same_append two (set bars i joint ++ bar ∷ []) (next ∷ []) bared) (joint_set bars i bar next joint within is joins))

-- each rectangle has one with its columns and rows exchanged
pub turned_of : (r : Rect) → (turned : Rect) × IsTurned r turned
turned_of r = (
  record {
    x0 = r.y0;
    y0 = r.x0;
    x1 = r.y1;
    y1 = r.x1;
    sides = record {
      wide = r.sides.high;
      high = r.sides.wide;
      right = r.sides.bottom;
      bottom = r.sides.right;
      small = rw (mul_comm (r.y1 - r.y0) (r.x1 - r.x0)) r.sides.small;
    };
  },
  record { left = refl; top = refl; right = refl; bottom = refl },
)

turned_back : (r s : Rect) → IsTurned r s → IsTurned s r
turned_back r s is = record { left = sym is.top; top = sym is.left; right = sym is.bottom; bottom = sym is.right }

pub all_back : (xs ys : List Rect) → AllZip IsTurned xs ys → AllZip IsTurned ys xs
all_back [] [] all = tt
all_back [] (y ∷ ys) all = absurd all
all_back (x ∷ xs) [] all = absurd all
all_back (x ∷ xs) (y ∷ ys) all = (turned_back x y all.0, all_back xs ys all.1)

turned_meets : (r s x y : Rect) → IsTurned r s → IsTurned x y → Overlaps s y → Overlaps r x
turned_meets r s x y one two meets = record {
  left = omega (arith, meets.top, one.top, two.bottom);
  right = omega (arith, meets.bottom, one.bottom, two.top);
  top = omega (arith, meets.left, one.left, two.right);
  bottom = omega (arith, meets.right, one.right, two.left);
}

turned_clear : (r s : Rect) → IsTurned r s → (xs ys : List Rect) → AllZip IsTurned xs ys → IsClear r xs → IsClear s ys
turned_clear r s is [] [] all clear = All-nil (λ box. Overlaps s box → ⊥)
turned_clear r s is [] (y ∷ ys) all clear = absurd all
turned_clear r s is (x ∷ xs) [] all clear = absurd all
turned_clear r s is (x ∷ xs) (y ∷ ys) all clear =
    All-cons (λ box. Overlaps s box → ⊥) y ys
    (λ meets. All-head (λ box. Overlaps r box → ⊥) x xs clear (turned_meets r s x y is all.0 meets))
    (turned_clear r s is xs ys all.1 (All-tail (λ box. Overlaps r box → ⊥) x xs clear))

turned_roomy : (least : ℕ) (r s : Rect) → IsTurned r s → IsRoomy least r → IsRoomy least s
turned_roomy least r s is roomy = record {
  wide = omega (arith, roomy.high, is.left, is.right);
  high = omega (arith, roomy.wide, is.top, is.bottom);
}

turned_blocks : (least : ℕ) (xs ys us vs : List Rect) → AllZip IsTurned xs us → AllZip IsTurned ys vs → Blocks least xs ys → Blocks least us vs
turned_blocks least xs ys us vs first second blocks r roomy clear =
    let (s, is) : (turned : Rect) × IsTurned r turned = turned_of r in
    turned_clear s r (turned_back r s is) ys vs second
    (blocks s (turned_roomy least r s is roomy) (turned_clear r s is us xs (all_back xs us first) clear))

-- lists with columns and rows exchanged leave the same white space where the others do
pub same_turned : (least : ℕ) (xs ys us vs : List Rect) → AllZip IsTurned xs us → AllZip IsTurned ys vs → LeaveSame least xs ys → LeaveSame least us vs
same_turned least xs ys us vs first second same = record {
  there = turned_blocks least xs ys us vs first second same.there;
  back = turned_blocks least ys xs vs us second first same.back;
}

module _ (page : Rect) (bars boxes rects : List Rect) (least : ℕ) (same : LeaveSame least bars boxes) where
  -- the same rectangles are admissible behind the bars as behind the boxes
  to_boxes : (r : Rect) → IsAdmissible page (bars ++ rects) least r → IsAdmissible page (boxes ++ rects) least r
  to_boxes r admissible = record {
    inside = admissible.inside;
    clear = (same_append least bars boxes rects same).there r admissible.roomy admissible.clear;
    roomy = admissible.roomy;
  }

  to_bars : (r : Rect) → IsAdmissible page (boxes ++ rects) least r → IsAdmissible page (bars ++ rects) least r
  to_bars r admissible = record {
    inside = admissible.inside;
    clear = (same_append least bars boxes rects same).back r admissible.roomy admissible.clear;
    roomy = admissible.roomy;
  }

  -- so none is there behind both, or the same is the best
  pub full_of_boxes : IsFull page (bars ++ rects) least → IsFull page (boxes ++ rects) least
  full_of_boxes full r admissible = full r (to_bars r admissible)

  pub best_of_boxes : (r : Rect) → IsBestRect page (bars ++ rects) least r → IsBestRect page (boxes ++ rects) least r
  best_of_boxes r best = record {
    admissible = to_boxes r best.admissible;
    greatest = λ other admissible. best.greatest other (to_bars other admissible);
  }
