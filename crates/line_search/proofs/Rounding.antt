-- The members of a line, and the least rectangle round them.
use Rattle.std.proofs.Common.{◌≡◌, ℕ, zero, suc, ◌+◌, ◌<◌, min, max, arith, refl, sym, ◌∙◌, ap, subst, List, [], ◌∷◌, ◌++◌, length, take, get_or, append-nil, Option, Some, slice_get, Bool, true, false, not, All, IfSome}
use Rattle.std.proofs.lemmas.List.Elements.{filter_more, filter-append, All-get_or, All-more, All-weaker, All-nil, All-cons, All-head, All-tail}
use Rattle.std.proofs.lemmas.Option.{IfSome_then}
use Rattle.std.specs.List.{filter, range_with_len}
use Rattle.layout_geom.specs.declared.rect.Rect.{Rect}
use Rattle.layout_geom.specs.Rectangles.{Encloses, HasSides}
use Rattle.line_search.specs.Lines.{IsRound}

pub not_true : (b : Bool) → b ≡ true → not b ≡ false
not_true b e = rw e refl

pub not_false : (b : Bool) → b ≡ false → not b ≡ true
not_false b e = rw e refl

pub kept_yes : (p : ℕ → Bool) (xs : List ℕ) (i : ℕ) → i < length xs → p (get_or xs i 0) ≡ true → filter p (take (i + 1) xs) ≡ filter p (take i xs) ++ get_or xs i 0 ∷ []
kept_yes p xs i within passes = filter_more p xs i 0 within ∙ rw passes refl

pub kept_no : (p : ℕ → Bool) (xs : List ℕ) (i : ℕ) → i < length xs → p (get_or xs i 0) ≡ false → filter p (take (i + 1) xs) ≡ filter p (take i xs)
kept_no p xs i within fails = filter_more p xs i 0 within ∙ rw fails (append-nil (filter p (take i xs)))

range_more : (a n : ℕ) → range_with_len a (suc n) ≡ range_with_len a n ++ (a + n) ∷ []
range_more a zero = let e : a ≡ a + 0 = omega arith in ap (λ (x : ℕ). x ∷ []) e
range_more a (suc n) =
    let e : a + 1 + n ≡ a + suc n = omega arith in
    ap (λ (xs : List ℕ). a ∷ xs) (range_more (a + 1) n ∙ ap (λ (x : ℕ). range_with_len (a + 1) n ++ x ∷ []) e)

filter_push : (p : ℕ → Bool) (xs : List ℕ) (x : ℕ) → filter p (xs ++ x ∷ []) ≡ filter p xs ++ filter p (x ∷ [])
filter_push p xs x = filter-append p xs (x ∷ [])

chosen_more : (p : ℕ → Bool) (n : ℕ) → filter p (range_with_len 0 (n + 1)) ≡ filter p (range_with_len 0 n) ++ filter p (n ∷ [])
chosen_more p n =
    let e : n + 1 ≡ suc n = omega arith in
    let f : 0 + n ≡ n = omega arith in
    let longer : range_with_len 0 (n + 1) ≡ range_with_len 0 n ++ n ∷ [] = ap (range_with_len 0) e ∙ range_more 0 n ∙ ap (λ (x : ℕ). range_with_len 0 n ++ x ∷ []) f in
    ap (filter p) longer ∙ filter_push p (range_with_len 0 n) n

pub chosen_yes : (p : ℕ → Bool) (n : ℕ) → p n ≡ true → filter p (range_with_len 0 (n + 1)) ≡ filter p (range_with_len 0 n) ++ n ∷ []
chosen_yes p n passes =
    let one : filter p (n ∷ []) ≡ n ∷ [] = rw passes refl in
    chosen_more p n ∙ ap (λ (ys : List ℕ). filter p (range_with_len 0 n) ++ ys) one

pub chosen_no : (p : ℕ → Bool) (n : ℕ) → p n ≡ false → filter p (range_with_len 0 (n + 1)) ≡ filter p (range_with_len 0 n)
chosen_no p n fails =
    let none : filter p (n ∷ []) ≡ [] = rw fails refl in
    chosen_more p n ∙ ap (λ (ys : List ℕ). filter p (range_with_len 0 n) ++ ys) none ∙ append-nil (filter p (range_with_len 0 n))

abbrev pub IsHullOf : Rect → Rect → Rect → Type 0
IsHullOf r s h = HasSides h (min r.x0 s.x0) (min r.y0 s.y0) (max r.x1 s.x1) (max r.y1 s.y1)

over_first : (r s h inner : Rect) → IsHullOf r s h → Encloses r inner → Encloses h inner
over_first r s h inner is a = record { left = omega (arith, is.left, a.left); top = omega (arith, is.top, a.top); right = omega (arith, is.right, a.right); bottom = omega (arith, is.bottom, a.bottom) }

over_second : (r s h : Rect) → IsHullOf r s h → Encloses h s
over_second r s h is = record { left = omega (arith, is.left); top = omega (arith, is.top); right = omega (arith, is.right); bottom = omega (arith, is.bottom) }

hull_least : (outer r s h : Rect) → IsHullOf r s h → Encloses outer r → Encloses outer s → Encloses outer h
hull_least outer r s h is a b = record { left = omega (arith, is.left, a.left, b.left); top = omega (arith, is.top, a.top, b.top); right = omega (arith, is.right, a.right, b.right); bottom = omega (arith, is.bottom, a.bottom, b.bottom) }

some_at : (boxes : List Rect) (position : ℕ) (box : Rect) (P : Rect → Type 0) → slice_get boxes position ≡ Some box → IfSome (slice_get boxes position) P → P box
some_at boxes position box P there holds = subst (λ (o : Option Rect). IfSome o P) there holds

at_some : (boxes : List Rect) (position : ℕ) (box : Rect) (P : Rect → Type 0) → slice_get boxes position ≡ Some box → P box → IfSome (slice_get boxes position) P
at_some boxes position box P there holds = subst (λ (o : Option Rect). IfSome o P) (sym there) holds

abbrev pub IsLeastSoFar : List Rect → List ℕ → Rect → Type 0
IsLeastSoFar boxes positions r = (outer : Rect) → IsRound boxes positions outer → Encloses outer r

pub round_more : (boxes : List Rect) (positions : List ℕ) (i : ℕ) (old new box : Rect) → i < length positions → slice_get boxes (get_or positions i 0) ≡ Some box → IsHullOf old box new → IsRound boxes (take i positions) old → IsRound boxes (take (i + 1) positions) new
round_more boxes positions i old new box within there is round =
    All-more (λ (position : ℕ). IfSome (slice_get boxes position) (λ (b : Rect). Encloses new b)) positions i 0 within
    (All-weaker (λ (position : ℕ). IfSome (slice_get boxes position) (λ (b : Rect). Encloses old b)) (λ (position : ℕ). IfSome (slice_get boxes position) (λ (b : Rect). Encloses new b))
    (λ position h. IfSome_then (slice_get boxes position) h (λ b k. over_first old box new b is k)) (take i positions) round)
    (at_some boxes (get_or positions i 0) box (λ (b : Rect). Encloses new b) there (over_second old box new is))

pub least_more : (boxes : List Rect) (positions : List ℕ) (i : ℕ) (old new box : Rect) → i < length positions → slice_get boxes (get_or positions i 0) ≡ Some box → IsHullOf old box new → IsLeastSoFar boxes positions old → IsLeastSoFar boxes positions new
least_more boxes positions i old new box within there is least = λ outer round.
    hull_least outer old box new is (least outer round)
    (some_at boxes (get_or positions i 0) box (λ (b : Rect). Encloses outer b) there (All-get_or (λ (position : ℕ). IfSome (slice_get boxes position) (λ (b : Rect). Encloses outer b)) positions i 0 within round))

enclosed_at : (boxes : List Rect) (position : ℕ) (outer : Rect) → All (Encloses outer) boxes → IfSome (slice_get boxes position) (λ (b : Rect). Encloses outer b)
enclosed_at [] position outer all = tt
enclosed_at (b ∷ boxes) zero outer all = All-head (Encloses outer) b boxes all
enclosed_at (b ∷ boxes) (suc position) outer all = enclosed_at boxes position outer (All-tail (Encloses outer) b boxes all)

-- what encloses all boxes is round the positions
pub round_all : (boxes : List Rect) (positions : List ℕ) (outer : Rect) → All (Encloses outer) boxes → IsRound boxes positions outer
round_all boxes [] outer all = All-nil (λ (position : ℕ). IfSome (slice_get boxes position) (λ (b : Rect). Encloses outer b))
round_all boxes (p ∷ positions) outer all = All-cons (λ (position : ℕ). IfSome (slice_get boxes position) (λ (b : Rect). Encloses outer b)) p positions (enclosed_at boxes p outer all) (round_all boxes positions outer all)

pub box_in : (boxes : List Rect) (positions : List ℕ) (i : ℕ) (box outer : Rect) → i < length positions → slice_get boxes (get_or positions i 0) ≡ Some box → IsRound boxes positions outer → Encloses outer box
box_in boxes positions i box outer within there round =
    some_at boxes (get_or positions i 0) box (λ (b : Rect). Encloses outer b) there (All-get_or (λ (position : ℕ). IfSome (slice_get boxes position) (λ (b : Rect). Encloses outer b)) positions i 0 within round)
