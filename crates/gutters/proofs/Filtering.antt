-- The filter keeps each gutter, and nothing else.
use Rattle.std.proofs.Common.{◌≡◌, ℕ, ◌≤◌, ◌*◌, ◌&&◌, Bool, true, false, cond, List, [], ◌∷◌, All, Contains, filter, nat_le, length, take, get_or, ◌+◌, ◌<◌, ◌++◌, arith, refl, ap, ◌∙◌, append-nil}
use Rattle.std.proofs.lemmas.Bool.Decides.{nat_tests}
use Rattle.std.proofs.lemmas.List.{take_all}
use Rattle.std.proofs.lemmas.List.Elements.{filter_passes, All-nil, All-cons, All-weaker, Contains-append_right, filter_more}
use Rattle.layout_geom.specs.declared.rect.Rect.{Rect}
use Rattle.layout_geom.specs.Rectangles.{width_of, height_of}
use Rattle.components.specs.declared.kept.Kept.{Kept}
use Rattle.gutters.specs.Gutters.{IsGutter, is_gutter, gutters_of, left_count, right_count}

first_stays : {X : Type 0} (b : Bool) (x : X) (xs : List X) → b ≡ true → Contains (cond b (x ∷ xs) xs) x
first_stays true x xs h = (0, omega arith, refl)
first_stays false x xs h = absurd (cc)

later_stays : {X : Type 0} (b : Bool) (y : X) (xs : List X) (x : X) → Contains xs x → Contains (cond b (y ∷ xs) xs) x
later_stays true y xs x h = Contains-append_right (y ∷ []) xs x h
later_stays false y xs x h = h

-- a filter keeps each element that passes
passing_stays : {X : Type 0} (p : X → Bool) (xs : List X) → All (λ x. p x ≡ true → Contains (filter p xs) x) xs
passing_stays p [] = All-nil _
passing_stays {X} p (y ∷ ys) =
    All-cons (λ (x : X). p x ≡ true → Contains (filter p (y ∷ ys)) x) y ys (first_stays (p y) y (filter p ys))
    (All-weaker (λ (x : X). p x ≡ true → Contains (filter p ys) x) (λ (x : X). p x ≡ true → Contains (filter p (y ∷ ys)) x)
    (λ x stays passes. later_stays (p y) y (filter p ys) x (stays passes)) ys (passing_stays p ys))

passing : (a b c d : ℕ) → (nat_le a b && nat_le 3 c && nat_le 3 d) ≡ true → (a ≤ b) × (3 ≤ c) × (3 ≤ d)
passing a b c d h = grind (arith, nat_tests)

passes : (a b c d : ℕ) → a ≤ b → 3 ≤ c → 3 ≤ d → (nat_le a b && nat_le 3 c && nat_le 3 d) ≡ true
passes a b c d slim left right = grind (arith, nat_tests)

-- what passes the test is a gutter
gutter_facts : (kept : Kept) (rect : Rect) → is_gutter kept rect ≡ true → IsGutter kept rect
gutter_facts kept rect h =
    let facts = passing (3 * width_of rect) (height_of rect) (left_count kept rect) (right_count kept rect) h in
    record { slim = facts.0; left = facts.1; right = facts.2 }

-- a gutter passes the test
gutter_passes : (kept : Kept) (rect : Rect) → IsGutter kept rect → is_gutter kept rect ≡ true
gutter_passes kept rect g = passes (3 * width_of rect) (height_of rect) (left_count kept rect) (right_count kept rect) g.slim g.left g.right

pub each_is_gutter : (kept : Kept) (whites : List Rect) → All (IsGutter kept) (gutters_of kept whites)
each_is_gutter kept whites =
    All-weaker (λ (rect : Rect). is_gutter kept rect ≡ true) (IsGutter kept) (gutter_facts kept) (gutters_of kept whites) (filter_passes (is_gutter kept) whites)

pub every_gutter_stays : (kept : Kept) (whites : List Rect) → All (λ white. IsGutter kept white → Contains (gutters_of kept whites) white) whites
every_gutter_stays kept whites =
    All-weaker (λ (rect : Rect). is_gutter kept rect ≡ true → Contains (gutters_of kept whites) rect) (λ (rect : Rect). IsGutter kept rect → Contains (gutters_of kept whites) rect)
    (λ rect stays g. stays (gutter_passes kept rect g)) whites (passing_stays (is_gutter kept) whites)

-- the next rectangle, which is a gutter
pub gutters_more : (kept : Kept) (whites found : List Rect) (i : ℕ) (white : Rect) → i < length whites → white ≡ get_or whites i white → found ≡ gutters_of kept (take i whites)
    → is_gutter kept white ≡ true → found ++ white ∷ [] ≡ gutters_of kept (take (i + 1) whites)
gutters_more kept whites found i white low at so_far passes =
    let more = filter_more (is_gutter kept) whites i white low in
    let here : is_gutter kept (get_or whites i white) ≡ true = rw (← at) passes in
    rw (more, here, ← at, so_far) refl

-- the next rectangle, which is none
pub gutters_same : (kept : Kept) (whites found : List Rect) (i : ℕ) (white : Rect) → i < length whites → white ≡ get_or whites i white → found ≡ gutters_of kept (take i whites)
    → is_gutter kept white ≡ false → found ≡ gutters_of kept (take (i + 1) whites)
gutters_same kept whites found i white low at so_far fails =
    let more = filter_more (is_gutter kept) whites i white low in
    let here : is_gutter kept (get_or whites i white) ≡ false = rw (← at) fails in
    rw (more, here, append-nil, so_far) refl

-- what is found at the end
pub gutters_all : (kept : Kept) (whites read found : List Rect) (i : ℕ) → read ≡ whites → length read ≤ i → found ≡ gutters_of kept (take i read) → found ≡ gutters_of kept whites
gutters_all kept whites read found i same all so_far =
    let whole : take i read ≡ read = take_all i read all in
    so_far ∙ ap (gutters_of kept) (whole ∙ same)
