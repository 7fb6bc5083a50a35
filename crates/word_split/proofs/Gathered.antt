-- The boxes of the members of a line.
use Rattle.std.proofs.Common.{◌≡◌, ℕ, zero, suc, ◌+◌, ◌<◌, List, [], ◌∷◌, ◌++◌, Option, Some, IfSome, length, take, map, get_or, slice_get, All, arith, refl, ap, subst}
use Rattle.std.proofs.lemmas.List.{map_more, map_push, length-map, get_or-map}
use Rattle.std.proofs.lemmas.List.Elements.{All-map, All-head, All-tail}
use Rattle.std.proofs.lemmas.List.Sorted.{length_permutation, All-permutation}
use Rattle.layout_geom.specs.declared.rect.Rect.{Rect}
use Rattle.layout_geom.specs.Rectangles.{Encloses}
use Rattle.word_split.specs.Members.{AreMembers, IsLine, IsRound}

abbrev some_rect : Rect → Option Rect
some_rect r = Some r

-- one member more
pub members_more : (boxes : List Rect) (members : List ℕ) (given : List Rect) (i : ℕ) (r : Rect) → i < length members → slice_get boxes (get_or members i 0) ≡ Some r
    → AreMembers boxes (take i members) given → AreMembers boxes (take (i + 1) members) (given ++ r ∷ [])
members_more boxes members given i r low read so_far =
    rw (map_more (slice_get boxes) members i 0 low, map_push some_rect given r, read, so_far) refl

pub length-line : (boxes : List Rect) (members : List ℕ) (line : List Rect) → IsLine boxes members line → length line ≡ length members
length-line boxes members line is =
    let moved = length_permutation is.given line is.rearranged in
    let same : length (map (slice_get boxes) members) ≡ length (map some_rect is.given) = ap length is.are_members in
    omega (arith, moved, same, length-map members (slice_get boxes), length-map is.given some_rect)

-- what is round the members is round each box of the line
pub line_within : (boxes : List Rect) (members : List ℕ) (line : List Rect) (outer : Rect) → IsLine boxes members line → IsRound boxes members outer → All (Encloses outer) line
line_within boxes members line outer is round =
    let In : Option Rect → Type 0 = λ o. IfSome o (λ box. Encloses outer box) in
    let mapped : All In (map (slice_get boxes) members) = All-map In (slice_get boxes) members round in
    let given : All In (map some_rect is.given) = subst (λ (os : List (Option Rect)). All In os) is.are_members mapped in
    let each : All (Encloses outer) is.given = λ k d low.
    subst In (get_or-map some_rect is.given k d (some_rect d) low) (given k (some_rect d) (omega (arith, low, length-map is.given some_rect))) in
    All-permutation (Encloses outer) is.given line is.rearranged each

enclosed_at : (boxes : List Rect) (position : ℕ) (outer : Rect) → All (Encloses outer) boxes → IfSome (slice_get boxes position) (λ box. Encloses outer box)
enclosed_at [] position outer all = tt
enclosed_at (b ∷ boxes) zero outer all = All-head (Encloses outer) b boxes all
enclosed_at (b ∷ boxes) (suc position) outer all = enclosed_at boxes position outer (All-tail (Encloses outer) b boxes all)

-- what encloses all boxes is round the members
pub round_all : (boxes : List Rect) (members : List ℕ) (outer : Rect) → All (Encloses outer) boxes → IsRound boxes members outer
round_all boxes members outer all k d low = enclosed_at boxes (get_or members k d) outer all
