-- Numbers that differ from one another, place by place.
use Rattle.std.proofs.Common.{◌≡◌, ℕ, ◌+◌, ◌-◌, ◌<◌, List, length, get_or, take, drop, sym, ◌∙◌, ⊎_elim, arith, subst}
use Rattle.std.specs.Prelude.{All, slice_index}
use Rattle.std.proofs.lemmas.List.{get_or-drop, length-drop, take_all}
use Rattle.std.proofs.lemmas.Bool.{cases_lt}
use Rattle.std.proofs.lemmas.Grind.{get_or_default_zero}

-- The numbers at the places before a limit are equal to none behind them.
abbrev pub AreApartBefore : ℕ → List ℕ → Type 0
AreApartBefore limit xs = (i j : ℕ) → i < limit → i < j → j < length xs → slice_index xs i ≡ slice_index xs j → ⊥

-- The numbers behind a place.
abbrev pub behind : ℕ → List ℕ → List ℕ
behind place xs = take (length xs - (place + 1)) (drop (place + 1) xs)

-- No number behind a place is equal to the one there.
abbrev pub IsApartAt : ℕ → List ℕ → Type 0
IsApartAt place xs = All (λ other. other ≡ get_or xs place 0 → ⊥) (behind place xs)

behind_is : (place : ℕ) (xs : List ℕ) → behind place xs ≡ drop (place + 1) xs
behind_is place xs = take_all (length xs - (place + 1)) (drop (place + 1) xs) (omega (arith, length-drop (place + 1) xs))

-- One more place.
pub apart_more : (place : ℕ) (xs : List ℕ) → AreApartBefore place xs → IsApartAt place xs → AreApartBefore (place + 1) xs
apart_more place xs before here i j below less within same =
    ⊎_elim
    (λ under. before i j under less within same)
    (λ over.
    let at : i ≡ place = omega (arith, over, below) in
    let k : ℕ = j - (place + 1) in
    let back : (place + 1) + k ≡ j = omega (arith, at, less) in
    let read : get_or (behind place xs) k 0 ≡ get_or xs ((place + 1) + k) 0 = rw (behind_is place xs) (get_or-drop (place + 1) xs k 0) in
    let long : length (behind place xs) ≡ length xs - (place + 1) = rw (behind_is place xs) (length-drop (place + 1) xs) in
    let P : ℕ → Type 0 = λ z. get_or (behind place xs) k 0 ≡ get_or xs z 0 in
    let Q : ℕ → Type 0 = λ z. get_or xs z 0 ≡ get_or xs j 0 in
    here k 0 (omega (arith, at, less, within, long)) (subst P back read ∙ sym (subst Q at same)))
    (cases_lt i place)

-- Numbers that all differ, differ at each place.
pub apart_here : (place : ℕ) (xs : List ℕ) → place < length xs → ((i j : ℕ) → i < j → j < length xs → slice_index xs i ≡ slice_index xs j → ⊥) → IsApartAt place xs
apart_here place xs inside apart k d within same =
    let size : length (behind place xs) ≡ length xs - (place + 1) = rw (behind_is place xs) (length-drop (place + 1) xs) in
    let read : get_or (behind place xs) k 0 ≡ get_or xs ((place + 1) + k) 0 = rw (behind_is place xs) (get_or-drop (place + 1) xs k 0) in
    apart place ((place + 1) + k) (omega arith) (omega (arith, within, size)) (sym same ∙ get_or_default_zero (behind place xs) k d within ∙ read)
