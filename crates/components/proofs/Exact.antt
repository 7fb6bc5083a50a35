-- A page has one list of kept boxes.
use Rattle.std.proofs.Common.{◌≡◌, ◌<◌, ℕ, zero, suc, List, [], ◌∷◌, length, get_or, inl, inr, sym, subst, ◌∙◌, arith}
use Rattle.std.specs.Prelude.{Any}
use Rattle.std.specs.List.{AllZip, AllPairs}
use Rattle.std.specs.List.Sorted.{IsPermutation}
use Rattle.std.proofs.lemmas.List.Sorted.{length_permutation, sum_by-IsPermutation}
use Rattle.page_runs.specs.Page.{Page}
use Rattle.layout_geom.specs.declared.rect.Rect.{Rect}
use Rattle.layout_geom.specs.SameSides.{same_sides, one_least}
use Rattle.components.specs.declared.place.Place.{Place}
use Rattle.components.specs.Connected.{IsConnected}
use Rattle.components.specs.Boxes.{HasComponent, IsKept}
use Rattle.components.specs.Kept.{IsKeptBoxes, IsKeptCount, IsKeptList}
use Rattle.components.proofs.Paths.{onwards, connected_back}
use Rattle.components.proofs.Scanning.{box_moves}
use Rattle.components.proofs.Sorted.{sorted_same}
use Rattle.components.proofs.Unique.{Each, Some_of, Apart, boxes_rearranged}

one_kept_box : (page : Page) (p q : Place) (box other : Rect) → IsKept page p box → IsKept page q other → IsConnected page p q → box ≡ other
one_kept_box page p q box other kept kept2 c =
    one_least (HasComponent page p) box other kept.is_box (box_moves page p q other c kept2.is_box)

-- between facts by index and facts by recursion
some_from_any : (P : Place → Type 0) (xs : List Place) (k : ℕ) (x : Place) → k < length xs → get_or xs k x ≡ x → P x → Some_of P xs
some_from_any P [] k x lt is here = absurd (omega (arith, lt))
some_from_any P (y ∷ xs) zero x lt is here = inl (subst P (sym is) here)
some_from_any P (y ∷ xs) (suc k) x lt is here = inr (some_from_any P xs k x (omega (arith, lt)) is here)

each_from_all : (P : Place → Type 0) (xs : List Place) → ((k : ℕ) (d : Place) → k < length xs → P (get_or xs k d)) → Each P xs
each_from_all P [] all = tt
each_from_all P (x ∷ xs) all = (all 0 x (omega arith), each_from_all P xs (λ k d lt. all (suc k) d (omega (arith, lt))))

apart_from_pairs : (E : Place → Place → Type 0) (xs : List Place) → AllPairs (λ p q. E p q → ⊥) xs → Apart E xs
apart_from_pairs E [] pairs = tt
apart_from_pairs E (x ∷ xs) pairs = (
  each_from_all (λ y. E x y → ⊥) xs (λ k d lt. pairs 0 (suc k) d (omega arith) (omega (arith, lt))),
  apart_from_pairs E xs (λ i j d less lt. pairs (suc i) (suc j) d (omega (arith, less)) (omega (arith, lt))),
)

-- each place of the one list is connected with one of the other
covered : (page : Page) (qs : List Place) → ((p : Place) (box : Rect) → IsKept page p box → Any (IsConnected page p) qs)
    → (ps : List Place) (boxes : List Rect) → AllZip (IsKept page) ps boxes → Each (λ p. Some_of (IsConnected page p) qs) ps
covered page qs every [] boxes zip = tt
covered page qs every (p ∷ ps) [] zip = absurd zip
covered page qs every (p ∷ ps) (b ∷ boxes) zip =
    let any = every p b zip.0 in
    (some_from_any (IsConnected page p) qs any.0 any.1 any.2 any.3 any.4, covered page qs every ps boxes zip.1)

-- two lists of the boxes of the kept components have the same boxes
pub same_kept_boxes : (page : Page) (boxes others : List Rect) → IsKeptBoxes page boxes → IsKeptBoxes page others → IsPermutation boxes others
same_kept_boxes page boxes others kept kept2 =
    boxes_rearranged (IsKept page) (IsConnected page) (connected_back page) (onwards page) (one_kept_box page) kept.places boxes kept2.places others
    kept.are_kept.kept kept2.are_kept.kept
    (apart_from_pairs (IsConnected page) kept.places kept.are_kept.apart) (apart_from_pairs (IsConnected page) kept2.places kept2.are_kept.apart)
    (covered page kept2.places kept2.are_kept.every kept.places boxes kept.are_kept.kept)
    (covered page kept.places kept.are_kept.every kept2.places others kept2.are_kept.kept)

-- a page has one number of kept components
pub same_count : (page : Page) (m n : ℕ) → IsKeptCount page m → IsKeptCount page n → m ≡ n
same_count page m n first second = sym first.counted ∙ sym (length_permutation _ _ (same_kept_boxes page first.found second.found first.is_kept second.is_kept)) ∙ second.counted

-- a page has one list of kept boxes
pub same_list : (page : Page) (boxes others : List Rect) → IsKeptList page boxes → IsKeptList page others → boxes ≡ others
same_list page boxes others first second =
    let found = same_kept_boxes page first.found second.found first.is_kept second.is_kept in
    sorted_same boxes others same_sides first.sorted second.sorted
    (λ f. sum_by-IsPermutation f _ _ first.rearranged ∙ sym (sum_by-IsPermutation f _ _ found) ∙ sym (sum_by-IsPermutation f _ _ second.rearranged))
