-- A listing of lines falls into one list of areas.
use Rattle.std.proofs.Common.{◌≡◌, ℕ, ◌+◌, ◌*◌, ◌<◌, List, [], ◌∷◌, arith, refl, sym, ◌∙◌, subst, ⊎_elim}
use Rattle.std.proofs.lemmas.Bool.{cases_lt}
use Rattle.layout_geom.specs.declared.rect.Rect.{Rect}
use Rattle.layout_geom.specs.declared.area.Area.{Area}
use Rattle.layout_geom.specs.SameSides.{one_least}
use Rattle.reading_order.specs.Areas.{EnclosesLines, IsLeastRound, IsArea, AreAreasFrom, AreAreasOf}

abbrev area_with : ℕ → ℕ → Rect → Area
area_with first count bbox = record { first = first; count = count; bbox = bbox }

-- an area is its parts
same_parts : (x y : Area) → x.first ≡ y.first → x.count ≡ y.count → x.bbox ≡ y.bbox → area_with x.first x.count x.bbox ≡ area_with y.first y.count y.bbox
same_parts x y starts count bbox = cc (starts, count, bbox)

module _ (lines : List Rect) (listing : List ℕ) (reach from : ℕ) where
  one_round : (last : ℕ) (r s : Rect) → IsLeastRound lines listing from last r → IsLeastRound lines listing from last s → r ≡ s
  one_round last r s first second = one_least (EnclosesLines lines listing from last) r s first second

  -- an area is not cut where another goes on
  not_shorter : (x y : Area) → IsArea lines listing reach from x → IsArea lines listing reach from y → x.count < y.count → ⊥
  not_shorter x y first second less =
      first.cut (omega (arith, less, second.fits)) (second.whole _ (omega (arith, first.some)) (omega (arith, first.some, less)))

  one_count : (x y : Area) → IsArea lines listing reach from x → IsArea lines listing reach from y → x.count ≡ y.count
  one_count x y first second =
      ⊎_elim
      (λ less. absurd (not_shorter x y first second less))
      (λ most. ⊎_elim (λ less. absurd (not_shorter y x second first less)) (λ least. omega (arith, most, least)) (cases_lt y.count x.count))
      (cases_lt x.count y.count)

  one_area : (x y : Area) → IsArea lines listing reach from x → IsArea lines listing reach from y → x ≡ y
  one_area x y first second =
      let starts : x.first ≡ y.first = first.starts ∙ sym second.starts in
      let count : x.count ≡ y.count = one_count x y first second in
      let P : ℕ → Type 0 = λ n. IsLeastRound lines listing from (from + n) y.bbox in
      let bbox : x.bbox ≡ y.bbox = one_round (from + x.count) x.bbox y.bbox first.round (subst P (sym count) second.round) in
      same_parts x y starts count bbox

module _ (lines : List Rect) (listing : List ℕ) (reach : ℕ) where
  one_rest : (from : ℕ) (xs ys : List Area) → AreAreasFrom lines listing reach from xs → AreAreasFrom lines listing reach from ys → xs ≡ ys
  one_rest from [] [] first second = refl
  one_rest from [] (y ∷ ys) first second = absurd (omega (arith, first, second.0.some, second.0.fits))
  one_rest from (x ∷ xs) [] first second = absurd (omega (arith, second, first.0.some, first.0.fits))
  one_rest from (x ∷ xs) (y ∷ ys) first second =
      let count : x.count ≡ y.count = one_count lines listing reach from x y first.0 second.0 in
      let P : ℕ → Type 0 = λ n. AreAreasFrom lines listing reach (from + n) ys in
      cc (one_area lines listing reach from x y first.0 second.0, one_rest (from + x.count) xs ys first.1 (subst P (sym count) second.1))

pub one_list : (lines : List Rect) (listing : List ℕ) (median : ℕ) (xs ys : List Area) → AreAreasOf lines listing median xs → AreAreasOf lines listing median ys → xs ≡ ys
one_list lines listing median = one_rest lines listing (2 * median) 0
