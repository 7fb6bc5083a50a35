-- A page has one cover.
use Rattle.std.proofs.Common.{◌≡◌, ℕ, zero, suc, ◌+◌, ◌<◌, ◌≤◌, List, ◌++◌, length, take, slice_index_or, refl, arith, sym, ◌∙◌, ⊎_elim, subst}
use Rattle.std.proofs.Math.Seq.{take-length}
use Rattle.std.proofs.lemmas.List.{take_more_same}
use Rattle.std.proofs.lemmas.Bool.{cases_lt}
use Rattle.layout_geom.specs.declared.rect.Rect.{Rect}
use Rattle.layout_geom.specs.KeyLaws.{same_key}
use Rattle.whitespace_cover.specs.Admissible.{IsBestRect}
use Rattle.whitespace_cover.specs.Cover.{EachIsBest, IsCover}

module _ (page : Rect) (boxes : List Rect) (least : ℕ) where
  -- each of two best rectangles has at least the key of the other
  one_best : (obstacles : List Rect) (r s : Rect) → IsBestRect page obstacles least r → IsBestRect page obstacles least s → r ≡ s
  one_best obstacles r s best other = same_key r s (omega (arith, best.greatest s other.admissible, other.greatest r best.admissible))

  -- after the same rectangles comes the same one
  one_next : (xs ys : List Rect) (i : ℕ) (d : Rect) → EachIsBest page boxes least xs → EachIsBest page boxes least ys → i < length xs → i < length ys → take i xs ≡ take i ys → take (i + 1) xs ≡ take (i + 1) ys
  one_next xs ys i d each other in_xs in_ys same =
      let moved : IsBestRect page (boxes ++ take i ys) least (slice_index_or xs i d) = subst (λ (before : List Rect). IsBestRect page (boxes ++ before) least (slice_index_or xs i d)) same (each i d in_xs) in
      take_more_same xs ys i d in_xs in_ys same (one_best (boxes ++ take i ys) (slice_index_or xs i d) (slice_index_or ys i d) moved (other i d in_ys))

  -- two covers are the same as far as both go
  one_start : (xs ys : List Rect) (i : ℕ) (d : Rect) → EachIsBest page boxes least xs → EachIsBest page boxes least ys → i ≤ length xs → i ≤ length ys → take i xs ≡ take i ys
  one_start xs ys zero d each other in_xs in_ys = refl
  one_start xs ys (suc i) d each other in_xs in_ys =
      let more : suc i ≡ i + 1 = omega arith in
      rw more (one_next xs ys i d each other (omega arith) (omega arith) (one_start xs ys i d each other (omega arith) (omega arith)))

  -- and neither goes on where the other has ended
  not_longer : (count : ℕ) (xs ys : List Rect) (d : Rect) → IsCover page boxes least count xs → IsCover page boxes least count ys → length xs < length ys → ⊥
  not_longer count xs ys d cover longer less =
      let same : take (length xs) ys ≡ xs = sym (one_start xs ys (length xs) d cover.each longer.each (omega arith) (omega arith)) ∙ take-length xs in
      let next : IsBestRect page (boxes ++ xs) least (slice_index_or ys (length xs) d) = subst (λ (before : List Rect). IsBestRect page (boxes ++ before) least (slice_index_or ys (length xs) d)) same (longer.each (length xs) d less) in
      cover.ended (omega (arith, less, longer.few)) (slice_index_or ys (length xs) d) next.admissible

  -- so they are one; the page stands where a read past the end of a list would
  pub one_cover : (count : ℕ) (xs ys : List Rect) → IsCover page boxes least count xs → IsCover page boxes least count ys → xs ≡ ys
  one_cover count xs ys cover other =
      let no_less : length xs < length ys → ⊥ = not_longer count xs ys page cover other in
      let no_more : length ys < length xs → ⊥ = not_longer count ys xs page other cover in
      let long : length xs ≡ length ys = ⊎_elim (λ less. absurd (no_less less)) (λ (rest : length ys ≤ length xs). ⊎_elim (λ more. absurd (no_more more)) (λ (same : length xs ≤ length ys). omega arith) (cases_lt (length ys) (length xs))) (cases_lt (length xs) (length ys)) in
      let all : take (length xs) xs ≡ take (length xs) ys = one_start xs ys (length xs) page cover.each other.each (omega arith) (omega arith) in
      sym (take-length xs) ∙ all ∙ (rw long (take-length ys))
