-- The members of a line have one list of words, in whatever order they are named.
use Rattle.std.proofs.Common.{◌≡◌, ◌<◌, ℕ, ◌-◌, List, [], ◌∷◌, Option, Some, None, length, map, slice_get, refl, sym, ap, subst, arith, ◌∙◌, ⊎_elim}
use Rattle.std.specs.List.Sorted.{IsPermutation}
use Rattle.std.proofs.lemmas.Bool.{cases_lt}
use Rattle.std.proofs.lemmas.List.{ext_get_or}
use Rattle.std.proofs.lemmas.List.Sorted.{IsPermutation-refl, IsPermutation-map, sum_by-IsPermutation, IsPermutation-trans, IsPermutation-sym, length_permutation}
use Rattle.layout_geom.specs.declared.rect.Rect.{Rect}
use Rattle.layout_geom.specs.SameSides.{one_least}
use Rattle.word_split.specs.Members.{AreMembers, IsLine}
use Rattle.word_split.specs.Gaps.{AreGapsOf}
use Rattle.word_split.specs.Words.{IsBreak, IsWord, AreWordsFrom, AreWordsOf}
use Rattle.word_split.proofs.Ordered.{same_line}
use Rattle.word_split.proofs.Rounds.{IsRoundWithin}

abbrev value_or : Rect → Option Rect → Rect
value_or d (Some r) = r
value_or d None = d

module _ (line : List Rect) (B : ℕ → Type 0) (first : ℕ) where
  not_shorter : (m n : ℕ) (r s : Rect) → IsWord line B first m r → IsWord line B first n s → m < n → ⊥
  not_shorter m n r s one other less =
      other.whole (m - 1) (omega (arith, one.some)) (omega (arith, one.some, less)) (one.cut (omega (arith, less, other.fits)))

  one_end : (m n : ℕ) (r s : Rect) → IsWord line B first m r → IsWord line B first n s → m ≡ n
  one_end m n r s one other = ⊎_elim
      (λ less. absurd (not_shorter m n r s one other less))
      (λ most. ⊎_elim (λ less. absurd (not_shorter n m s r other one less)) (λ least. omega (arith, most, least)) (cases_lt n m))
      (cases_lt m n)

  one_word : (n : ℕ) (r s : Rect) → IsWord line B first n r → IsWord line B first n s → r ≡ s
  one_word n r s one other = one_least (IsRoundWithin line first n) r s one.round other.round

one_parting : (line : List Rect) (B : ℕ → Type 0) (first : ℕ) (xs ys : List Rect) → AreWordsFrom line B first xs → AreWordsFrom line B first ys → xs ≡ ys
one_parting line B first [] [] one other = refl
one_parting line B first [] (y ∷ ys) one other = absurd (omega (arith, one, other.1.some, other.1.fits))
one_parting line B first (x ∷ xs) [] one other = absurd (omega (arith, other, one.1.some, one.1.fits))
one_parting line B first (x ∷ xs) (y ∷ ys) one other =
    let ends : one.0 ≡ other.0 = one_end line B first one.0 other.0 x y one.1 other.1 in
    let word : IsWord line B first one.0 y = subst (λ (n : ℕ). IsWord line B first n y) (sym ends) other.1 in
    let rest : AreWordsFrom line B one.0 ys = subst (λ (n : ℕ). AreWordsFrom line B n ys) (sym ends) other.2 in
    cc (one_word line B first one.0 x y one.1 word, one_parting line B one.0 xs ys one.2 rest)

-- a line has one list of gaps
one_gaps : (line : List Rect) (xs ys : List ℕ) → AreGapsOf line xs → AreGapsOf line ys → xs ≡ ys
one_gaps [] xs ys one other = absurd (omega (arith, one.count))
one_gaps (r ∷ rs) xs ys one other =
    let long : length xs ≡ length ys = omega (arith, one.count, other.count) in
    ext_get_or 0 xs ys long (λ i low. one.each i r low ∙ sym (other.each i r (omega (arith, low, long))))

abbrev some_rect : Rect → Option Rect
some_rect r = Some r

values_back : (d : Rect) (xs : List Rect) → map (value_or d) (map some_rect xs) ≡ xs
values_back d [] = refl
values_back d (x ∷ xs) = ap (λ (l : List Rect). x ∷ l) (values_back d xs)

same_values : (xs ys : List Rect) → IsPermutation (map some_rect xs) (map some_rect ys) → IsPermutation xs ys
same_values [] [] moved = IsPermutation-refl []
same_values [] (y ∷ ys) moved = absurd (omega (arith, length_permutation [] (map some_rect (y ∷ ys)) moved))
same_values (x ∷ xs) ys moved =
    let back : IsPermutation (map (value_or x) (map some_rect (x ∷ xs))) (map (value_or x) (map some_rect ys)) =
    IsPermutation-map (value_or x) (map some_rect (x ∷ xs)) (map some_rect ys) moved in
    subst (λ (l : List Rect). IsPermutation (x ∷ xs) l) (values_back x ys)
    (subst (λ (l : List Rect). IsPermutation l (map (value_or x) (map some_rect ys))) (values_back x (x ∷ xs)) back)

-- the boxes of members
same_given : (boxes : List Rect) (members others : List ℕ) (xs ys : List Rect) → IsPermutation members others → AreMembers boxes members xs → AreMembers boxes others ys → IsPermutation xs ys
same_given boxes members others xs ys moved one other =
    let mapped : IsPermutation (map (slice_get boxes) members) (map (slice_get boxes) others) = IsPermutation-map (slice_get boxes) members others moved in
    same_values xs ys (subst (λ (os : List (Option Rect)). IsPermutation (map some_rect xs) os) other
    (subst (λ (os : List (Option Rect)). IsPermutation os (map (slice_get boxes) others)) one mapped))

one_line : (boxes : List Rect) (members others : List ℕ) (xs ys : List Rect) → IsPermutation members others → IsLine boxes members xs → IsLine boxes others ys → xs ≡ ys
one_line boxes members others xs ys moved one other =
    let given : IsPermutation one.given other.given = same_given boxes members others one.given other.given moved one.are_members other.are_members in
    let whole : IsPermutation xs ys = IsPermutation-trans xs one.given ys (IsPermutation-sym one.given xs one.rearranged)
    (IsPermutation-trans one.given other.given ys given other.rearranged) in
    same_line xs ys one.sorted other.sorted (λ f. sym (sum_by-IsPermutation f xs ys whole))

pub one_list : (boxes : List Rect) (members others : List ℕ) (median : ℕ) (xs ys : List Rect) → IsPermutation members others
    → AreWordsOf boxes members median xs → AreWordsOf boxes others median ys → xs ≡ ys
one_list boxes members others median xs ys moved one other =
    let line : other.line ≡ one.line = one_line boxes others members other.line one.line (IsPermutation-sym members others moved) other.in_order one.in_order in
    let between : AreGapsOf one.line other.gaps = subst (λ (l : List Rect). AreGapsOf l other.gaps) line other.between in
    let gaps : other.gaps ≡ one.gaps = one_gaps one.line other.gaps one.gaps between one.between in
    let parted : AreWordsFrom one.line (IsBreak one.gaps median) 0 ys =
    subst (λ (g : List ℕ). AreWordsFrom one.line (IsBreak g median) 0 ys) gaps
    (subst (λ (l : List Rect). AreWordsFrom l (IsBreak other.gaps median) 0 ys) line other.parted) in
    one_parting one.line (IsBreak one.gaps median) 0 xs ys one.parted parted
