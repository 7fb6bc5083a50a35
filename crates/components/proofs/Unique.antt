-- Two lists of one place of each class have the same boxes, up to their order.
use Rattle.std.proofs.Common.{◌≡◌, List, [], ◌∷◌, ◌++◌, ◌⊎◌, inl, inr, refl, sym, ap, subst}
use Rattle.std.specs.List.{AllZip}
use Rattle.std.specs.List.Sorted.{IsPermutation}
use Rattle.std.proofs.lemmas.List.Sorted.{IsPermutation-refl, IsPermutation-cons, IsPermutation-middle, IsPermutation-sym, IsPermutation-trans}

abbrev pub Each : {A : Type 0} → (A → Type 0) → List A → Type 0
Each P [] = Unit {0}
Each P (x ∷ xs) = P x × Each P xs

abbrev pub Some_of : {A : Type 0} → (A → Type 0) → List A → Type 0
Some_of P [] = ⊥
Some_of P (x ∷ xs) = P x ⊎ Some_of P xs

abbrev pub Apart : {A : Type 0} → (A → A → Type 0) → List A → Type 0
Apart E [] = Unit {0}
Apart E (x ∷ xs) = Each (λ y. E x y → ⊥) xs × Apart E xs

each_without : {A : Type 0} (P : A → Type 0) (before : List A) (x : A) (after : List A) → Each P (before ++ x ∷ after) → Each P (before ++ after)
each_without P [] x after each = each.1
each_without P (y ∷ before) x after each = (each.0, each_without P before x after each.1)

each_at : {A : Type 0} (P : A → Type 0) (before : List A) (x : A) (after : List A) → Each P (before ++ x ∷ after) → P x
each_at P [] x after each = each.0
each_at P (y ∷ before) x after each = each_at P before x after each.1

some_without : {A : Type 0} (P : A → Type 0) (before : List A) (x : A) (after : List A) → (P x → ⊥) → Some_of P (before ++ x ∷ after) → Some_of P (before ++ after)
some_without P [] x after not some = elim some [ inl here ↦ absurd (not here) | inr there ↦ there ]
some_without P (y ∷ before) x after not some = elim some [ inl here ↦ inl here | inr there ↦ inr (some_without P before x after not there) ]

each_from : {A : Type 0} (P Q R : A → Type 0) → ((x : A) → P x → Q x → R x) → (xs : List A) → Each P xs → Each Q xs → Each R xs
each_from P Q R step [] p q = tt
each_from P Q R step (x ∷ xs) p q = (step x p.0 q.0, each_from P Q R step xs p.1 q.1)

module _ {A B : Type 0} (K : A → B → Type 0) (E : A → A → Type 0)
    (back : (p q : A) → E p q → E q p) (onwards : (p q r : A) → E p q → E q r → E p r)
    (one : (p q : A) (b c : B) → K p b → K q c → E p q → b ≡ c) where
  apart_without : (before : List A) (x : A) (after : List A) → Apart E (before ++ x ∷ after) → Apart E (before ++ after)
  apart_without [] x after apart = apart.1
  apart_without (y ∷ before) x after apart = (each_without (λ z. E y z → ⊥) before x after apart.0, apart_without before x after apart.1)

  apart_of : (before : List A) (x : A) (after : List A) → Apart E (before ++ x ∷ after) → Each (λ y. E x y → ⊥) (before ++ after)
  apart_of [] x after apart = apart.0
  apart_of (y ∷ before) x after apart = (λ e. each_at (λ z. E y z → ⊥) before x after apart.0 (back x y e), apart_of before x after apart.1)

  record IsSplit (P : A → Type 0) (qs : List A) (cs : List B) : Type 0 where
    before : List A
    q : A
    after : List A
    left : List B
    c : B
    right : List B
    is_places : qs ≡ before ++ q ∷ after
    is_boxes : cs ≡ left ++ c ∷ right
    here : P q
    fits : K q c
    rest : AllZip K (before ++ after) (left ++ right)

  split : (P : A → Type 0) (qs : List A) (cs : List B) → AllZip K qs cs → Some_of P qs → IsSplit P qs cs
  split P [] cs zip some = absurd some
  split P (q ∷ qs) [] zip some = absurd zip
  split P (q ∷ qs) (c ∷ cs) zip some = elim some [
    | inl here ↦ record { before = []; q = q; after = qs; left = []; c = c; right = cs; is_places = refl; is_boxes = refl; here = here; fits = zip.0; rest = zip.1 }
    | inr there ↦
        let s = split P qs cs zip.1 there in
        record { before = q ∷ s.before; q = s.q; after = s.after; left = c ∷ s.left; c = s.c; right = s.right; is_places = ap (λ (l : List A). q ∷ l) s.is_places; is_boxes = ap (λ (l : List B). c ∷ l) s.is_boxes; here = s.here; fits = s.fits; rest = (zip.0, s.rest) }
  ]

  pub boxes_rearranged : (ps : List A) (bs : List B) (qs : List A) (cs : List B) → AllZip K ps bs → AllZip K qs cs → Apart E ps → Apart E qs
      → Each (λ p. Some_of (E p) qs) ps → Each (λ q. Some_of (E q) ps) qs → IsPermutation bs cs
  boxes_rearranged [] [] [] [] zip zip2 apart apart2 cover cover2 = IsPermutation-refl []
  boxes_rearranged [] (b ∷ bs) qs cs zip zip2 apart apart2 cover cover2 = absurd zip
  boxes_rearranged [] [] (q ∷ qs) cs zip zip2 apart apart2 cover cover2 = absurd cover2.0
  boxes_rearranged [] [] [] (c ∷ cs) zip zip2 apart apart2 cover cover2 = absurd zip2
  boxes_rearranged (p ∷ ps) [] qs cs zip zip2 apart apart2 cover cover2 = absurd zip
  boxes_rearranged (p ∷ ps) (b ∷ bs) qs cs zip zip2 apart apart2 cover cover2 =
      let s = split (E p) qs cs zip2 cover.0 in
      let others = s.before ++ s.after in
      let apart3 = subst (Apart E) s.is_places apart2 in
      let cover3 = subst (Each (λ q. Some_of (E q) (p ∷ ps))) s.is_places cover2 in
      let first : Each (λ r. Some_of (E r) others) ps =
      each_from (λ r. E p r → ⊥) (λ r. Some_of (E r) qs) (λ r. Some_of (E r) others)
      (λ r not some. some_without (E r) s.before s.q s.after (λ e. not (onwards p s.q r s.here (back r s.q e))) (subst (Some_of (E r)) s.is_places some)) ps apart.0 cover.1 in
      let second : Each (λ q. Some_of (E q) ps) others =
      each_from (λ r. E s.q r → ⊥) (λ r. Some_of (E r) (p ∷ ps)) (λ r. Some_of (E r) ps)
      (λ r not some. some_without (E r) [] p ps (λ e. not (back r s.q (onwards r p s.q e s.here))) some) others (apart_of s.before s.q s.after apart3) (each_without (λ q. Some_of (E q) (p ∷ ps)) s.before s.q s.after cover3) in
      let rest = boxes_rearranged ps bs others (s.left ++ s.right) zip.1 s.rest apart.1 (apart_without s.before s.q s.after apart3) first second in
      let ahead : IsPermutation (b ∷ bs) (s.c ∷ (s.left ++ s.right)) = subst (λ (d : B). IsPermutation (b ∷ bs) (d ∷ (s.left ++ s.right))) (one p s.q b s.c zip.0 s.fits s.here) (IsPermutation-cons b bs (s.left ++ s.right) rest) in
      let into : IsPermutation (s.c ∷ (s.left ++ s.right)) (s.left ++ s.c ∷ s.right) = IsPermutation-sym (s.left ++ s.c ∷ s.right) (s.c ∷ (s.left ++ s.right)) (IsPermutation-middle s.left s.c s.right) in
      subst (IsPermutation (b ∷ bs)) (sym s.is_boxes) (IsPermutation-trans (b ∷ bs) (s.c ∷ (s.left ++ s.right)) (s.left ++ s.c ∷ s.right) ahead into)
