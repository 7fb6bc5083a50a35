-- Where what is held settles the answer nothing is read.
use Rattle.std.proofs.Common.{◌≡◌, ℕ, ◌+◌, ◌<◌, ◌≤◌, ◌==◌, ◌⊎◌, Bool, false, List, [], ◌∷◌, length, refl, ap, subst, ◌∙◌, inl, inr, arith, rules}
use Rattle.pbm_reader.specs.Images.{AreUndecided}
use Rattle.pbm_reader.specs.Reader.{DecidesNoFault, ImagesView, IsNextImage, MayBegin, SettlesNext}
use Rattle.pbm_reader.proofs.NextImage.{undecided_next}
use Rattle.pbm_reader.proofs.WithinLimit.{last_undecided}

-- what is held behind so many images begins no next one that is whole, and decides no fault
abbrev pub SettlesNone : ImagesView → Type 0
SettlesNone old = DecidesNoFault old.count old.judged old.held × (IsNextImage old.count old.judged old.held → ⊥)

lacks_next : (old : ImagesView) → 0 < old.count → old.count < 256 → old.judged + length old.held ≤ 268435456 → AreUndecided old.held × MayBegin false old.held → SettlesNone old
lacks_next old some few low u =
    (undecided_next old.count old.judged old.held false few low (λ none. absurd (omega (arith, none, some))) (λ _. refl) u.0.0 u.1, λ n. u.0.1 n.begins)

-- an image was read of a piece that holds what the reader held, and then it was seen whether the input goes on
pub call_settled : {Own : Type 0} (view old : ImagesView) (unread : List ℕ) (first middle last : Own) (stands : Type 0) → view ≡ old → unread ≡ view.held
    → view.judged + length view.held ≤ 268435456 → old.count < 256 → 0 < old.count
    → ((view.count == 0) ≡ false → ((middle ≡ first) × (stands → ⊥)) ⊎ (AreUndecided unread × MayBegin (view.count == 0) unread))
    → ((stands → ⊥) → last ≡ middle) → (last ≡ first) ⊎ SettlesNone old
call_settled view old unread first middle last stands is held low few some reads quiet =
    let later : (view.count == 0) ≡ false = ap (λ (v : ImagesView). v.count == 0) is ∙ not_zero old.count some in
    elim (reads later) [
      | inl r ↦ inl (quiet r.1 ∙ r.0)
      | inr u ↦
          let now : unread ≡ old.held = held ∙ ap (λ (v : ImagesView). v.held) is in
          inr (lacks_next old some few (subst (λ (v : ImagesView). v.judged + length v.held ≤ 268435456) is low)
          (subst AreUndecided now u.0, subst (λ (l : List ℕ). MayBegin false l) now (subst (λ (b : Bool). MayBegin b unread) later u.1)))
    ]
  where
    not_zero : (n : ℕ) → 0 < n → (n == 0) ≡ false
    not_zero n lt = search (rules, lt)

settles_both : (old : ImagesView) → SettlesNext old.count old.judged old.held → SettlesNone old → ⊥
settles_both old (inl next) none = none.1 next
settles_both old (inr d) none = none.0 d.images d.were d.fault d.has_fault

pub settled_same : {Own : Type 0} (old : ImagesView) (first last : Own) → (last ≡ first) ⊎ SettlesNone old → SettlesNext old.count old.judged old.held → last ≡ first
settled_same old first last (inl same) s = same
settled_same old first last (inr none) s = absurd (settles_both old s none)

-- behind as many images as there may be something is held that settles the answer
pub last_settled : (count judged : ℕ) (held : List ℕ) → count ≡ 256 → judged ≤ 268435456 → SettlesNext count judged held → 0 < length held
last_settled count judged [] full low (inl next) = let fewer = next.fewer in absurd (omega (arith, fewer, full))
last_settled count judged [] full low (inr d) = absurd (last_undecided count judged full low d.images d.were d.fault d.has_fault)
last_settled count judged (byte ∷ held) full low s = omega arith
