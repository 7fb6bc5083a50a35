-- The least rectangle round the boxes of a word, and the words of a line.
use Rattle.std.proofs.Common.{◌≡◌, ℕ, ◌+◌, ◌-◌, ◌<◌, ◌≤◌, ◌↔◌, List, [], ◌∷◌, length, get_or, arith, sym, subst, ⊎_elim}
use Rattle.std.specs.List.{AllWithin}
use Rattle.std.proofs.lemmas.Bool.{cases_lt}
use Rattle.std.proofs.lemmas.List.{get_or_read}
use Rattle.layout_geom.specs.declared.rect.Rect.{Rect}
use Rattle.layout_geom.specs.Rectangles.{Encloses, IsLeastRect}
use Rattle.word_split.specs.Words.{IsWord, AreWordsFrom}

abbrev pub IsRoundWithin : List Rect → ℕ → ℕ → Rect → Type 0
IsRoundWithin line first last outer = AllWithin (Encloses outer) line first last

around : (r s t : Rect) → Encloses r s → Encloses s t → Encloses r t
around r s t outer inner = record {
  left = omega (arith, outer.left, inner.left);
  top = omega (arith, outer.top, inner.top);
  right = omega (arith, outer.right, inner.right);
  bottom = omega (arith, outer.bottom, inner.bottom);
}

pub round_one : (line : List Rect) (first : ℕ) (r : Rect) → first < length line → r ≡ get_or line first r → IsLeastRect (IsRoundWithin line first (first + 1)) r
round_one line first r low at = record {
  round = λ k d from to.
      let e : first ≡ k = omega (arith, from, to) in
      let itself : Encloses r r = record { left = omega arith; top = omega arith; right = omega arith; bottom = omega arith } in
      subst (λ (n : ℕ). Encloses r (get_or line n d)) e (subst (λ (s : Rect). Encloses r s) (get_or_read line first r low at d) itself);
  least = λ other all. subst (λ (s : Rect). Encloses other s) (sym at) (all first r (omega arith) (omega arith));
}

-- one box more
pub round_more : (line : List Rect) (first last : ℕ) (r next hull : Rect) → first ≤ last → last < length line → next ≡ get_or line last next
    → Encloses hull r → Encloses hull next → ((outer : Rect) → Encloses outer r → Encloses outer next → Encloses outer hull)
    → IsLeastRect (IsRoundWithin line first last) r → IsLeastRect (IsRoundWithin line first (last + 1)) hull
round_more line first last r next hull some low at has_first has_next small round = record {
  round = λ k d from to. ⊎_elim
      (λ before. around hull r (get_or line k d) has_first (round.round k d from before))
      (λ behind.
      let e : last ≡ k = omega (arith, behind, to) in
      subst (λ (n : ℕ). Encloses hull (get_or line n d)) e (subst (λ (s : Rect). Encloses hull s) (get_or_read line last next low at d) has_next))
      (cases_lt k last);
  least = λ other all. small other
      (round.least other (λ k d from to. all k d from (omega (arith, to))))
      (subst (λ (s : Rect). Encloses other s) (sym at) (all last next some (omega arith)));
}

module _ (line : List Rect) (B : ℕ → Type 0) (first place : ℕ) where
  -- no break within a word, with one place more
  pub whole_more : ((k : ℕ) → first ≤ k → k < place → B k → ⊥) → (B place → ⊥) → (k : ℕ) → first ≤ k → k < place + 1 → B k → ⊥
  whole_more whole here k from to breaks = ⊎_elim
      (λ before. whole k from before breaks)
      (λ behind. let e : k ≡ place = omega (arith, behind, to) in here (subst B e breaks))
      (cases_lt k place)

  -- a word that ends behind the box at a place
  pub word_done : (last : ℕ) (word : Rect) → last ≡ place + 1 → first ≤ place → last ≤ length line → IsLeastRect (IsRoundWithin line first (place + 1)) word
      → ((k : ℕ) → first ≤ k → k < place → B k → ⊥) → (last < length line → B place) → IsWord line B first last word
  word_done last word ends some fits round whole cut =
      let back : place ≡ last - 1 = omega (arith, ends) in
      record {
        some = omega (arith, ends, some);
        fits = fits;
        whole = λ k from to. whole k from (omega (arith, to, ends));
        cut = λ more. subst B back (cut more);
        round = subst (λ (n : ℕ). IsLeastRect (IsRoundWithin line first n) word) (sym ends) round;
      }

-- another way to say where the breaks are
module _ (line : List Rect) (B C : ℕ → Type 0) (same : (k : ℕ) → B k ↔ C k) where
  word_same : (first last : ℕ) (word : Rect) → IsWord line B first last word → IsWord line C first last word
  word_same first last word is = record {
    some = is.some;
    fits = is.fits;
    whole = λ k from to breaks. is.whole k from to ((same k).1 breaks);
    cut = λ more. (same (last - 1)).0 (is.cut more);
    round = is.round;
  }

  pub words_same : (first : ℕ) (words : List Rect) → AreWordsFrom line B first words → AreWordsFrom line C first words
  words_same first [] are = are
  words_same first (word ∷ words) are = (are.0, word_same first are.0 word are.1, words_same are.0 words are.2)
