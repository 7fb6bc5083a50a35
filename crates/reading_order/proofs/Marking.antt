-- A row of a table, number by number.
use Rattle.std.proofs.Common.{◌≡◌, ℕ, ◌+◌, ◌<◌, ◌≤◌, List, true, false, ◌↔◌, arith, sym, ◌∙◌, subst, ⊎_elim}
use Rattle.std.proofs.lemmas.Bool.{cases_eq, false≢true}
use Rattle.layout_geom.specs.declared.rect.Rect.{Rect}
use Rattle.reading_order.specs.declared.table.Table.{Table}
use Rattle.reading_order.specs.Rules.{IsBefore}
use Rattle.reading_order.specs.Tables.{is_marked, Marks}
use Rattle.reading_order.specs.Shown.{IsRowShown}

-- The rows from a number on have no marks.
abbrev pub IsBlankFrom : Table → ℕ → ℕ → Type 0
IsBlankFrom table count from = (a b : ℕ) → a < count → from ≤ b → b < count → is_marked table a b ≡ false

module _ (lines : List Rect) (old table : Table) (later earlier : ℕ) (is : IsRowShown lines old table later earlier) (later_low : later < old.side) (low : earlier < old.side) where
  pub number_marked : (new : Table) → IsBefore lines earlier later → new.side ≡ table.side → is_marked new earlier later ≡ true
      → ((a b : ℕ) → a < table.side → b < table.side → (b ≡ later → a ≡ earlier → ⊥) → is_marked new a b ≡ is_marked table a b) → IsRowShown lines old new later (earlier + 1)
  number_marked new before side marked others =
      let kept : (a b : ℕ) → a < old.side → b < old.side → (b ≡ later → a ≡ earlier → ⊥) → is_marked new a b ≡ is_marked table a b =
      λ a b a_low b_low apart. others a b (omega (arith, is.side, a_low)) (omega (arith, is.side, b_low)) apart in
      record {
        side = side ∙ is.side;
        shown = λ a less. ⊎_elim
            (λ here.
            let P : ℕ → Type 0 = λ z. Marks new z later ↔ IsBefore lines z later in
            subst P (sym here) (λ _. before, λ _. marked))
            (λ ne.
            let e = kept a later (omega (arith, less, low)) later_low (λ _ same. ne same) in
            let shown = is.shown a (omega (arith, less, ne)) in
            (λ h. shown.0 (sym e ∙ h), λ h. e ∙ shown.1 h))
            (cases_eq a earlier);
        blank = λ a more a_low. kept a later a_low later_low (λ _ same. absurd (omega (arith, same, more))) ∙ is.blank a (omega (arith, more)) a_low;
        others = λ a b a_low b_low ne. kept a b a_low b_low (λ same _. ne same) ∙ is.others a b a_low b_low ne;
      }

  pub number_skipped : (IsBefore lines earlier later → ⊥) → IsRowShown lines old table later (earlier + 1)
  number_skipped not_before = record {
    side = is.side;
    shown = λ a less. ⊎_elim
        (λ here.
        let P : ℕ → Type 0 = λ z. Marks table z later ↔ IsBefore lines z later in
        subst P (sym here) (λ h. absurd (false≢true (sym (is.blank earlier (omega arith) low) ∙ h)), λ h. absurd (not_before h)))
        (λ ne. is.shown a (omega (arith, less, ne)))
        (cases_eq a earlier);
    blank = λ a more a_low. is.blank a (omega (arith, more)) a_low;
    others = is.others;
  }
