use Rattle.std.proofs.Common.{◌≡◌, ◌≢◌, ℕ, ◌+◌, ◌<◌, List, length, ◌↔◌, arith, sym, ◌∙◌, subst, ⊎_elim}
use Rattle.std.proofs.lemmas.Bool.{cases_eq}
use Rattle.layout_geom.specs.declared.rect.Rect.{Rect}
use Rattle.reading_order.specs.declared.table.Table.{Table}
use Rattle.reading_order.specs.Rules.{IsBefore}
use Rattle.reading_order.specs.Tables.{is_marked, Marks}
use Rattle.reading_order.specs.Shown.{IsRowShown, IsShown}
use Rattle.reading_order.proofs.Marking.{IsBlankFrom}
use Rattle.reading_order.proofs.rows.table_of.Goals as goal

module _ (lines : List Rect) (old new : Table) (later : ℕ) (side : old.side ≡ length lines) (low : later < length lines) (is : IsRowShown lines old new later (length lines)) where
  same_row : (a b : ℕ) → b ≢ later → a < length lines → b < length lines → is_marked new a b ≡ is_marked old a b
  same_row a b ne a_low b_low = is.others a b (omega (arith, side, a_low)) (omega (arith, side, b_low)) ne

  shown_next : IsShown lines old later → IsShown lines new (later + 1)
  shown_next shown a b a_low b_low =
      ⊎_elim
      (λ here.
      let P : ℕ → Type 0 = λ z. Marks new a z ↔ IsBefore lines a z in
      subst P (sym here) (is.shown a a_low))
      (λ ne.
      let before = shown a b a_low (omega (arith, b_low, ne)) in
      let e = same_row a b ne a_low (omega (arith, b_low, low)) in
      (λ h. before.0 (sym e ∙ h), λ h. e ∙ before.1 h))
      (cases_eq b later)

  blank_next : IsBlankFrom old (length lines) later → IsBlankFrom new (length lines) (later + 1)
  blank_next blank a b a_low above b_low =
      let ne : b ≢ later = omega arith in
      same_row a b ne a_low b_low ∙ blank a b a_low (omega arith) b_low

pub loop-later-preserved : goal.loop-later-preserved
loop-later-preserved c =
    let lines = c.args.lines.now in
    let old = c.loop-later.table in
    let new = c.mark_row.new.table in
    let later = c.loop-later.later in
    let inv = c.loop-later.invariant in (
      c.mark_row.ensures.side ∙ inv.0,
      shown_next lines old new later inv.0 (omega arith) c.mark_row.ensures inv.1,
      blank_next lines old new later inv.0 (omega arith) c.mark_row.ensures inv.2,
      inv.3,
    )
