-- A table that says which lines are read before which.
use Rattle.std.specs.Prelude.{◌≡◌, ◌≢◌, ℕ, ◌<◌, ◌≤◌, List, false, length, ◌↔◌}
use Rattle.layout_geom.specs.declared.rect.Rect.{Rect}
use Rattle.reading_order.specs.declared.table.Table.{Table}
use Rattle.reading_order.specs.Rules.{IsBefore}
use Rattle.reading_order.specs.Tables.{is_marked, Marks}

-- The row of a line says of each number below `upto` whether it is read before that line, and has no marks from there
-- on. The other rows are as before.
pub record IsRowShown (lines : List Rect) (old new : Table) (later upto : ℕ) : Type 0 where
  pub side : new.side ≡ old.side
  pub shown : (a : ℕ) → a < upto → Marks new a later ↔ IsBefore lines a later
  pub blank : (a : ℕ) → upto ≤ a → a < old.side → is_marked new a later ≡ false
  pub others : (a b : ℕ) → a < old.side → b < old.side → b ≢ later → is_marked new a b ≡ is_marked old a b

-- The rows below a number say it.
abbrev pub IsShown : List Rect → Table → ℕ → Type 0
IsShown lines table upto = (a b : ℕ) → a < length lines → b < upto → Marks table a b ↔ IsBefore lines a b
