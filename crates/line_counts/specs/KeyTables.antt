-- The bounds that a table of keys gives for shapes of the grid.
use Rattle.std.specs.Prelude.{ℕ, ◌≤◌, ℤ}
use Rattle.box_search.specs.declared.space.Shape.{Shape}
use Rattle.box_search.specs.Search.{IsGreatestKey}
use Rattle.line_counts.specs.Shapes.{IsInside, IsSingle}
use Rattle.line_counts.specs.Plain.{plain_key}
use Rattle.line_counts.specs.Stretches.{IsKeyAt}
use Rattle.line_counts.specs.Table.{LivingPage}

-- a line of the shape scores at least so much among the living boxes, and has the key
pub record IsKeyInShape (page : LivingPage) (least : ℕ) (shape : Shape) (key : ℕ) : Type 0 where
  pub slope : ℤ
  pub offset : ℤ
  pub depth : ℕ
  pub inside : IsInside slope offset depth shape
  pub at : IsKeyAt page least slope offset depth key

-- no line of the shape that scores so much has a greater key, and that is the greatest one itself where there is one line
pub record IsShapeBound (page : LivingPage) (least : ℕ) (shape : Shape) (bound : ℕ) : Type 0 where
  pub over : (key : ℕ) → IsKeyInShape page least shape key → key ≤ bound
  pub plain : bound ≤ plain_key page.boxes page.alive shape
  pub single : IsSingle shape → IsGreatestKey (IsKeyInShape page least shape) bound

-- the page, the least score, and the greatest depth
pub record KeyTable : Type 0 where
  pub page : LivingPage
  pub least : ℕ
  pub deepest : ℕ
