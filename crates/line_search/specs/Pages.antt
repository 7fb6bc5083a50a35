-- The page of a grid, as its lists alone or with a table of keys.
use Rattle.std.specs.Prelude.{◌≡◌, ℕ, ⊤}
use Rattle.line_counts.specs.Table.{LivingPage}
use Rattle.line_search.specs.declared.grid.TheConstants.{LEAST_SCORE}
use Rattle.line_search.specs.declared.living.Living.{Living}
use Rattle.line_search.specs.declared.living.Living.TheVariants.{Plain, Counted}
use Rattle.line_search.specs.Lines.{deepest}
use Rattle.line_search.specs.Problem.{GridProblem, IsWithinLimits}

-- the page, however it is kept
abbrev pub page_of : Living → LivingPage
page_of (Plain lists) = record { height = lists.height; boxes = lists.boxes; alive = lists.alive; gutters = lists.gutters }
page_of (Counted keys) = keys.page

-- the problem of its lines, where its boxes have this median height
abbrev pub problem_of : LivingPage → ℕ → GridProblem
problem_of page median = record { height = page.height; median = median; boxes = page.boxes; alive = page.alive; gutters = page.gutters }

abbrev pub living_page : GridProblem → LivingPage
living_page problem = record { height = problem.height; boxes = problem.boxes; alive = problem.alive; gutters = problem.gutters }

-- keys that are kept are those of the lines that may be admissible
abbrev pub HasKeysOf : ℕ → Living → Type 0
HasKeysOf median (Plain lists) = ⊤
HasKeysOf median (Counted keys) = (keys.least ≡ LEAST_SCORE) × (keys.deepest ≡ deepest median)

-- what a grid keeps to
pub record IsKept (living : Living) (median : ℕ) : Type 0 where
  pub limits : IsWithinLimits (problem_of (page_of living) median)
  pub keys : HasKeysOf median living
