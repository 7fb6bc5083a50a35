-- A page of which some first rows are there, packed as the runs of their black places.
use Rattle.std.specs.Prelude.{◌≡◌, ◌<◌, ℕ, ◌-◌, List, ◌∷◌, length, slice_index, take, drop}
use Rattle.std.specs.List.{list_any}
use Rattle.packed_rows.specs.Page.{Page, page_with, HasPicture}
use Rattle.page_runs.specs.declared.row_runs.Run.{Run}
use Rattle.page_runs.specs.Runs.{has_column}

-- what a page keeps: its size, the runs of all rows that are there, and for each of these rows how many runs lie in it and above
pub record Packed : Type 0 where
  pub width : ℕ
  pub height : ℕ
  pub runs : List Run
  pub ends : List ℕ

-- how many rows are there
unfoldable pub rows_of : Packed → ℕ
rows_of p = length p.ends

-- of these runs those from a number up to another
abbrev pub runs_between : List Run → ℕ → ℕ → List Run
runs_between runs from to = take (to - from) (drop from runs)

-- the runs of the row y, none where it is not there
unfoldable pub row_of : Packed → ℕ → List Run
row_of p y = runs_between p.runs (slice_index (0 ∷ p.ends) y) (slice_index p.ends y)

-- the page: a place is black where a run of its row has it; rows that are not there are white
unfoldable pub page_of : Packed → Page
page_of p = page_with p.width p.height (λ x y. list_any (has_column x) (row_of p y))

-- every row is there, and there is one
pub record IsWhole (p : Packed) : Type 0 where
  pub every : rows_of p ≡ (page_of p).height
  pub some : 0 < (page_of p).height

-- the page of these rows has the size and the black places of this page
abbrev pub Holds : Packed → Page → Type 0
Holds p page = HasPicture (page_of p) page
