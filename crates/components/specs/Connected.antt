-- Connected places of a page, and their components.
use Rattle.std.specs.Prelude.{◌≡◌, ◌<◌, ◌≤◌, ◌+◌, true, List, [], ◌∷◌}
use Rattle.page_runs.specs.Page.{Page}
use Rattle.components.specs.declared.place.Place.{Place}

-- the place lies on the page and is black
pub record IsBlack (page : Page) (p : Place) : Type 0 where
  pub in_row : p.x < page.width
  pub in_column : p.y < page.height
  pub black : page.is_black p.x p.y ≡ true

-- 8-neighbours, or the same place: they differ by at most 1 in x and by at most 1 in y
pub record AreNeighbours (p q : Place) : Type 0 where
  pub left : p.x ≤ q.x + 1
  pub right : q.x ≤ p.x + 1
  pub above : p.y ≤ q.y + 1
  pub below : q.y ≤ p.y + 1

-- these black places lead from the one place to the other, each near the one before
abbrev pub IsPath : Page → Place → List Place → Place → Type 0
IsPath page p [] r = p ≡ r
IsPath page p (q ∷ rest) r = AreNeighbours p q × IsBlack page q × IsPath page q rest r

-- a list of black places goes from one place to the other, and each is near the one before
pub record IsConnected (page : Page) (p r : Place) : Type 0 where
  pub from : IsBlack page p
  pub path : List Place
  pub leads : IsPath page p path r
