-- The components that were found so far.
use Rattle.std.specs.Prelude.{◌<◌, ◌⊎◌, ℕ, List, All, Any, Contains}
use Rattle.std.specs.List.{AllZip, AllPairs}
use Rattle.page_runs.specs.Page.{Page}
use Rattle.layout_geom.specs.declared.rect.Rect.{Rect}
use Rattle.components.specs.declared.place.Place.{Place}
use Rattle.components.specs.Connected.{IsBlack, IsConnected}
use Rattle.components.specs.Boxes.{IsKept}
use Rattle.components.specs.Runs.{IsInRun}
use Rattle.components.specs.Groups.{Member}

-- the place lies in a run whose root comes before this group
pub record IsSeenBefore (members : List Member) (root : ℕ → ℕ) (g : ℕ) (p : Place) : Type 0 where
  pub one : Member
  pub listed : Contains members one
  pub before : root one.group < g
  pub inside : IsInRun one.run p

-- the component of the place was seen, and no other place
pub record SpreadsOver (page : Page) (start : Place) (before now : Place → Type 0) : Type 0 where
  pub keeps : (p : Place) → before p → now p
  pub gains : (p : Place) → IsConnected page start p → now p
  pub only : (p : Place) → now p → before p ⊎ IsConnected page start p

-- the places of whole components were seen, and of these the boxes of the kept ones are there
pub record IsScanned (page : Page) (seen : Place → Type 0) (boxes : List Rect) : Type 0 where
  pub blacks : (p : Place) → seen p → IsBlack page p
  pub closed : (p q : Place) → seen p → IsConnected page p q → seen q
  pub places : List Place
  pub kept : AllZip (IsKept page) places boxes
  pub apart : AllPairs (λ p q. IsConnected page p q → ⊥) places
  pub marked : All seen places
  pub every : (p : Place) (box : Rect) → seen p → IsKept page p box → Any (IsConnected page p) places
