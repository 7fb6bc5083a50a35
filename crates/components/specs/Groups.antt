-- Groups of runs that are known to be connected.
use Rattle.std.specs.Prelude.{◌≡◌, ◌<◌, ◌≤◌, ◌+◌, ℕ, List, length, slice_index, slice_index_or, Contains}
use Rattle.page_runs.specs.Page.{Page}
use Rattle.page_runs.specs.Runs.{run_at, AreApart}
use Rattle.page_runs.specs.declared.row_runs.Run.{Run}
use Rattle.components.specs.declared.place.Place.{Place}
use Rattle.components.specs.declared.placed_run.PlacedRun.{PlacedRun}
use Rattle.components.specs.declared.bounds.Bounds.{Bounds}
use Rattle.components.specs.declared.groups.Group.{Group}
use Rattle.components.specs.Connected.{IsBlack, IsConnected}
use Rattle.components.specs.Runs.{IsInRun, IsBlackRun, AreTouching, placed, first_of}

-- the group of no run
abbrev pub no_group : Group
no_group = record { parent = 0; bounds = record { x0 = 0; y0 = 0; x1 = 0; y1 = 0 } }

abbrev pub group_at : List Group → ℕ → Group
group_at groups g = slice_index_or groups g no_group

-- each group points at itself, or at one that was begun before it
abbrev pub DoPointBack : List Group → Type 0
DoPointBack groups = (g : ℕ) → g < length groups → (group_at groups g).parent ≤ g

-- the way from each group ends at its root
pub record AreRooted (groups : List Group) (root : ℕ → ℕ) : Type 0 where
  pub back : DoPointBack groups
  pub on_the_way : (g : ℕ) → g < length groups → root (group_at groups g).parent ≡ root g
  pub itself : (g : ℕ) → g < length groups → (group_at groups g).parent ≡ g → root g ≡ g
  pub within : (g : ℕ) → g < length groups → root g < length groups
  pub ends : (g : ℕ) → g < length groups → (group_at groups (root g)).parent ≡ root g
  pub others : (g : ℕ) → length groups ≤ g → root g ≡ g

-- a run that was put into a group
pub record Member : Type 0 where
  pub run : PlacedRun
  pub group : ℕ

-- the place lies within the sides
pub record HasPlace (b : Bounds) (p : Place) : Type 0 where
  pub from_left : b.x0 ≤ p.x
  pub to_right : p.x < b.x1
  pub from_top : b.y0 ≤ p.y
  pub to_bottom : p.y < b.y1

-- each side is touched by a place of the set
pub record IsTouched (S : Place → Type 0) (b : Bounds) : Type 0 where
  pub left : (p : Place) × S p × (p.x ≡ b.x0)
  pub right : (p : Place) × S p × (p.x + 1 ≡ b.x1)
  pub top : (p : Place) × S p × (p.y ≡ b.y0)
  pub bottom : (p : Place) × S p × (p.y + 1 ≡ b.y1)

-- a run with these sides is in the group, and the sides are those of connected places
pub record HasSome (page : Page) (members : List Member) (groups : List Group) (root : ℕ → ℕ) (g : ℕ) : Type 0 where
  pub one : Member
  pub listed : Contains members one
  pub in_group : root one.group ≡ g
  pub touched : IsTouched (IsConnected page (first_of one.run)) (group_at groups g).bounds

-- runs that have one root are connected, and the root has the sides round them
pub record AreGrouped (page : Page) (members : List Member) (groups : List Group) (root : ℕ → ℕ) : Type 0 where
  pub rooted : AreRooted groups root
  pub valid : (m : Member) → Contains members m → m.group < length groups
  pub black : (m : Member) → Contains members m → IsBlackRun page m.run
  pub sound : (m n : Member) → Contains members m → Contains members n → root m.group ≡ root n.group
      → IsConnected page (first_of m.run) (first_of n.run)
  pub inside : (m : Member) (p : Place) → Contains members m → IsInRun m.run p → HasPlace (group_at groups (root m.group)).bounds p
  pub some : (g : ℕ) → g < length groups → root g ≡ g → HasSome page members groups root g

-- groups of runs, of which those that touch have one root
pub record ArePartition (page : Page) (members : List Member) (groups : List Group) : Type 0 where
  pub root : ℕ → ℕ
  pub grouped : AreGrouped page members groups root
  pub met : (m n : Member) → Contains members m → Contains members n → AreTouching m.run n.run → root m.group ≡ root n.group

-- groups after two of them became one
pub record AreJoined (page : Page) (members : List Member) (one other : ℕ) (root : ℕ → ℕ) (groups : List Group) : Type 0 where
  pub now : ℕ → ℕ
  pub grouped : AreGrouped page members groups now
  pub coarser : (g h : ℕ) → root g ≡ root h → now g ≡ now h
  pub together : now one ≡ now other

-- the groups of two connected runs become one
abbrev pub Joins : Page → List Member → ℕ → ℕ → List Group → (ℕ → ℕ) → List Group → Type 0
Joins page members one other old root new = AreGrouped page members old root
    → (m n : Member) → Contains members m → Contains members n → m.group ≡ one → n.group ≡ other
    → IsConnected page (first_of m.run) (first_of n.run) → AreJoined page members one other root new

-- a run of a row with the number of its group
abbrev pub member_at : ℕ → List Run → List ℕ → ℕ → Member
member_at y row labels i = record { run = placed y (run_at row i); group = slice_index labels i }

-- the members in the row above this one are these runs, which have their groups in the second list
pub record IsRowListed (members : List Member) (below : ℕ) (row : List Run) (labels : List ℕ) : Type 0 where
  pub len : length labels ≤ length row
  pub has : (i : ℕ) → i < length labels → (y : ℕ) × (y + 1 ≡ below) × Contains members (member_at y row labels i)
  pub only : (m : Member) → Contains members m → m.run.row + 1 ≡ below
      → (i : ℕ) × (i < length labels) × (m ≡ member_at m.run.row row labels i)

-- the runs of the rows above y are put into groups, and these are those of the last such row
pub record IsDoneAbove (page : Page) (y : ℕ) (row : List Run) (labels : List ℕ) (groups : List Group) : Type 0 where
  pub members : List Member
  pub partition : ArePartition page members groups
  pub above : (m : Member) → Contains members m → m.run.row < y
  pub every : (p : Place) → p.y < y → IsBlack page p → (m : Member) × Contains members m × IsInRun m.run p
  pub listed : IsRowListed members y row labels
  pub apart : AreApart page.width row

-- the same, and the first runs of the row y are put into groups too
pub record IsDoneUpTo (page : Page) (y : ℕ) (up : List Run) (above : List ℕ) (row : List Run) (labels : List ℕ) (groups : List Group)
    : Type 0 where
  pub members : List Member
  pub partition : ArePartition page members groups
  pub not_below : (m : Member) → Contains members m → m.run.row ≤ y
  pub every : (p : Place) → p.y < y → IsBlack page p → (m : Member) × Contains members m × IsInRun m.run p
  pub listed : IsRowListed members y up above
  pub here : IsRowListed members (y + 1) row labels

-- each black place of the page lies in a run that is in a group
pub record IsDone (page : Page) (groups : List Group) : Type 0 where
  pub members : List Member
  pub partition : ArePartition page members groups
  pub every : (p : Place) → IsBlack page p → (m : Member) × Contains members m × IsInRun m.run p

-- a run of which nothing was put into a group, and the row above it, whose runs before `near` end left of it
pub record CanPut (page : Page) (members : List Member) (up : List Run) (above : List ℕ) (near : ℕ) (run : PlacedRun) (groups : List Group)
    : Type 0 where
  pub partition : ArePartition page members groups
  pub black : IsBlackRun page run
  pub not_below : (m : Member) → Contains members m → m.run.row ≤ run.row
  pub lone : (m : Member) → Contains members m → m.run.row ≡ run.row → AreTouching run m.run → ⊥
  pub listed : IsRowListed members run.row up above
  pub apart : AreApart page.width up
  pub left : (i : ℕ) → i < near → (run_at up i).x1 < run.x0
  pub right : near < length up → run.x0 ≤ (run_at up near).x1

-- a run that is in a group, and the runs of the row above it, which end at its first column or right of it from one on
pub record CanJoin (page : Page) (members : List Member) (up : List Run) (above : List ℕ) (from : ℕ) (run : PlacedRun) (group : ℕ)
    (groups : List Group) (root : ℕ → ℕ) : Type 0 where
  pub grouped : AreGrouped page members groups root
  pub member : Contains members (record { run = run; group = group })
  pub listed : (i : ℕ) → i < length above → (y : ℕ) × (y + 1 ≡ run.row) × Contains members (member_at y up above i)
  pub apart : AreApart page.width up
  pub right : (i : ℕ) → from ≤ i → i < length up → run.x0 ≤ (run_at up i).x1

-- groups after the group of a run and those of the runs of the row above that touch it became one
pub record AreAllJoined (page : Page) (members : List Member) (up : List Run) (above : List ℕ) (from to : ℕ) (run : PlacedRun) (group : ℕ)
    (root : ℕ → ℕ) (groups : List Group) : Type 0 where
  pub now : ℕ → ℕ
  pub grouped : AreGrouped page members groups now
  pub coarser : (g h : ℕ) → root g ≡ root h → now g ≡ now h
  pub together : (i : ℕ) → from ≤ i → i < to → (run_at up i).x0 ≤ run.x1 → now group ≡ now (slice_index above i)
