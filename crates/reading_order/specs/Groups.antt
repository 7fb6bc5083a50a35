-- The levels of a search back that gathers the numbers on one cycle into groups, which stand on a path from level 1 on.
use Rattle.std.specs.Prelude.{◌≡◌, ◌≢◌, ℕ, ◌<◌, ◌≤◌, List, Bool, true, false, length, slice_index, slice_index_or, nat_eq, All, ◌⊎◌}
use Rattle.std.specs.List.{count_by}
use Rattle.reading_order.specs.declared.groups.TheConstants.{CLOSED}
use Rattle.reading_order.specs.declared.table.Table.{Table}
use Rattle.reading_order.specs.Tables.{Marks}
use Rattle.reading_order.specs.Cycles.{Leads}

-- none of the numbers below `upto` is before a number and stands lower
abbrev pub IsNoneLower : Table → List ℕ → ℕ → ℕ → Type 0
IsNoneLower before levels x upto = (y : ℕ) → y < upto → Marks before y x → slice_index levels x ≤ slice_index levels y

-- Numbers that were not met have level 0, those on the path the level of their group, and closed ones the highest level.
pub record AreLevels (before : Table) (levels looked : List ℕ) (depth : ℕ) : Type 0 where
  pub count : length levels ≡ before.side
  pub looked_count : length looked ≡ before.side
  pub low : (x : ℕ) → x < before.side → slice_index looked x ≤ before.side
  pub rise : (x : ℕ) → x < before.side → IsNoneLower before levels x (slice_index looked x)
  pub unmet : (x : ℕ) → x < before.side → slice_index levels x ≡ 0 → slice_index looked x ≡ 0
  pub closed : (x : ℕ) → x < before.side → slice_index levels x ≡ CLOSED → slice_index looked x ≡ before.side
  pub last : (x : ℕ) → x < before.side → depth < slice_index levels x → slice_index levels x ≡ CLOSED

-- all that is before the numbers at a level was looked at
abbrev pub IsLookedWhole : Table → List ℕ → List ℕ → ℕ → Type 0
IsLookedWhole before levels looked level =
    (x : ℕ) → x < before.side → slice_index levels x ≡ level → slice_index looked x ≡ before.side

-- what is before a number that stands at a level or above it stands no lower
abbrev pub AreSettled : Table → List ℕ → ℕ → Type 0
AreSettled before levels level =
    (x y : ℕ) → x < before.side → y < before.side → level ≤ slice_index levels x → Marks before y x
    → slice_index levels x ≤ slice_index levels y

-- a number that is before one of the last group
pub record IsBeforeGroup (before : Table) (levels : List ℕ) (depth x : ℕ) : Type 0 where
  pub later : ℕ
  pub low : later < before.side
  pub at : slice_index levels later ≡ depth
  pub marks : Marks before x later

-- a number that is before one of the last group and stands lower, or one that was not met while there is no group
abbrev pub IsMetNext : Table → List ℕ → ℕ → ℕ → Type 0
IsMetNext before levels depth x =
    ((slice_index levels x < depth) × IsBeforeGroup before levels depth x) ⊎ ((depth ≡ 0) × (slice_index levels x ≡ 0))

-- how many numbers were not met
abbrev pub count_unmet : List ℕ → ℕ
count_unmet levels = count_by (nat_eq 0) levels

-- a way from one number over others to one
pub record IsWalk (before : ℕ → ℕ → Type 0) (limit x y : ℕ) : Type 0 where
  pub over : List ℕ
  pub below : All (λ z. z < limit) over
  pub leads : Leads before x over y

abbrev pub Reaches : (ℕ → ℕ → Type 0) → ℕ → ℕ → ℕ → Type 0
Reaches before limit x y = (x ≡ y) ⊎ IsWalk before limit x y

-- each number of the path leads to those of its group and of all groups at lower levels
abbrev pub IsChained : Table → List ℕ → ℕ → Type 0
IsChained before levels depth =
    (x y : ℕ) → x < before.side → y < before.side → 0 < slice_index levels x → slice_index levels x ≤ slice_index levels y
    → slice_index levels y ≤ depth → Reaches (Marks before) before.side y x

-- a number is flagged, or a way leads from it back to it
abbrev pub IsFlaggedOrOnRing : Table → List Bool → ℕ → Type 0
IsFlaggedOrOnRing before flags x = (slice_index_or flags x false ≡ true) ⊎ IsWalk (Marks before) before.side x x

abbrev pub AreFlaggedOrOnRings : Table → List Bool → Type 0
AreFlaggedOrOnRings before flags = (x : ℕ) → x < before.side → IsFlaggedOrOnRing before flags x

-- what the groups on the path say, and those that are closed
pub record AreGathered (before : Table) (levels : List ℕ) (flags : List Bool) (depth : ℕ) : Type 0 where
  pub chain : IsChained before levels depth
  pub known : (x : ℕ) → x < before.side → slice_index levels x ≡ CLOSED → IsFlaggedOrOnRing before flags x

-- for each number at a level another one is there
abbrev pub AreSeveralAt : List ℕ → ℕ → Type 0
AreSeveralAt levels level =
    (x : ℕ) → x < length levels → slice_index levels x ≡ level
    → (y : ℕ) × (y < length levels) × (slice_index levels y ≡ level) × (x ≢ y)

-- the first number at a level from a place on
pub record IsFirstAt (levels : List ℕ) (level from x : ℕ) : Type 0 where
  pub low : x < length levels
  pub behind : from ≤ x
  pub at : slice_index levels x ≡ level
  pub first : (y : ℕ) → from ≤ y → y < x → slice_index levels y ≢ level

-- no number from a place on is at a level
abbrev pub IsNoneAt : List ℕ → ℕ → ℕ → Type 0
IsNoneAt levels level from = (y : ℕ) → from ≤ y → y < length levels → slice_index levels y ≢ level

-- the only number at a level
pub record IsLoneAt (levels : List ℕ) (level x : ℕ) : Type 0 where
  pub low : x < length levels
  pub at : slice_index levels x ≡ level
  pub only : (y : ℕ) → y < length levels → slice_index levels y ≡ level → y ≡ x

-- the numbers below a place that stood at one level, at another or between now stand at a level, and all else stays
pub record AreMoved (old new : List ℕ) (least most level place : ℕ) : Type 0 where
  pub count : length new ≡ length old
  pub moved : (x : ℕ) → x < place → least ≤ slice_index old x → slice_index old x ≤ most → slice_index new x ≡ level
  pub stays : (x : ℕ) → (slice_index old x < least) ⊎ (most < slice_index old x) → slice_index new x ≡ slice_index old x
  pub later : (x : ℕ) → place ≤ x → slice_index new x ≡ slice_index old x

-- what is before a number that is flagged is flagged
abbrev pub AreClosed : Table → List Bool → Type 0
AreClosed before flags =
    (x y : ℕ) → x < before.side → y < before.side → slice_index_or flags x false ≡ true → Marks before y x
    → slice_index_or flags y false ≡ true

-- the numbers below a place have a value where they are flagged, and 0 where they are not
pub record IsValueOf (flags : List Bool) (value : ℕ) (values : List ℕ) (place : ℕ) : Type 0 where
  pub count : length values ≡ length flags
  pub flagged : (x : ℕ) → x < place → slice_index_or flags x false ≡ true → slice_index values x ≡ value
  pub others : (x : ℕ) → x < length flags → slice_index_or flags x false ≡ false → slice_index values x ≡ 0
