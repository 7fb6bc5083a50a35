-- How many steps lead from each number to one of them.
use Rattle.std.specs.Prelude.{◌≡◌, ℕ, suc, ◌+◌, ◌<◌, ◌≤◌, List, length, slice_index}

-- some number below the limit that comes next and is a number of steps away
pub record HasNext (before : ℕ → ℕ → Type 0) (limit : ℕ) (steps : List ℕ) (from away : ℕ) : Type 0 where
  pub next : ℕ
  pub low : next < limit
  pub is_next : before from next
  pub is_away : slice_index steps next ≡ away

-- the least such number
pub record IsLeastNext (before : ℕ → ℕ → Type 0) (limit : ℕ) (steps : List ℕ) (from away next : ℕ) : Type 0 where
  pub low : next < limit
  pub is_next : before from next
  pub is_away : slice_index steps next ≡ away
  pub least : (y : ℕ) → y < limit → before from y → slice_index steps y ≡ away → next ≤ y

-- the least number of steps from each number to the target, and the limit where none lead there
pub record AreSteps (before : ℕ → ℕ → Type 0) (limit target : ℕ) (steps : List ℕ) : Type 0 where
  pub count : length steps ≡ limit
  pub at_target : slice_index steps target ≡ 0
  pub only_target : (x : ℕ) → x < limit → slice_index steps x ≡ 0 → x ≡ target
  pub near : (x y : ℕ) → x < limit → y < limit → before x y → slice_index steps x ≤ slice_index steps y + 1
  pub far : (x away : ℕ) → x < limit → slice_index steps x ≡ suc away → suc away < limit → HasNext before limit steps x away

-- the least number of steps from what comes next, or the limit where none leads to the target
abbrev pub AreAtLeast : (ℕ → ℕ → Type 0) → ℕ → List ℕ → ℕ → ℕ → Type 0
AreAtLeast before limit steps from away = (y : ℕ) → y < limit → before from y → away ≤ slice_index steps y
