-- How far the numbers before each number are known to be taken.
use Rattle.std.specs.Prelude.{◌≡◌, ℕ, ◌<◌, ◌≤◌, List, Bool, true, false, length, slice_index, slice_index_or, nat_eq}
use Rattle.std.specs.List.{list_any}
use Rattle.reading_order.specs.declared.table.Table.{Table}
use Rattle.reading_order.specs.Tables.{Marks}

-- each number below `upto` that is before x is taken
abbrev pub IsClearUpTo : Table → List Bool → ℕ → ℕ → Type 0
IsClearUpTo before taken x upto = (y : ℕ) → y < upto → Marks before y x → slice_index_or taken y false ≡ true

-- the same of each number, up to its own place
pub record AreLooked (before : Table) (taken : List Bool) (looked : List ℕ) : Type 0 where
  pub count : length looked ≡ before.side
  pub low : (x : ℕ) → x < before.side → slice_index looked x ≤ before.side
  pub clear : (x : ℕ) → x < before.side → IsClearUpTo before taken x (slice_index looked x)

-- some number that is not taken is before x
pub record IsHeld (before : Table) (taken : List Bool) (x : ℕ) : Type 0 where
  pub earlier : ℕ
  pub low : earlier < before.side
  pub marks : Marks before earlier x
  pub out : slice_index_or taken earlier false ≡ false

-- a number that is not taken is held
abbrev pub IsNotFree : Table → List Bool → ℕ → Type 0
IsNotFree before taken x = slice_index_or taken x false ≡ false → IsHeld before taken x

-- the least number that is not taken and not held
pub record IsLeastFreeNumber (before : Table) (taken : List Bool) (x : ℕ) : Type 0 where
  pub low : x < before.side
  pub out : slice_index_or taken x false ≡ false
  pub clear : IsClearUpTo before taken x before.side
  pub least : (y : ℕ) → y < x → IsNotFree before taken y

-- the flags say which numbers are in the list
abbrev pub AreFlags : ℕ → List Bool → List ℕ → Type 0
AreFlags limit taken list = (x : ℕ) → x < limit → slice_index_or taken x false ≡ list_any (nat_eq x) list
