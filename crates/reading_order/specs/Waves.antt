-- The numbers that are found at one step, and the steps found so far.
use Rattle.std.specs.Prelude.{◌≡◌, ◌≢◌, ℕ, ◌<◌, ◌≤◌, List, [], ◌∷◌, ◌++◌, true, false, length, slice_index, nat_eq, All, Any, ◌⊎◌}
use Rattle.std.specs.List.{list_any}
use Rattle.reading_order.specs.declared.table.Table.{Table}
use Rattle.reading_order.specs.Tables.{is_marked, Marks}

-- a number that gets the step
pub record IsReached (before : Table) (wave : List ℕ) (step : ℕ) (new next : List ℕ) (x : ℕ) : Type 0 where
  pub leads : Any (λ y. Marks before x y) wave
  pub steps : slice_index new x ≡ step
  pub within : list_any (nat_eq x) next ≡ true

-- a number that gets none
pub record IsUnreached (before : Table) (wave : List ℕ) (new : List ℕ) (x : ℕ) : Type 0 where
  pub none : All (λ y. is_marked before x y ≡ false) wave
  pub steps : slice_index new x ≡ before.side

-- the numbers below a place that had no step have it where they are before one of the wave, and all else stays
pub record IsWave (before : Table) (wave : List ℕ) (step : ℕ) (old new next : List ℕ) (place : ℕ) : Type 0 where
  pub count : length new ≡ length old
  pub given : (x : ℕ) → x < place → slice_index old x ≡ before.side
      → IsReached before wave step new next x ⊎ IsUnreached before wave new x
  pub kept : (x : ℕ) → x < place → slice_index old x ≢ before.side → slice_index new x ≡ slice_index old x
  pub later : (x : ℕ) → place ≤ x → slice_index new x ≡ slice_index old x
  pub low : All (λ x. x < before.side) next
  pub only : All (λ x. slice_index new x ≡ step) next

-- the wave gains the numbers that are before one number and had no step
pub record ExtendsWave (before : Table) (later step : ℕ) (old new next_old next_new : List ℕ) (place : ℕ) : Type 0 where
  pub added : List ℕ
  pub gains : next_new ≡ next_old ++ added
  pub is_wave : IsWave before (later ∷ []) step old new added place
