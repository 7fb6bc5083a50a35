-- What reading and raising a bound word tell a pass, and what they make of its view.
use Rattle.std.specs.Prelude.{◌≡◌, ℕ, ◌+◌, ◌≤◌, List, ℤ, max}
use Rattle.atomic_table.specs.Table.{Me, Step}
use Rattle.box_search.specs.Search.{IsSound}
use Rattle.bound_word.specs.declared.view.View.{View}

module _ {R : Type 0} where
  -- a pass that has seen a word, and has not asked yet
  abbrev pub has_seen : ℕ → R → View R
  has_seen seen rest = record { seen = seen; asked = 0; last = 0; rest = rest }

  abbrev pub with_rest : View R → R → View R
  with_rest view rest = record { seen = view.seen; asked = view.asked; last = view.last; rest = rest }

  -- read or raise: one more of them, which found a word and has now seen another
  abbrev pub asks : View R → ℕ → ℕ → View R
  asks view found seen = record { seen = seen; asked = view.asked + 1; last = found; rest = view.rest }

module _ {T R : Type 0} (admits : List ℤ → ℕ → Type 0) (problem_of : R → List ℤ) where
  -- the word found is 0 or an admitted key, and at least what the pass had seen
  abbrev pub IsTold : Me T (View R) → ℕ → Type 0
  IsTold before found = IsSound (admits (problem_of before.0.rest)) found × (before.0.seen ≤ found)

  -- read: the pass has seen the word
  abbrev pub Reads : Step T → Me T (View R) → ℕ → Me T (View R) → Type 0
  Reads step before found after =
      IsTold before found × (after.0 ≡ asks before.0 found found) × (after.1 ≡ before.1)

  -- raise: the pass has seen the greater of the word and the key
  abbrev pub Raises : Step T → Me T (View R) → ℕ → Me T (View R) → Type 0
  Raises step before found after =
      IsTold before found × (after.0 ≡ asks before.0 found (max step.first found)) × (after.1 ≡ before.1)
