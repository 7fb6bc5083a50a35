-- What a table says.
use Rattle.std.specs.Prelude.{◌≡◌, ℕ, ◌+◌, ◌*◌, ◌/◌, ◌%◌, Bool, true, List, slice_index, ◌==◌}
use Rattle.std.specs.Int.{bit_at}
use Rattle.reading_order.specs.declared.table.Table.{Table}

-- A bit of a list of words.
abbrev pub is_set : List ℕ → ℕ → Bool
is_set words place = bit_at (slice_index words (place / 64)) (place % 64) == 1

-- Whether number a is before number b. The row of b has the bits of all that are before it.
unfoldable pub is_marked : Table → ℕ → ℕ → Bool
is_marked table a b = is_set table.words.items (b * table.side + a)

abbrev pub Marks : Table → ℕ → ℕ → Type 0
Marks table a b = is_marked table a b ≡ true
