-- The numbers that are drawn from a seed.
use Rattle.std.specs.Prelude.{ℕ, zero, suc, ◌+◌, ◌*◌, ◌/◌, ◌%◌, ◌^◌}
use Rattle.made_page.specs.declared.draws.TheConstants.{INCREMENT, MULTIPLIER}

-- the state behind another
unfoldable pub state_behind : ℕ → ℕ
state_behind state = (state * MULTIPLIER + INCREMENT) % 2 ^ 64

-- the state after so many draws, which is the seed before the first
unfoldable pub state_after : ℕ → ℕ → ℕ
state_after seed zero = seed
state_after seed (suc draws) = state_behind (state_after seed draws)

-- the draw of this number, from 0: the state that it makes, without its lowest 33 bits
unfoldable pub draw : ℕ → ℕ → ℕ
draw seed number = state_after seed (number + 1) / 2 ^ 33
