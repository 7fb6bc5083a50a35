use Rattle.std.proofs.Common.{arith, ◌≤ℤ◌, ℤ, pos, negsuc, FitsSigned, w8}
use Rattle.std.proofs.lemmas.Int.{ints, clamps}
use Rattle.line_search.proofs.Ranges.{nearest_is}
use Rattle.line_search.proofs.bound.nearest_slope.Goals as goal

fits_8 : (z : ℤ) → negsuc 31 ≤ℤ z → z ≤ℤ pos 32 → FitsSigned w8 z
fits_8 (pos n) low high = record { sfits = omega (arith, ints) }
fits_8 (negsuc n) low high = record { sfits = omega (arith, ints) }

pub overflow_cast-result : goal.overflow_cast-result
overflow_cast-result c = fits_8 _
    (omega (arith, ints, clamps, c.min.ensures.value, c.max.ensures.value, c.requires.from_slope, c.requires.some_slope, c.requires.to_slope))
    (omega (arith, ints, clamps, c.min.ensures.value, c.max.ensures.value, c.requires.from_slope, c.requires.some_slope, c.requires.to_slope))

pub returns : goal.returns
returns c = nearest_is c.args.shape.now.a0 c.args.shape.now.a1 c.min.result c.max.result c.requires.from_slope c.requires.some_slope c.requires.to_slope c.min.ensures.value c.max.ensures.value
