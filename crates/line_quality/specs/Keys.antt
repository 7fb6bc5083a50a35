-- The key of a scored line of the grid.
use Rattle.std.specs.Prelude.{◌≡◌, ◌<◌, ℕ, ◌+◌, ◌-◌, ◌*◌, ◌^◌, ℤ, pos, negsuc, ◌+ℤ◌, ◌<ℤ◌, unsigned_abs, ◌⊎◌}
use Rattle.line_quality.specs.declared.limits.TheConstants.{OFFSET_MARGIN, MAX_DEPTH, MAX_RANK}
use Rattle.line_quality.specs.Points.{IsSlope, IsOffset, IsDepth}

-- 0, 1, -1, 2, -2 and so on
abbrev pub rank : ℤ → ℕ
rank (pos n) = 2 * n - 1
rank (negsuc n) = 2 * (n + 1)

-- four digits: the score, then the distances of the depth, of the rank and of the offset from their greatest values
abbrev pub line_key : ℕ → ℤ → ℤ → ℕ → ℕ
line_key score slope offset depth =
    score * 2 ^ 29 + (MAX_DEPTH - depth) * 2 ^ 23 + (MAX_RANK - rank slope) * 2 ^ 16 + (65535 - unsigned_abs (offset +ℤ pos OFFSET_MARGIN))

-- a line of the grid with its score
pub record Scored : Type 0 where
  pub score : ℕ
  pub slope : ℤ
  pub offset : ℤ
  pub depth : ℕ

-- the first line has the lesser score, or else the greater depth, or else the steeper slope, or else the negative one of two
-- opposite slopes, or else the greater offset
abbrev pub IsBeaten : Scored → Scored → Type 0
IsBeaten p q =
    (p.score < q.score)
    ⊎ ((p.score ≡ q.score) × (q.depth < p.depth))
    ⊎ ((p.score ≡ q.score) × (p.depth ≡ q.depth) × (unsigned_abs q.slope < unsigned_abs p.slope))
    ⊎ ((p.score ≡ q.score) × (p.depth ≡ q.depth) × (unsigned_abs p.slope ≡ unsigned_abs q.slope) × (p.slope <ℤ q.slope))
    ⊎ ((p.score ≡ q.score) × (p.depth ≡ q.depth) × (p.slope ≡ q.slope) × (q.offset <ℤ p.offset))

-- its slope, its offset and its depth are those of a grid
pub record IsOfGrid (p : Scored) : Type 0 where
  pub slope_in : IsSlope p.slope
  pub offset_in : IsOffset p.offset
  pub depth_in : IsDepth p.depth

abbrev pub scored : ℕ → ℤ → ℤ → ℕ → Scored
scored score slope offset depth = record { score = score; slope = slope; offset = offset; depth = depth }

abbrev pub key_of : Scored → ℕ
key_of p = line_key p.score p.slope p.offset p.depth

-- a line of the grid has the key
pub record IsLineKey (key : ℕ) : Type 0 where
  pub line : Scored
  pub of_grid : IsOfGrid line
  pub is : key_of line ≡ key
