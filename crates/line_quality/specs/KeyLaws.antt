-- What holds of the keys of all lines of the grid.
use Rattle.std.proofs.Common.{◌≡◌, ℕ, ◌+◌, ◌-◌, ◌*◌, ◌^◌, ◌<◌, ◌≤◌, ℤ, pos, negsuc, ◌+ℤ◌, ◌<ℤ◌}
use Rattle.std.proofs.Common.{unsigned_abs, arith, ◌⊎◌, ⊎_elim, inl, inr, ap}
use Rattle.std.proofs.lemmas.Int.{ints}
use Rattle.line_quality.specs.declared.limits.TheConstants.{OFFSET_MARGIN, MAX_DEPTH, MAX_RANK}
use Rattle.line_quality.specs.Points.{IsSlope, IsOffset}
use Rattle.line_quality.specs.Keys.{line_key, rank, Scored, IsBeaten, IsOfGrid, key_of}
use borrow.Author.Differences.{up, down}

-- how many rows the greatest offset is below the least
abbrev MAX_PLACE : ℕ
MAX_PLACE = 8792

pub abs_parts : (s : ℤ) → unsigned_abs s ≡ up s + down s
abs_parts (pos n) = omega arith
abs_parts (negsuc n) = omega arith

pub low_rank : (s : ℤ) → IsSlope s → rank s ≤ MAX_RANK
low_rank (pos n) in_slopes = omega (arith, ints, in_slopes.low, in_slopes.high)
low_rank (negsuc n) in_slopes = omega (arith, ints, in_slopes.low, in_slopes.high)

same_rank : (s t : ℤ) → rank s ≡ rank t → s ≡ t
same_rank (pos a) (pos b) e = omega (arith, ints)
same_rank (pos a) (negsuc b) e = omega (arith, ints)
same_rank (negsuc a) (pos b) e = omega (arith, ints)
same_rank (negsuc a) (negsuc b) e = omega (arith, ints)

-- a slope that is nearer to 0 comes first
steeper_rank : (s t : ℤ) → unsigned_abs s < unsigned_abs t → rank s < rank t
steeper_rank (pos a) (pos b) less = omega arith
steeper_rank (pos a) (negsuc b) less = omega arith
steeper_rank (negsuc a) (pos b) less = omega arith
steeper_rank (negsuc a) (negsuc b) less = omega arith

-- of two opposite slopes the positive one comes first
opposite_rank : (s t : ℤ) → unsigned_abs t ≡ unsigned_abs s → t <ℤ s → rank s < rank t
opposite_rank (pos a) (pos b) same less = omega (arith, ints)
opposite_rank (pos a) (negsuc b) same less = omega (arith, ints)
opposite_rank (negsuc a) (pos b) same less = omega (arith, ints)
opposite_rank (negsuc a) (negsuc b) same less = omega (arith, ints)

pub place_low : (b : ℤ) → IsOffset b → unsigned_abs (b +ℤ pos OFFSET_MARGIN) ≤ MAX_PLACE
place_low b in_offsets = omega (arith, ints, abs_parts (b +ℤ pos OFFSET_MARGIN), in_offsets.low, in_offsets.high)

-- an offset's place is the offset moved up by the margin
shifted : (b : ℤ) → IsOffset b → pos (unsigned_abs (b +ℤ pos OFFSET_MARGIN)) ≡ b +ℤ pos OFFSET_MARGIN
shifted b in_offsets = omega (arith, ints, abs_parts (b +ℤ pos OFFSET_MARGIN), in_offsets.low)

same_place : (b b' : ℤ) → IsOffset b → IsOffset b' → unsigned_abs (b +ℤ pos OFFSET_MARGIN) ≡ unsigned_abs (b' +ℤ pos OFFSET_MARGIN) → b ≡ b'
same_place b b' h h' e = omega (arith, ints, shifted b h, shifted b' h', e)

lower_place : (b b' : ℤ) → IsOffset b → IsOffset b' → b <ℤ b'
    → unsigned_abs (b +ℤ pos OFFSET_MARGIN) < unsigned_abs (b' +ℤ pos OFFSET_MARGIN)
lower_place b b' h h' less = omega (arith, ints, shifted b h, shifted b' h', less)

-- three digits within their limits
record AreDigits (d r b : ℕ) : Type 0 where
  deep : d ≤ MAX_DEPTH
  steep : r ≤ MAX_RANK
  low : b ≤ MAX_PLACE

digits_of : (p : Scored) → IsOfGrid p → AreDigits p.depth (rank p.slope) (unsigned_abs (p.offset +ℤ pos OFFSET_MARGIN))
digits_of p h = record { deep = h.depth_in; steep = low_rank p.slope h.slope_in; low = place_low p.offset h.offset_in }

digits : (s d r b s' d' r' b' : ℕ) → AreDigits d r b → AreDigits d' r' b'
    → s * 2 ^ 29 + (MAX_DEPTH - d) * 2 ^ 23 + (MAX_RANK - r) * 2 ^ 16 + (65535 - b)
    ≡ s' * 2 ^ 29 + (MAX_DEPTH - d') * 2 ^ 23 + (MAX_RANK - r') * 2 ^ 16 + (65535 - b')
    → (s ≡ s') × (d ≡ d') × (r ≡ r') × (b ≡ b')
digits s d r b s' d' r' b' h h' e =
    let scores : s ≡ s' = omega (arith, h.deep, h.steep, h.low, h'.deep, h'.steep, h'.low) in
    let depths : d ≡ d' = omega (arith, scores, h.deep, h.steep, h.low, h'.deep, h'.steep, h'.low) in
    let ranks : r ≡ r' = omega (arith, scores, depths, h.deep, h.steep, h.low, h'.deep, h'.steep, h'.low) in
    (scores, depths, ranks, omega (arith, scores, depths, ranks, h.deep, h.low, h'.deep, h'.low))

pub record SamePoint (p q : Scored) : Type 0 where
  pub scores : p.score ≡ q.score
  pub slopes : p.slope ≡ q.slope
  pub offsets : p.offset ≡ q.offset
  pub depths : p.depth ≡ q.depth

-- no two lines have one key
pub same_point : (p q : Scored) → IsOfGrid p → IsOfGrid q → key_of p ≡ key_of q → SamePoint p q
same_point p q hp hq e =
    let same = digits p.score p.depth (rank p.slope) (unsigned_abs (p.offset +ℤ pos OFFSET_MARGIN))
    q.score q.depth (rank q.slope) (unsigned_abs (q.offset +ℤ pos OFFSET_MARGIN)) (digits_of p hp) (digits_of q hq) e in
    record {
      scores = same.0;
      slopes = same_rank p.slope q.slope same.2;
      offsets = same_place p.offset q.offset hp.offset_in hq.offset_in same.3;
      depths = same.1;
    }

scored_by : ℕ → ℤ → ℤ → ℕ → Scored
scored_by score slope offset depth = record { score = score; slope = slope; offset = offset; depth = depth }

-- so a key is that of one line
pub same_scored : (p q : Scored) → IsOfGrid p → IsOfGrid q → key_of p ≡ key_of q → p ≡ q
unfolding scored_by
same_scored p q hp hq e =
    let point = same_point p q hp hq e in
    let same : scored_by p.score p.slope p.offset p.depth ≡ scored_by q.score q.slope q.offset q.depth =
    cc (point.scores, point.slopes, point.offsets, point.depths) in
    same

pub positive_line_key : (score : ℕ) (slope offset : ℤ) (depth : ℕ) → IsOffset offset → 1 ≤ line_key score slope offset depth
positive_line_key score slope offset depth hb = omega (arith, place_low offset hb)

less_deep : (s d r b s' d' r' b' : ℕ) → AreDigits d r b → AreDigits d' r' b' → (s < s') ⊎ ((s ≡ s') × (d' < d))
    ⊎ ((s ≡ s') × (d ≡ d') × (r' < r)) ⊎ ((s ≡ s') × (d ≡ d') × (r ≡ r') × (b' < b))
    → s * 2 ^ 29 + (MAX_DEPTH - d) * 2 ^ 23 + (MAX_RANK - r) * 2 ^ 16 + (65535 - b)
    < s' * 2 ^ 29 + (MAX_DEPTH - d') * 2 ^ 23 + (MAX_RANK - r') * 2 ^ 16 + (65535 - b')
less_deep s d r b s' d' r' b' h h' is =
    ⊎_elim (λ low. omega (arith, h.deep, h.steep, h.low, h'.deep, h'.steep, h'.low))
    (λ rest. ⊎_elim (λ deep. omega (arith, deep.0, deep.1, h.deep, h.steep, h.low, h'.deep, h'.steep, h'.low))
    (λ others. ⊎_elim (λ far. omega (arith, far.0, far.1, far.2, h.deep, h.steep, h.low, h'.steep, h'.low))
    (λ lower. omega (arith, lower.0, lower.1, lower.2, lower.3, h.low, h'.low)) others) rest) is

-- a line that is beaten has the lesser key
pub beaten_key : (p q : Scored) → IsOfGrid p → IsOfGrid q → IsBeaten p q → key_of p < key_of q
beaten_key p q hp hq beaten =
    less_deep p.score p.depth (rank p.slope) (unsigned_abs (p.offset +ℤ pos OFFSET_MARGIN))
    q.score q.depth (rank q.slope) (unsigned_abs (q.offset +ℤ pos OFFSET_MARGIN)) (digits_of p hp) (digits_of q hq)
    (⊎_elim
    (λ low. inl low)
    (λ rest. ⊎_elim
    (λ deep. inr (inl deep))
    (λ more. ⊎_elim
    (λ steeper. inr (inr (inl (steeper.0, steeper.1, steeper_rank q.slope p.slope steeper.2))))
    (λ others. ⊎_elim
    (λ opposite. inr (inr (inl (opposite.0, opposite.1, opposite_rank q.slope p.slope opposite.2 opposite.3))))
    (λ lower. inr (inr (inr (lower.0, lower.1, ap rank lower.2, lower_place q.offset p.offset hq.offset_in hp.offset_in lower.3))))
    others)
    more)
    rest)
    beaten)
