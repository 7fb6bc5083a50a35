use Rattle.std.proofs.Common.{◌≡◌, ℕ, cond, leb, ltb, ◌&&◌, ◌≤◌, length}
use Rattle.packed_rows.specs.Page.{pixel}
use Rattle.made_page.proofs.painting.put_stretch.Given as goal

-- The columns from the left one up to this one are black, and the others are as they were.
abbrev pub invariant-loop-x : goal.invariant-loop-x
invariant-loop-x l = record {
  len : length l.bits ≡ length l.initial.bits;
  pixels : (k : ℕ) → pixel l.bits k ≡ cond (leb l.left k && ltb k l.x) 1 (pixel l.initial.bits k);
  none : l.right ≤ l.left → l.x ≡ l.left;
}
