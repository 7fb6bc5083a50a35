use Rattle.std.proofs.Common.{◌≡◌, ℕ, cond, length, take}
use Rattle.std.specs.List.{list_any}
use Rattle.packed_rows.specs.Page.{pixel}
use Rattle.made_page.specs.Made.{has_place}
use Rattle.made_page.proofs.painting.put_row.Given as goal

-- What the blocks so far have of the row is black, and nothing else.
abbrev pub invariant-loop-block : goal.invariant-loop-block
invariant-loop-block l = record {
  len : length l.bits ≡ length l.fn.bits;
  pixels : (k : ℕ) → pixel l.bits k ≡ cond (list_any (has_place k l.y) (take l.block-index l.blocks)) 1 0;
}
