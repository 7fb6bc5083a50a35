use Rattle.std.proofs.Common.{◌≡◌, ◌<◌, ◌+◌, ◌-◌, ◌↔◌, ℕ, true, length}
use Rattle.packed_rows.specs.Page.{row_len}
use Rattle.page_runs.specs.Packed.{page_of, rows_of}
use Rattle.run_smear.specs.Smear.{IsInSmear}
use Rattle.run_smear.specs.Ready.{IsReady}
use Rattle.run_smear.proofs.band.smear_rows.Given as goal

-- The rows above this one are there.
abbrev pub invariant-loop-y : goal.invariant-loop-y
invariant-loop-y l = record {
  len : length l.bits.items ≡ row_len (page_of l.page).width;
  other_len : length l.other.items ≡ row_len (page_of l.page).width;
  ready : IsReady (page_of l.page) l.v l.y l.sweep;
  width_is : (page_of l.band).width ≡ (page_of l.page).width;
  height_is : (page_of l.band).height ≡ l.to - l.from;
  rows_is : rows_of l.band ≡ l.y - l.from;
  blacks : (x k : ℕ) → k < l.y - l.from → ((page_of l.band).is_black x k ≡ true) ↔ IsInSmear (page_of l.page) l.h l.v x (l.from + k);
}
