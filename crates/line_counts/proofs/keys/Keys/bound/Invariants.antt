use Rattle.std.proofs.Common.{◌<◌, ℕ, ℤ, get_or}
use Rattle.line_counts.specs.declared.block.Block.{Block}
use Rattle.line_counts.specs.Plain.{plain_key}
use Rattle.line_counts.specs.Blocks.{HasOffset, IsKeyWhere, IsRaisedBound}
use Rattle.line_counts.proofs.keys.Keys.bound.Given as goal

abbrev pub invariant-loop-block : goal.invariant-loop-block
invariant-loop-block l =
    IsRaisedBound (IsKeyWhere l.self.page l.self.least l.shape (λ (slope offset : ℤ). (k : ℕ) × (k < l.block-index) × ((d : Block) → HasOffset offset (get_or l.block-items k d))))
    (plain_key l.self.page.boxes l.self.page.alive l.shape) 0 l.bound
