use Rattle.std.proofs.Common.{ℕ, length, sym, subst, ◌-◌, ◌*◌, ◌/◌, ◌%◌, ◌^◌, set, get_or}
use Rattle.packed_rows.specs.Page.{IsCleared}
use Rattle.packed_rows.proofs.Pixels.{cleared_row}
use Rattle.packed_rows.proofs.row.clear_padding.Goals as goal

pub returns-then-len-gt0 : goal.returns-then-len-gt0
returns-then-len-gt0 c =
    let row = c.args.bits.now in
    let P : ℕ → Type 0 = λ width. IsCleared c.args.width row (set row (length row - 1) (get_or row (length row - 1) 0 / 2 ^ (length row * 8 - width) * 2 ^ (length row * 8 - width) % 256)) in
    subst P (sym c.from.ensures) (cleared_row row c.args.width c.requires c.if-len-gt0.true)
