use Rattle.std.proofs.Common.{◌≡◌, ℕ, ◌+◌, ◌*◌, ◌/◌, List, false, replicate, sym, subst, rules}
use Rattle.reading_order.specs.Tables.{is_marked, is_set}
use Rattle.reading_order.proofs.Words.{blank}
use Rattle.reading_order.proofs.table.Table.new.Goals as goal

pub returns-clause-blank : goal.returns-clause-blank
unfolding is_marked
returns-clause-blank c = λ a b.
    let side = c.args.side in
    let count = side * side / 64 + 1 in
    let items : c.in_ok-vec.field-0.items ≡ replicate count 0 = search rules in
    let P : List ℕ → Type 0 = λ words. is_set words (b * side + a) ≡ false in
    subst P (sym items) (blank count (b * side + a))
