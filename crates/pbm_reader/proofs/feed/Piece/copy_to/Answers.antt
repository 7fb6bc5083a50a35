use Rattle.std.proofs.Common.{◌+◌, ◌-◌, ◌∙◌, ℕ, List, take, drop, ap, sym, arith}
use Rattle.pbm_reader.specs.Feed.{PieceView}
use Rattle.pbm_reader.proofs.Copied.{copied_front}
use Rattle.pbm_reader.proofs.feed.Piece.copy_to.Goals as goal

pub returns-clause-bytes : goal.returns-clause-bytes
returns-clause-bytes c =
    let s = c.self.inside in
    let bytes = s.bytes.items in
    let count = c.min-count.result in
    let copied = c.copy_from_slice.ensures.after ∙ ap (λ (l : List ℕ). take (s.at + count - s.at) (drop s.at l)) c.deref.ensures.value in
    ap (λ (v : PieceView). v.unread) (sym c.self.view_is) ∙ copied_front bytes c.args.buf.now c.copy_from_slice.new.self s.at s.end count (omega arith) (omega arith) copied
