use Rattle.std.proofs.Common.{◌≡◌, ◌≤◌, ◌-◌, ℕ, List, inl, inr, subst, Option, Some, length, ◌∙◌, ap, arith}
use Rattle.pbm_reader.proofs.WithinLimit.{kept_answer}
use Rattle.pbm_reader.specs.Images.{AreUndecided}
use Rattle.pbm_reader.specs.Reader.{MayBegin}
use Rattle.pbm_reader.proofs.Held.{within_not_last}
use Rattle.pbm_reader.proofs.answer.read_within.Goals as goal

pub returns-clause-reads : goal.returns-clause-reads
returns-clause-reads g c =
    let source = g.S.Source.view c.args.src.now in
    let middle = g.S.Source.view c.read_of_piece-answer.new.src in
    let left = 268435456 - c.args.judged in
    let old = c.args.piece.now in
    let first = c.limit.new.self in
    let last = c.read_of_piece-answer.new.piece in
    let kept = c.within.new.piece in
    let read = c.read_of_piece-answer.ensures in
    let within = c.within.ensures in
    let limit : first.room ≡ Some (left - length old.unread) = c.limit.ensures.room ∙ ap (λ (n : ℕ). let o : Option ℕ = Some (left - n) in o) c.len.ensures in
    kept_answer g.R.RowSink.begun g.R.RowSink.given g.R.RowSink.unchanged c.args.is_first left old first last kept source middle c.args.rows.now c.read_of_piece-answer.new.rows
    c.limit.ensures.unread limit read.limited read.unseen within.room (omega arith) (let low = c.requires.low in omega (arith, low))
    c.read_of_piece-answer.result c.within.result read.image read.end read.fault read.low read.top read.drained within.image within.none within.fault

pub returns-clause-held : goal.returns-clause-held
returns-clause-held g c =
    let left = 268435456 - c.args.judged in
    let first = c.limit.new.self in
    let same = c.limit.ensures.unread in
    let w = c.within.ensures in
    let short : length first.unread ≤ left = (let low = c.requires.low in omega (arith, low, ap length same)) in
    λ later.
    elim (c.read_of_piece-answer.ensures.held later) [
      | inl r ↦ inl (r.0, within_not_last (length first.unread) left c.read_of_piece-answer.result c.within.result c.within.new.piece.unread _ w.image w.none w.fault r.1 short)
      | inr u ↦ inr (subst AreUndecided same u.0, subst (λ (l : List ℕ). MayBegin c.args.is_first l) same u.1)
    ]
