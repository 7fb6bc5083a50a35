use Rattle.std.proofs.Common.{refl, rules}
use Rattle.std.proofs.lemmas.Result.{err_from_is_err_and}
use Rattle.pbm_reader.proofs.NextCall.{holding, call_past, call_past_top, call_failed, call_failed_top, call_fault, call_top, call_image, call_none}
use Rattle.pbm_reader.proofs.HeldNext.{call_settled}
use Rattle.pbm_reader.proofs.images.Images.take_image.Goals as goal

pub returns-in_err-goes_past-clause-fault : goal.returns-in_err-goes_past-clause-fault
returns-in_err-goes_past-clause-fault g c =
    let p = err_from_is_err_and c.from_residual.result c.from_residual.ensures.1 in
    let n = c.in_err-goes_past.ensures.err in
    rw (p.1, p.2) (call_failed c.args.self.now c.read_within-answer.ensures.reads c.self.view_is refl c.self.invariant.0 c.requires.few (holding c.goes_past.new.piece.unread) c.goes_past.ensures.unread
    (g.S.Source.view c.goes_past.new.src) n.0 n.1)

pub returns-in_err-goes_past-clause-top : goal.returns-in_err-goes_past-clause-top
returns-in_err-goes_past-clause-top g c =
    let p = err_from_is_err_and c.from_residual.result c.from_residual.ensures.1 in
    let n = c.in_err-goes_past.ensures.err in
    rw (p.1, p.2) (call_failed_top c.args.self.now c.read_within-answer.ensures.reads c.self.view_is refl c.self.invariant.0 c.requires.few (holding c.goes_past.new.piece.unread) c.goes_past.ensures.unread
    (g.S.Source.view c.goes_past.new.src) n.0 n.1)

pub returns-then-branch-clause-fault : goal.returns-then-branch-clause-fault
returns-then-branch-clause-fault g c =
    let n = c.in_ok-goes_past.ensures.more (search rules) in
    call_past c.args.self.now c.read_within-answer.ensures.reads c.self.view_is refl c.self.invariant.0 c.requires.few (holding c.goes_past.new.piece.unread) c.goes_past.ensures.unread
    (g.S.Source.view c.goes_past.new.src) n.1.0 n.0 n.1.1

pub returns-then-branch-clause-top : goal.returns-then-branch-clause-top
returns-then-branch-clause-top g c =
    let n = c.in_ok-goes_past.ensures.more (search rules) in
    call_past_top c.args.self.now c.read_within-answer.ensures.reads c.self.view_is refl c.self.invariant.0 c.requires.few (holding c.goes_past.new.piece.unread) c.goes_past.ensures.unread
    (g.S.Source.view c.goes_past.new.src) n.1.0 n.0 n.1.1

pub returns-clause-fault : goal.returns-clause-fault
returns-clause-fault g c =
    let n = c.in_ok-goes_past.ensures in
    call_fault c.args.self.now c.read_within-answer.ensures.reads c.self.view_is refl c.self.invariant.0 c.requires.few (holding c.goes_past.new.piece.unread) c.goes_past.ensures.unread
    (g.S.Source.view c.goes_past.new.src) (n.none (search rules)) (n.ended (search rules)) c.counted_from.result c.counted_from.ensures

pub returns-clause-image : goal.returns-clause-image
returns-clause-image g c =
    let n = c.in_ok-goes_past.ensures in
    call_image c.args.self.now c.read_within-answer.ensures.reads c.self.view_is refl c.self.invariant.0 c.requires.few _ c.goes_past.ensures.unread
    (g.S.Source.view c.goes_past.new.src) (n.none (search rules)) (n.ended (search rules)) c.counted_from.result c.counted_from.ensures

pub returns-clause-none : goal.returns-clause-none
returns-clause-none g c =
    let n = c.in_ok-goes_past.ensures in
    call_none c.args.self.now c.read_within-answer.ensures.reads c.self.view_is refl c.self.invariant.0 c.requires.few _ c.goes_past.ensures.unread
    (g.S.Source.view c.goes_past.new.src) (n.none (search rules)) (n.ended (search rules)) c.counted_from.result c.counted_from.ensures

pub returns-clause-top : goal.returns-clause-top
returns-clause-top g c =
    let n = c.in_ok-goes_past.ensures in
    call_top c.args.self.now c.read_within-answer.ensures.reads c.self.view_is refl c.self.invariant.0 c.requires.few (holding c.goes_past.new.piece.unread) c.goes_past.ensures.unread
    (g.S.Source.view c.goes_past.new.src) (n.none (search rules)) (n.ended (search rules)) c.counted_from.result c.counted_from.ensures

pub returns-in_err-goes_past-clause-settled : goal.returns-in_err-goes_past-clause-settled
returns-in_err-goes_past-clause-settled g c =
    λ some. call_settled _ c.args.self.now _ c.args.src.now c.read_within-answer.new.src c.goes_past.new.src _ c.self.view_is refl c.self.invariant.0 c.requires.few some
    c.read_within-answer.ensures.held c.goes_past.ensures.quiet

pub returns-then-branch-clause-settled : goal.returns-then-branch-clause-settled
returns-then-branch-clause-settled g c =
    λ some. call_settled _ c.args.self.now _ c.args.src.now c.read_within-answer.new.src c.goes_past.new.src _ c.self.view_is refl c.self.invariant.0 c.requires.few some
    c.read_within-answer.ensures.held c.goes_past.ensures.quiet

pub returns-clause-settled : goal.returns-clause-settled
returns-clause-settled g c =
    λ some. call_settled _ c.args.self.now _ c.args.src.now c.read_within-answer.new.src c.goes_past.new.src _ c.self.view_is refl c.self.invariant.0 c.requires.few some
    c.read_within-answer.ensures.held c.goes_past.ensures.quiet
