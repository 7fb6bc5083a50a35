use Rattle.std.proofs.Common.{◌≡◌, [], ◌∙◌, inr, arith, rules}
use Rattle.std.proofs.lemmas.Grind.{common_steps}
use Rattle.pbm_reader.proofs.Coming.{byte_taken}
use Rattle.pbm_reader.proofs.feed.Piece.goes_on.Goals as goal

pub returns-clause-more : goal.returns-clause-more
returns-clause-more g c =
    let source = g.S.Source.view c.args.src.now in
    let later = g.S.Source.view c.next_byte.new.src in
    let new = c.next_byte.new.self in
    let n = c.in_ok-next.ensures in
    let first : c.args.self.now.unread ≡ [] = search rules in
    let last : new.unread ≡ c.args.self.now.unread = grind (arith, common_steps) in
    λ more. inr (byte_taken c.in_ok-next.next c.limit.new.self new 1 source later (rw c.is_some.ensures at more) c.limit.ensures.room n.limited n.unseen
    (c.limit.ensures.unread ∙ first) (last ∙ first) n.byte)
