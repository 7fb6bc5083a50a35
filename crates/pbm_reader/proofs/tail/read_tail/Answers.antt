use Rattle.std.proofs.Common.{◌+◌, ◌<◌, [], ◌∷◌, arith}
use Rattle.pbm_reader.specs.Spelling.{MayFollow}
use Rattle.layout_outside.specs.Taken.{Took}
use Rattle.pbm_reader.specs.Tail.{RestFails, TailFails, TookRest, TookTail}
use Rattle.pbm_reader.proofs.Taken.{some_of, ok_map, err_map}
use Rattle.pbm_reader.proofs.TailLoop.{tail_taken, tail_fails}
use Rattle.pbm_reader.proofs.tail.read_tail.Goals as goal

pub returns-clause-ok : goal.returns-clause-ok
returns-clause-ok g c =
    let took = some_of c.in_ok-byte.field-0 c.in-Some.byte (λ byte. Took c.args.feed.now.source c.next_byte.new.self.source (byte ∷ [])) c.in-Some.is c.in_ok-byte.ensures.byte in
    let follows : MayFollow c.args.form (c.in-Some.byte ∷ []) = c.may_follow.ensures.0 c.if-not-may_follow.false in
    ok_map c.skip_rest.result (TookRest c.next_byte.new.self.source c.skip_rest.new.feed.source (c.args.start + 1)) (TookTail c.args.feed.now.source c.skip_rest.new.feed.source c.args.form c.args.start)
    (λ end r. tail_taken c.args.feed.now.source c.next_byte.new.self.source c.skip_rest.new.feed.source c.args.form c.args.start end c.in-Some.byte took follows r) c.skip_rest.ensures.ok

pub returns-clause-fault : goal.returns-clause-fault
returns-clause-fault g c =
    let took = some_of c.in_ok-byte.field-0 c.in-Some.byte (λ byte. Took c.args.feed.now.source c.next_byte.new.self.source (byte ∷ [])) c.in-Some.is c.in_ok-byte.ensures.byte in
    let follows : MayFollow c.args.form (c.in-Some.byte ∷ []) = c.may_follow.ensures.0 c.if-not-may_follow.false in
    let low : c.args.start < 268435456 = omega arith in
    err_map c.skip_rest.result (RestFails c.next_byte.new.self.source c.skip_rest.new.feed.source (c.args.start + 1)) (TailFails c.args.feed.now.source c.skip_rest.new.feed.source c.args.form c.args.start)
    (λ e f. tail_fails c.args.feed.now.source c.next_byte.new.self.source c.skip_rest.new.feed.source c.args.form c.args.start c.in-Some.byte e took follows low f) c.skip_rest.ensures.fault
