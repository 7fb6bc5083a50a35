use Rattle.std.proofs.Common.{◌+◌, ◌%◌, ◌∷◌, [], map, arith, ◌∙◌}
use Rattle.std.proofs.lemmas.List.{length-set, map-append}
use Rattle.std.proofs.Math.Nat.{mod-lt}
use Rattle.split_frontier.proofs.Dealing.{still_nothing, deals_one}
use Rattle.split_frontier.proofs.shards.deal.Goals as goal

pub loop-preserved : goal.loop-preserved
loop-preserved g c =
    let pushed = c.in_ok-push.ensures in
    let inv = c.loop.invariant in (
      omega (arith, pushed.len, inv.0),
      rw (pushed.items, map-append (λ share. share.items) c.loop.shares.items (c.new.result ∷ [])) (still_nothing (map (λ share. share.items) c.loop.shares.items) c.new.result.items inv.1 c.new.ensures.items),
    )

pub loop-node-preserved : goal.loop-node-preserved
loop-node-preserved g c =
    let inv = c.loop-node.invariant in
    let shares = c.loop-node.shares.items in
    let place = c.loop-node.dealt_to in (
      length-set shares place c.push-in-loop-node.new.self ∙ inv.0,
      mod-lt ((place + c.args.stride) % 18446744073709551616) (omega (arith, c.requires.some)),
      deals_one (λ share. share.items) shares place c.index_mut.result.now c.push-in-loop-node.new.self c.in-Some.node c.loop-node.yielded (omega (arith, inv.0, inv.1)) c.index_mut.ensures.value c.in_ok-push-2.ensures.items inv.2,
    )
