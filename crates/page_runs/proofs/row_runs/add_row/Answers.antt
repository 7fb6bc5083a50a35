use Rattle.std.proofs.Common.{◌≤◌, ◌+◌, ◌*◌, arith}
use Rattle.page_runs.proofs.Walking.{walk_begins, walk_next, up_to_next, walk_ended, walk_closed, none_begun, few_black}
use Rattle.page_runs.proofs.row_runs.add_row.Goals as goal

pub loop-byte-init : goal.loop-byte-init
loop-byte-init c = record {
  bound = c.behind_white-byte.ensures.bound;
  up_to = record { few = omega arith; before = omega arith };
  walked = walk_begins c.args.bits.now c.args.width _ _ c.behind_white-byte.ensures.white;
}

pub loop-byte-preserved : goal.loop-byte-preserved
loop-byte-preserved c =
    let next = c.next_word-byte.ensures in
    let on : c.loop-byte.byte * 8 + 64 ≤ c.next_word-byte.result * 8 = omega (arith, next.not_before) in
    record {
      bound = next.bound;
      up_to = up_to_next _ _ _ _ c.in_ok-add_word.ensures.up_to on;
      walked = walk_next c.args.bits.now c.args.width _ _ _ _ _ _ (c.in_ok-add_word.ensures.walked _ c.args.width c.loop-byte.invariant.walked) on next.white
          (λ start is. omega (arith, next.begun start is));
    }

pub returns-in_ok-push-clause-ok : goal.returns-in_ok-push-clause-ok
returns-in_ok-push-clause-ok c =
    let past : c.args.width ≤ c.loop-byte.byte * 8 = omega (arith, c.loop-byte-test.false, c.requires.packed.len) in
    rw c.in_ok-push.ensures.items (walk_closed c.args.bits.now c.args.width _ _ _ c.in-Some.start _ (rw c.in-Some.is at c.loop-byte.invariant.walked) past c.requires.packed).1

pub returns-in_ok-push-clause-black : goal.returns-in_ok-push-clause-black
returns-in_ok-push-clause-black c =
    let past : c.args.width ≤ c.loop-byte.byte * 8 = omega (arith, c.loop-byte-test.false, c.requires.packed.len) in
    let closed = walk_closed c.args.bits.now c.args.width _ _ _ c.in-Some.start _ (rw c.in-Some.is at c.loop-byte.invariant.walked) past c.requires.packed in
    (omega (arith, closed.2, c.from.ensures), omega (arith, closed.2, c.from.ensures, few_black c.args.bits.now c.args.width))

pub returns-in_default-clause-ok : goal.returns-in_default-clause-ok
returns-in_default-clause-ok c =
    let past : c.args.width ≤ c.loop-byte.byte * 8 = omega (arith, c.loop-byte-test.false, c.requires.packed.len) in
    (walk_ended c.args.bits.now c.args.width _ _ _ _ (rw (none_begun _ c.in_default.not-Some) at c.loop-byte.invariant.walked) past c.requires.packed).0

pub returns-in_default-clause-black : goal.returns-in_default-clause-black
returns-in_default-clause-black c =
    let past : c.args.width ≤ c.loop-byte.byte * 8 = omega (arith, c.loop-byte-test.false, c.requires.packed.len) in
    let ended = walk_ended c.args.bits.now c.args.width _ _ _ _ (rw (none_begun _ c.in_default.not-Some) at c.loop-byte.invariant.walked) past c.requires.packed in
    (ended.1, omega (arith, ended.1, few_black c.args.bits.now c.args.width))
