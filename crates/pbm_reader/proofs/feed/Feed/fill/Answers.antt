use Rattle.std.proofs.Common.{◌≤◌, ◌-◌, ◌++◌, ◌∙◌, ℕ, List, length, take, ap, sym, arith}
use Rattle.std.specs.Io.KnownBytes.{prepend_known}
use Rattle.std.proofs.lemmas.List.{length-take-le, length-append}
use borrow.Rule.Slice.PartMut.{post_of}
use Rattle.pbm_reader.proofs.Copied.{take_behind_part}
use Rattle.pbm_reader.proofs.Taken.{took_more}
use Rattle.pbm_reader.proofs.feed.Feed.fill.Goals as goal

pub loop-at-preserved : goal.loop-at-preserved
loop-at-preserved g c =
    let old = c.args.self.now.source in
    let middle = c.loop-at.self.source in
    let new = c.next_bytes.new.self.source in
    let buf = c.loop-at.buf in
    let at = c.loop-at.at in
    let part = c.next_bytes.new.buf in
    let count = c.in_ok-count.count in
    let front = take_behind_part buf part at (length buf - at) count (omega arith) c.in_ok-count.ensures.bound in
    let after = post_of at (length buf - at) buf in
    let inside : at ≤ length buf = omega arith in
    record {
      took = took_more old middle new (take at buf) (take count part) c.loop-at.invariant.took c.in_ok-count.ensures.bytes ∙ ap (λ (l : List ℕ). prepend_known l new.left) (sym front);
      within = omega (arith, length-append (take at buf) (part ++ after), length-append part after, length-take-le at buf inside, c.in_ok-count.ensures.bound);
      held = λ enough.
          let k = c.loop-at.invariant.held enough in
          let h = c.in_ok-count.ensures.held (omega (arith, k.1, enough)) in
          (h.0 ∙ k.0, omega (arith, k.1, h.2.1));
      same = c.next_bytes.ensures.same ∙ c.loop-at.invariant.same;
      later = omega arith;
    }

pub returns-in_err-count-clause-held : goal.returns-in_err-count-clause-held
returns-in_err-count-clause-held g c =
    λ enough.
    let k = c.loop-at.invariant.held enough in
    let h = c.in_err-count.ensures.held (omega (arith, k.1, enough)) in
    absurd h.1

pub returns-then-count-eq0-clause-held : goal.returns-then-count-eq0-clause-held
returns-then-count-eq0-clause-held g c =
    λ enough.
    let k = c.loop-at.invariant.held enough in
    let h = c.in_ok-count.ensures.held (omega (arith, k.1, enough)) in
    let some = h.2.0 in
    absurd (omega (arith, some))

pub returns-clause-held : goal.returns-clause-held
returns-clause-held g c =
    λ enough.
    let k = c.loop-at.invariant.held enough in
    (k.0, tt, (omega arith, k.1))
