use Rattle.std.proofs.Common.{◌≡◌, ℕ, length, get_or, arith, subst}
use Rattle.std.proofs.lemmas.List.{get_or_read}
use Rattle.reading_order.proofs.Walks.{IsWalked, walked_nil, walked_skip, walked_meet, walked_all}
use Rattle.reading_order.proofs.reach.fill_reaches.Goals as goal
use Rattle.reading_order.proofs.reach.fill_reaches.Goals.{then-from-level, else-from-level}

pub loop-number-init : goal.loop-number-init
loop-number-init c = walked_nil c.args.lines.now c.args.levels.now c.args.order.now c.args.from c.args.edge c.args.reaches.now

pub loop-number-preserved : goal.loop-number-preserved
loop-number-preserved c =
    let lines = c.args.lines.now in
    let levels = c.args.levels.now in
    let order = c.args.order.now in
    let from = c.args.from in
    let edge = c.args.edge in
    let met = c.loop-number.number-index in
    let walk = c.loop-number.walk in
    let inv = c.loop-number.invariant in
    let low = c.requires.order.low met 0 (omega arith) in
    elim c.if-from-level.branch [
      | then-from-level w ↦
          let line = w.index-lines-number.result in
          rw (w.reaches-is, w.walk-is, w.meet.ensures.level, w.meet.ensures.before)
          (walked_meet lines levels order from edge c.requires.order met walk.level walk.before walk.within c.args.reaches.now c.loop-number.reaches line w.meet.result w.meet.new.self.within inv (omega arith) c.requires.count w.if-from-level.true
          (λ d. get_or_read lines (get_or order met 0) line low w.index-lines-number.is d) w.meet.ensures.reach w.meet.ensures.within)
      | else-from-level w ↦
          rw (w.reaches-is, w.walk-is)
          (walked_skip lines levels order from edge met walk.level walk.before walk.within c.args.reaches.now c.loop-number.reaches inv w.if-from-level.false)
    ]

pub returns : goal.returns
returns c =
    let walk = c.loop-number.walk in
    let full : c.loop-number.number-index ≡ length c.args.order.now = omega arith in
    let P : ℕ → Type 0 = λ z. IsWalked c.args.lines.now c.args.levels.now c.args.order.now c.args.from c.args.edge z walk.level walk.before walk.within c.args.reaches.now c.loop-number.reaches in
    walked_all c.args.lines.now c.args.levels.now c.args.order.now c.args.from c.args.edge c.requires.order walk.level walk.before walk.within c.args.reaches.now c.loop-number.reaches (subst P full c.loop-number.invariant)
