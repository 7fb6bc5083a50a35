use Rattle.std.proofs.Common.{◌<◌, ◌^◌, ◌-◌, get_or, arith, refl, ⊎_elim}
use Rattle.reading_order.specs.Groups.{AreMoved, IsBeforeGroup}
use Rattle.reading_order.proofs.Gathering.{levels_closed}
use Rattle.reading_order.proofs.Gathered.{gathered_met, gathered_joined, gathered_at_last, unmet_moved}
use Rattle.reading_order.proofs.groups.turn.Goals as goal

pub returns-then-level-eq0-clause-gathered : goal.returns-then-level-eq0-clause-gathered
returns-then-level-eq0-clause-gathered c =
    let found = c.in-Some.ensures in
    gathered_met c.args.before.now c.args.levels.now c.next_met.new.looked c.args.depth found.levels (omega (arith, c.requires.deep)) c.args.flags.now c.requires.gathered c.in-Some.number found.found (omega (arith, c.if-level-eq0.true)) found.next

pub returns-in-Some-clause-gathered : goal.returns-in-Some-clause-gathered
returns-in-Some-clause-gathered c =
    let before = c.args.before.now in
    let levels = c.args.levels.now in
    let depth = c.args.depth in
    let new = c.move_levels.new.levels in
    let number = c.in-Some.number in
    let level = get_or levels number 0 in
    let found = c.in-Some.ensures in
    let some : 0 < level = omega (arith, c.if-level-eq0.false) in
    let group : (level < depth) × IsBeforeGroup before levels depth number = ⊎_elim (λ h. h) (λ h. absurd (omega (arith, h.1, some))) found.next in
    let moved : AreMoved levels new level depth level before.side = rw found.levels.count at c.move_levels.ensures in
    gathered_joined before levels c.next_met.new.looked depth found.levels (omega (arith, c.requires.deep)) c.args.flags.now c.requires.gathered new number level found.found refl some group.0 group.1 moved

pub returns-in-Some-clause-less : goal.returns-in-Some-clause-less
returns-in-Some-clause-less c =
    let levels = c.args.levels.now in
    let depth = c.args.depth in
    let level = get_or levels c.in-Some.number 0 in
    let some : 0 < level = omega (arith, c.if-level-eq0.false) in
    let under : level < depth = ⊎_elim (λ h. h.0) (λ h. absurd (omega (arith, h.1, some))) c.in-Some.ensures.next in
    omega (arith, unmet_moved levels c.move_levels.new.levels level depth level some some c.move_levels.ensures, under)

pub returns-then-depth-eq0-clause-rings : goal.returns-then-depth-eq0-clause-rings
returns-then-depth-eq0-clause-rings c =
    let done = c.in_default.ensures in
    gathered_at_last c.args.before.now c.args.levels.now c.next_met.new.looked c.args.flags.now c.args.depth done.levels c.requires.gathered (omega (arith, c.if-depth-eq0.true)) (done.end (omega (arith, c.if-depth-eq0.true)))

pub returns-clause-less : goal.returns-clause-less
returns-clause-less c =
    let depth = c.args.depth in
    let some : 0 < depth = omega (arith, c.if-depth-eq0.false) in
    omega (arith, unmet_moved c.args.levels.now c.move_levels-2.new.levels depth depth (2 ^ 64 - 1) some (omega arith) c.move_levels-2.ensures, some)

pub returns-clause-levels : goal.returns-clause-levels
returns-clause-levels c =
    let before = c.args.before.now in
    let levels = c.args.levels.now in
    let depth = c.args.depth in
    let new = c.move_levels-2.new.levels in
    let are = c.in_default.ensures.levels in
    let moved : AreMoved levels new depth depth (2 ^ 64 - 1) before.side = rw are.count at c.move_levels-2.ensures in
    levels_closed before levels c.next_met.new.looked depth are new (omega (arith, c.if-depth-eq0.false)) (omega (arith, c.requires.deep)) (c.in_default.ensures.whole (omega (arith, c.if-depth-eq0.false))) moved
