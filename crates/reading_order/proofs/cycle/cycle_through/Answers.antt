use Rattle.std.proofs.Common.{◌≡◌, ℕ, ◌+◌, ◌-◌, ◌++◌, [], ◌∷◌, suc, arith, subst}
use Rattle.reading_order.specs.Tables.{Marks}
use Rattle.reading_order.specs.Steps.{IsLeastNext}
use Rattle.reading_order.proofs.Trails.{IsTrail-start, IsTrail-push, least_cycle, IsTrail}
use Rattle.reading_order.proofs.cycle.cycle_through.Goals as goal

pub loop-passed-init : goal.loop-passed-init
loop-passed-init c =
    let before = c.args.before.now in
    let whole = c.args.whole in
    let P : ℕ → Type 0 = λ left. IsTrail (Marks before) before.side c.args.start c.args.steps.now whole [] c.args.start left in
    let e : whole ≡ whole - 0 = omega arith in
    ([], (rw c.new-cycle.ensures.empty at c.in_ok-push.ensures.grown), subst P e (IsTrail-start (Marks before) before.side c.args.start c.args.steps.now c.requires.steps c.requires.start whole c.requires.least c.requires.next))

pub loop-passed-preserved : goal.loop-passed-preserved
loop-passed-preserved c =
    let before = c.args.before.now in
    let whole = c.args.whole in
    let start = c.args.start in
    let steps = c.args.steps.now in
    let passed = c.loop-passed.passed in
    let last = c.loop-passed.last in
    let next = c.least_next-last.result in
    let inv = c.loop-passed.invariant in
    let path = inv.0 in
    let left = whole - (passed + 1) in
    let e : whole - passed ≡ suc left = omega arith in
    let P : ℕ → Type 0 = λ l. IsTrail (Marks before) before.side start steps whole path last l in
    let Q : ℕ → Type 0 = λ l. IsLeastNext (Marks before) before.side steps last l next in (
      path ++ next ∷ [],
      (rw inv.1 at c.in_ok-push-2.ensures.grown),
      IsTrail-push (Marks before) before.side start steps c.requires.steps c.requires.start whole path last left next (omega (arith, c.requires.whole, e)) (subst P e inv.2) (subst Q e c.least_next-last.ensures),
    )

pub returns : goal.returns
returns c =
    let before = c.args.before.now in
    let inv = c.loop-passed.invariant in
    let P : ℕ → Type 0 = λ left. IsTrail (Marks before) before.side c.args.start c.args.steps.now c.args.whole inv.0 c.loop-passed.last left in
    let done : c.args.whole - c.loop-passed.passed ≡ 0 = omega arith in
    rw inv.1
    (least_cycle (Marks before) before.side c.args.start c.args.steps.now c.requires.steps c.requires.start c.args.whole inv.0 c.loop-passed.last (subst P done inv.2) c.requires.least c.requires.first)
