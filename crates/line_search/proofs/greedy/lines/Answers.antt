use Rattle.std.proofs.Common.{◌≡◌, ◌∙◌, ap, List, All, subst, sym}
use Rattle.layout_geom.specs.declared.rect.Rect.{Rect}
use Rattle.layout_geom.specs.Rectangles.{Encloses}
use Rattle.line_search.specs.Lines.{characters_of}
use Rattle.line_search.specs.Problem.{GridProblem}
use Rattle.line_search.proofs.Taking.{IsGridAnswer, no_line, ended, one_more}
use Rattle.line_search.proofs.Rising.{characters_rise, members_rise}
use Rattle.line_search.proofs.greedy.lines.Goals as goal

pub returns-then-key-eq0-clause-lines : goal.returns-then-key-eq0-clause-lines
returns-then-key-eq0-clause-lines g c =
    let so_far = c.loop-lines.invariant in
    let answer = subst (λ (p : GridProblem). IsGridAnswer p c.in_ok-key.key) c.sharpen.ensures c.in_ok-key.ensures.greatest in
    ended c.args.kept.now.boxes c.args.gutters.now c.args.height c.args.kept.now.median (characters_of c.args.kept.now) c.loop-lines.grid.alive c.loop-lines.lines so_far.ending
    (rw (so_far.boxes, so_far.gutters, so_far.height, so_far.median) at (no_line c.loop-lines.grid c.in_ok-key.key answer c.if-key-eq0.true))

pub returns-then-key-eq0-clause-rising : goal.returns-then-key-eq0-clause-rising
returns-then-key-eq0-clause-rising g c =
    members_rise c.args.kept.now.boxes c.args.gutters.now c.args.height c.args.kept.now.median (characters_of c.args.kept.now) c.loop-lines.lines
    (characters_rise c.args.kept.now) (returns-then-key-eq0-clause-lines g c)

pub take_line-requires-clause-contained : goal.take_line-requires-clause-contained
take_line-requires-clause-contained g c =
    let boxes : c.sharpen.new.self.boxes ≡ c.args.kept.now.boxes = ap (λ (p : GridProblem). p.boxes) c.sharpen.ensures ∙ c.loop-lines.invariant.boxes in
    (c.requires.contained.0, subst (λ (boxes : List Rect). All (Encloses c.requires.contained.0) boxes) (sym boxes) c.requires.contained.1)

pub loop-lines-preserved : goal.loop-lines-preserved
loop-lines-preserved g c =
    let so_far = c.loop-lines.invariant in
    let same = c.sharpen.ensures in
    let rest = c.in_ok-take_line.ensures.rest in
    let boxes : c.sharpen.new.self.boxes ≡ c.args.kept.now.boxes = ap (λ (p : GridProblem). p.boxes) same ∙ so_far.boxes in
    let gutters : c.sharpen.new.self.gutters ≡ c.args.gutters.now = ap (λ (p : GridProblem). p.gutters) same ∙ so_far.gutters in
    let height : c.sharpen.new.self.height ≡ c.args.height = ap (λ (p : GridProblem). p.height) same ∙ so_far.height in
    let median : c.sharpen.new.self.median ≡ c.args.kept.now.median = ap (λ (p : GridProblem). p.median) same ∙ so_far.median in
    let alive : c.sharpen.new.self.alive ≡ c.loop-lines.grid.alive = ap (λ (p : GridProblem). p.alive) same in
    record {
      boxes = ap (λ (p : GridProblem). p.boxes) rest ∙ boxes;
      gutters = ap (λ (p : GridProblem). p.gutters) rest ∙ gutters;
      height = ap (λ (p : GridProblem). p.height) rest ∙ height;
      median = ap (λ (p : GridProblem). p.median) rest ∙ median;
      ending = one_more c.args.kept.now.boxes c.args.gutters.now c.args.height c.args.kept.now.median (characters_of c.args.kept.now) c.loop-lines.grid.alive c.take_line.new.self.alive c.in_ok-take_line.field-0 c.loop-lines.lines c.push.new.self so_far.ending
          (rw (boxes, gutters, height, median, alive) at c.in_ok-take_line.ensures.best)
          (rw alive at (ap (λ (p : GridProblem). p.alive) rest))
          c.in_ok-push.ensures.grown;
      ready = c.in_ok-key.ensures.ready;
    }
