use Rattle.std.proofs.Common.{arith, ap, ◌++◌, ◌∷◌, [], ◌≡◌, sym, ◌∙◌, append_assoc, subst, List, length, length-append}
use Rattle.layout_geom.specs.declared.rect.Rect.{Rect}
use Rattle.whitespace_cover.specs.Bars.{LeaveSame}
use Rattle.whitespace_cover.specs.Problem.{WhiteProblem}
use Rattle.whitespace_cover.specs.Cover.{EachIsBest}
use Rattle.whitespace_cover.proofs.Barring.{full_of_boxes, best_of_boxes}
use Rattle.whitespace_cover.proofs.Covering.{IsWhiteAnswer, asked, full_at, best_at, each_more}
use Rattle.whitespace_cover.proofs.greedy.cover.Goals as goal

pub returns-in_default : goal.returns-in_default
returns-in_default g c =
    let bars : List Rect = c.in_ok-white.white.obstacles in
    let same : LeaveSame c.args.least bars c.args.boxes.now = subst (λ (xs : List Rect). LeaveSame c.args.least xs c.args.boxes.now) (sym c.in_ok-white.ensures.obstacles) c.in_ok-obstacles.ensures in
    let problem : WhiteProblem = record { page = c.args.page; obstacles = bars ++ c.loop.rects; least = c.args.least } in
    let answer : IsWhiteAnswer problem c.in_ok-key.key = asked c.loop.white c.args.page (bars ++ c.loop.rects) c.args.least c.in_ok-key.key c.loop.invariant.page c.loop.invariant.obstacles c.loop.invariant.least c.in_ok-key.ensures.greatest in
    record {
      ready = c.in_ok-key.ensures.ready;
      cover = record {
        each = c.loop.invariant.each;
        few = omega (arith, c.loop.invariant.many, c.loop-test.true);
        ended = λ _. full_of_boxes c.args.page bars c.args.boxes.now c.loop.rects c.args.least same (full_at problem c.in_ok-key.key answer c.in_default.ensures.none);
      };
    }

pub loop-preserved : goal.loop-preserved
loop-preserved g c =
    let rect : Rect = c.in-Some.rect in
    let bars : List Rect = c.in_ok-white.white.obstacles in
    let boxes : List Rect = c.args.boxes.now in
    let same : LeaveSame c.args.least bars boxes = subst (λ (xs : List Rect). LeaveSame c.args.least xs boxes) (sym c.in_ok-white.ensures.obstacles) c.in_ok-obstacles.ensures in
    let problem : WhiteProblem = record { page = c.args.page; obstacles = bars ++ c.loop.rects; least = c.args.least } in
    let answer : IsWhiteAnswer problem c.in_ok-key.key = asked c.loop.white c.args.page (bars ++ c.loop.rects) c.args.least c.in_ok-key.key c.loop.invariant.page c.loop.invariant.obstacles c.loop.invariant.least c.in_ok-key.ensures.greatest in
    let grown : c.push.new.self.obstacles ≡ c.loop.white.obstacles ++ rect ∷ [] = c.in_ok-push.ensures.grown in
    let pushed : c.push-in-loop.new.self ≡ c.loop.rects ++ rect ∷ [] = c.in_ok-push-2.ensures.grown in
    let best = best_of_boxes c.args.page bars boxes c.loop.rects c.args.least same rect (best_at problem c.in_ok-key.key rect answer c.in-Some.ensures.some) in
    let more = each_more c.args.page boxes c.loop.rects c.args.least rect c.loop.invariant.each best in
    record {
      page = c.in_ok-push.ensures.page ∙ c.loop.invariant.page;
      obstacles = grown ∙ ap (λ (xs : List Rect). xs ++ rect ∷ []) c.loop.invariant.obstacles ∙ append_assoc bars c.loop.rects (rect ∷ []) ∙ ap (λ (xs : List Rect). bars ++ xs) (sym pushed);
      least = c.in_ok-push.ensures.least ∙ c.loop.invariant.least;
      each = subst (λ (xs : List Rect). EachIsBest c.args.page boxes c.args.least xs) (sym pushed) more;
      many = omega (arith, ap length pushed, c.loop.invariant.many, length-append c.loop.rects (rect ∷ []));
      ready = c.in_ok-key.ensures.ready;
    }
