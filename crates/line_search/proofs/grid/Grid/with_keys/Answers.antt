use Rattle.std.proofs.Common.{◌∙◌, subst, sym}
use Rattle.line_counts.specs.Table.{LivingPage}
use Rattle.line_search.specs.Problem.{IsWithinLimits}
use Rattle.line_search.specs.Pages.{problem_of}
use Rattle.line_search.proofs.grid.Grid.with_keys.Goals as goal

pub invariant_of-result : goal.invariant_of-result
invariant_of-result c =
    let counted = c.in_ok-counts.ensures in
    record {
      limits = subst (λ (page : LivingPage). IsWithinLimits (problem_of page c.args.median)) (sym c.in_ok-keys.ensures.page) (record {
        low = rw counted.height c.requires.low;
        high = rw counted.height c.requires.high;
        few_boxes = rw counted.boxes c.requires.few_boxes;
        few_alive = rw counted.alive c.requires.few_alive;
        few_gutters = rw counted.gutters c.requires.few_gutters;
        positions = rw (counted.boxes, counted.alive) c.requires.positions;
      });
      keys = (c.in_ok-keys.ensures.least, c.in_ok-keys.ensures.deepest ∙ c.deepest.ensures);
    }
