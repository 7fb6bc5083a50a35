use Rattle.std.proofs.Common.{rules, subst}
use Rattle.std.specs.List.Sorted.{IsPermutation}
use Rattle.std.proofs.lemmas.List.Sorted.{IsNonDecreasingBy-from_sort_by_key}
use Rattle.layout_geom.specs.declared.rect.Rect.{Rect}
use Rattle.std.proofs.Common.{List, ◌∙◌}
use Rattle.xy_cut.specs.Bands.{start_of}
use Rattle.xy_cut.proofs.sweep.in_order.Goals as goal

pub returns : goal.returns
returns c =
    let line = c.sort_unstable_by_key.new.self.items in
    record {
      rearranged = subst (λ (xs : List Rect). IsPermutation xs line) (c.in_ok-line.ensures.items ∙ c.as_slice.ensures.same) c.sort_unstable_by_key.ensures.permutation;
      sorted = IsNonDecreasingBy-from_sort_by_key (start_of c.args.axis) line c.sort_unstable_by_key.ensures.sorted (λ a r q k. search rules);
    }
