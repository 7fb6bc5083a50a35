use Rattle.std.proofs.Common.{◌≡◌, ◌∙◌, to_z, of_z, w32}
use Rattle.line_search.proofs.Ranges.{lowest_is, highest_is, back_32}
use Rattle.line_search.proofs.bound.heights.Goals as goal

pub returns : goal.returns
returns c =
    let low : to_z w32 (of_z w32 c.height_at-lowest.result) ≡ c.height_at-lowest.result = back_32 c.height_at-lowest.result c.height_at-lowest.ensures.low c.height_at-lowest.ensures.high in
    let high : to_z w32 (of_z w32 c.height_at-highest.result) ≡ c.height_at-highest.result = back_32 c.height_at-highest.result c.height_at-highest.ensures.low c.height_at-highest.ensures.high in
    record {
      lowest = low ∙ c.height_at-lowest.ensures.value ∙ lowest_is c.args.shape.now c.requires c.args.anchor;
      highest = high ∙ c.height_at-highest.ensures.value ∙ highest_is c.args.shape.now c.requires c.args.anchor;
      low = (rw low c.height_at-lowest.ensures.low, rw low c.height_at-lowest.ensures.high);
      high = (rw high c.height_at-highest.ensures.low, rw high c.height_at-highest.ensures.high);
    }
