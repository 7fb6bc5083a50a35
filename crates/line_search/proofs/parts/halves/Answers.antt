use Rattle.std.proofs.Common.{inl, inr, subst}
use Rattle.line_search.specs.Parts.{IsLong, lower_slopes, upper_slopes, lower_offsets, upper_offsets, lower_depths, upper_depths}
use Rattle.line_counts.proofs.Ranges.{kept_in}
use Rattle.line_search.proofs.Ranges.{offsets_cut, slopes_cut, depths_cut, same_shape}
use Rattle.line_search.proofs.parts.halves.Goals as goal

pub returns-in-Slopes : goal.returns-in-Slopes
returns-in-Slopes c =
    let shape = c.args.shape.now in
    let grid = c.requires.in_grid in
    let kept = kept_in shape grid in
    let middle = slopes_cut shape grid c.half-middle.result c.half-middle.ensures in
    inl (
      subst (IsLong shape) c.in-Slopes.is c.requires.long,
      same_shape _ _ _ _ _ _ (lower_slopes shape) kept.a0 middle kept.b0 kept.b1 kept.c0 kept.c1,
      same_shape _ _ _ _ _ _ (upper_slopes shape) middle kept.a1 kept.b0 kept.b1 kept.c0 kept.c1,
    )

pub returns-in-Offsets : goal.returns-in-Offsets
returns-in-Offsets c =
    let shape = c.args.shape.now in
    let grid = c.requires.in_grid in
    let kept = kept_in shape grid in
    let middle = offsets_cut shape grid c.half-middle-in-Offsets.result c.half-middle-in-Offsets.ensures in
    inr (inl (
      subst (IsLong shape) c.in-Offsets.is c.requires.long,
      same_shape _ _ _ _ _ _ (lower_offsets shape) kept.a0 kept.a1 kept.b0 middle kept.c0 kept.c1,
      same_shape _ _ _ _ _ _ (upper_offsets shape) kept.a0 kept.a1 middle kept.b1 kept.c0 kept.c1,
    ))

pub returns-in-Depths : goal.returns-in-Depths
returns-in-Depths c =
    let shape = c.args.shape.now in
    let grid = c.requires.in_grid in
    let kept = kept_in shape grid in
    let middle = depths_cut shape grid c.half-middle-in-Depths.result c.half-middle-in-Depths.ensures in
    inr (inr (
      subst (IsLong shape) c.in-Depths.is c.requires.long,
      same_shape _ _ _ _ _ _ (lower_depths shape) kept.a0 kept.a1 kept.b0 kept.b1 kept.c0 middle,
      same_shape _ _ _ _ _ _ (upper_depths shape) kept.a0 kept.a1 kept.b0 kept.b1 middle kept.c1,
    ))
