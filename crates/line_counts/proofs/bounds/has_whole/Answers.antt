use Rattle.line_counts.proofs.bounds.has_whole.Goals as goal

pub returns-then-has_offsets : goal.returns-then-has_offsets
returns-then-has_offsets c = λ deep.
    let offsets = c.has_offsets.ensures c.if-has_offsets.true in
    let depths = c.has_depths.ensures deep in
    record { from_offset = offsets.0; to_offset = offsets.1; from_depth = depths.0; to_depth = depths.1 }
