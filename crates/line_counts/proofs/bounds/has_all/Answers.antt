use Rattle.line_counts.proofs.bounds.has_all.Goals as goal

pub returns-then-has_slopes : goal.returns-then-has_slopes
returns-then-has_slopes c = λ all.
    let slopes = c.has_slopes.ensures c.if-has_slopes.true in
    record { whole = c.has_whole.ensures all; from_slope = slopes.0; to_slope = slopes.1 }
