use Rattle.std.proofs.lemmas.List.{get_or_read}
use Rattle.reading_order.proofs.Finding.{before_by}
use Rattle.reading_order.proofs.rows.is_before.Goals as goal

pub returns : goal.returns
returns c =
    let lines = c.args.lines.now in
    let earlier = c.args.earlier in
    let later = c.args.later in
    let first = c.index-lines-earlier.result in
    let second = c.index-lines-later.result in
    let both = before_by lines earlier later first second c.args.reaches.now c.requires.earlier c.requires.later
    (λ d. get_or_read lines earlier first c.requires.earlier c.index-lines-earlier.is d) (λ d. get_or_read lines later second c.requires.later c.index-lines-later.is d) c.requires.reaches in
    (λ h. both.0 (c.precedes_by.ensures.0 h), λ h. c.precedes_by.ensures.1 (both.1 h))
