use Rattle.std.proofs.Common.{◌≡◌, ℕ, ◌<◌, List, length, map, get_or, arith, ◌∙◌, ap, subst}
use Rattle.std.proofs.lemmas.List.{get_or_read, length-map}
use Rattle.layout_geom.specs.declared.rect.Rect.{Rect}
use Rattle.reading_order.specs.Rules.{twice_middle_of}
use Rattle.reading_order.specs.Reach.{AreReaches}
use Rattle.reading_order.specs.Sweeps.{level_from_below}
use Rattle.reading_order.proofs.Finding.{row_reaches}
use Rattle.reading_order.proofs.rows.find_reaches.Goals as goal

-- the reaches from the levels as they were read
reaches_of : (lines : List Rect) (level_of : Rect → ℕ) (levels given : List ℕ) (later from edge : ℕ) (old new : List ℕ) → later < length lines → levels ≡ map level_of lines → given ≡ levels → from ≡ get_or levels later from
    → AreReaches lines given from edge old new → AreReaches lines (map level_of lines) (get_or (map level_of lines) later 0) edge old new
reaches_of lines level_of levels given later from edge old new low levels_are given_is from_is are =
    let P : List ℕ → Type 0 = λ xs. AreReaches lines xs from edge old new in
    let Q : ℕ → Type 0 = λ z. AreReaches lines (map level_of lines) z edge old new in
    let size : length levels ≡ length lines = ap (λ xs. length xs) levels_are ∙ length-map lines level_of in
    let at : from ≡ get_or (map level_of lines) later 0 = get_or_read levels later from (omega (arith, size, low)) from_is 0 ∙ ap (λ xs. get_or xs later 0) levels_are in
    subst Q at (subst P (given_is ∙ levels_are) are)

pub returns-clause-reaches : goal.returns-clause-reaches
returns-clause-reaches c =
    let lines = c.args.lines.now in
    let later = c.args.later in
    let first = c.index-lines-later.result in
    let edge = c.x0-edge.result in
    row_reaches lines later c.requires.later edge (λ d. c.x0-edge.ensures.value ∙ ap (λ (r : Rect). r.x0) (get_or_read lines later first c.requires.later c.index-lines-later.is d)) c.args.reaches.now c.fill_reaches.new.reaches c.fill_reaches-2.new.reaches
    (reaches_of lines twice_middle_of c.args.down.now.levels.items c.deref.result.now later c.index.result.now edge c.args.reaches.now c.fill_reaches.new.reaches c.requires.later c.requires.down.levels c.deref.ensures.value c.index.ensures c.fill_reaches.ensures)
    (reaches_of lines level_from_below c.args.up.now.levels.items c.deref-3.result.now later c.index-2.result.now edge c.fill_reaches.new.reaches c.fill_reaches-2.new.reaches c.requires.later c.requires.up.levels c.deref-3.ensures.value c.index-2.ensures c.fill_reaches-2.ensures)
