use Rattle.std.proofs.Common.{rules, sym, ◌∙◌}
use Rattle.line_quality.specs.Keys.{Scored, scored, IsOfGrid}
use Rattle.line_quality.specs.KeyLaws.{same_scored, beaten_key}
use Rattle.line_quality.proofs.key.line_key.Goals as goal

pub returns-clause-value : goal.returns-clause-value
returns-clause-value c = search rules

pub returns-clause-ranked : goal.returns-clause-ranked
returns-clause-ranked c = λ other of_grid beaten.
    let line : Scored = scored c.args.score c.args.slope c.args.offset c.args.depth in
    let here : IsOfGrid line = record { slope_in = c.requires.slope; offset_in = c.requires.offset; depth_in = c.requires.depth } in
    rw (returns-clause-value c) (beaten_key other line of_grid here beaten)

pub returns-clause-only : goal.returns-clause-only
returns-clause-only c = λ other of_grid is.
    let line : Scored = scored c.args.score c.args.slope c.args.offset c.args.depth in
    let here : IsOfGrid line = record { slope_in = c.requires.slope; offset_in = c.requires.offset; depth_in = c.requires.depth } in
    same_scored other line of_grid here (is ∙ returns-clause-value c)

pub returns-clause-key : goal.returns-clause-key
returns-clause-key c = record {
  line = scored c.args.score c.args.slope c.args.offset c.args.depth;
  of_grid = record { slope_in = c.requires.slope; offset_in = c.requires.offset; depth_in = c.requires.depth };
  is = sym (returns-clause-value c);
}
