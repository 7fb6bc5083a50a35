use Rattle.std.proofs.Common.{refl, ◌∙◌}
use Rattle.layout_geom.specs.Keys.{rect_key}
use Rattle.layout_geom.specs.KeyLaws.{same_key, inside_key, outranked_key, positive_key, small_key}
use Rattle.layout_geom.proofs.rect.Rect.key.Goals as goal

pub returns-clause-value : goal.returns-clause-value
unfolding rect_key
returns-clause-value c = rw (c.area.ensures.value, c.width.ensures.value) refl

pub returns-clause-positive : goal.returns-clause-positive
returns-clause-positive c = rw (returns-clause-value c) (positive_key c.args.self.now)

pub returns-clause-small : goal.returns-clause-small
returns-clause-small c = rw (returns-clause-value c) (small_key c.args.self.now)

pub returns-clause-only : goal.returns-clause-only
returns-clause-only c = λ other is. same_key other c.args.self.now (is ∙ returns-clause-value c)

pub returns-clause-ranked : goal.returns-clause-ranked
returns-clause-ranked c = λ other outranks. rw (returns-clause-value c) (outranked_key c.args.self.now other outranks)

pub returns-clause-inside : goal.returns-clause-inside
returns-clause-inside c = λ inner within differs. rw (returns-clause-value c) (inside_key c.args.self.now inner within differs)
