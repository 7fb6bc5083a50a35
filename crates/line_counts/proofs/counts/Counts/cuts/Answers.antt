use Rattle.std.proofs.Common.{◌≡◌, List, ap, subst}
use Rattle.layout_geom.specs.declared.rect.Rect.{Rect}
use Rattle.line_counts.specs.Table.{LivingPage}
use Rattle.line_counts.specs.Tops.{AreCuts}
use Rattle.line_counts.proofs.counts.Counts.cuts.Goals as goal

pub returns : goal.returns
returns c =
    let held : c.self.inside.gutters ≡ c.args.self.now.gutters = ap (λ (p : LivingPage). p.gutters) c.self.view_is in
    subst (λ (gs : List Rect). AreCuts gs c.args.stretch.now c.cuts.result) held c.cuts.ensures
