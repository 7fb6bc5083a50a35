use Rattle.std.proofs.Common.{ℕ, subst}
use Rattle.std.proofs.lemmas.Result.{IfOk-weaker}
use Rattle.page_runs.specs.Packed.{page_of}
use Rattle.run_smear.specs.Smear.{IsBandOf}
use Rattle.run_smear.specs.Clipped.{page_clipped}
use Rattle.run_smear.proofs.Bands.{whole_band}
use Rattle.run_smear.proofs.forked.smear.Goals as goal

pub returns-clause-smear : goal.returns-clause-smear
returns-clause-smear g c =
    let page = page_of c.args.page.now in
    IfOk-weaker c.rows_apart.result _ _
    (λ band is. whole_band page c.args.h c.args.v (page_of band) (page_clipped c.args.page.now) (page_clipped band)
    (subst (λ (n : ℕ). IsBandOf page c.args.h c.args.v 0 n (page_of band)) c.height.ensures.value is))
    c.rows_apart.ensures.band
