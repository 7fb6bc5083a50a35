use Rattle.std.proofs.Common.{refl}
use Rattle.layout_core.proofs.Endings.{ends_unplanned}
use Rattle.layout_core.proofs.shared.layout_shared.Goals as goal

pub returns-in-Err : goal.returns-in-Err
returns-in-Err g c = ends_unplanned _ _ _ _ c.in-Err.refusal c.in-Err.ensures.refused c.refuse.ensures.status c.refuse.ensures.line refl refl
