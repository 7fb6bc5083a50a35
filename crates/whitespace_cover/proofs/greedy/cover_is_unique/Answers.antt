use Rattle.whitespace_cover.proofs.Unique.{one_cover}
use Rattle.whitespace_cover.proofs.greedy.cover_is_unique.Goals as goal

pub returns : goal.returns
returns c = record { one_cover = one_cover }
