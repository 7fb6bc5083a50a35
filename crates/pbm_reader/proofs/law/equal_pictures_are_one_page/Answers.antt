use Rattle.pbm_reader.proofs.Pictures.{spelled_clipped, spelled_once}
use Rattle.pbm_reader.proofs.law.equal_pictures_are_one_page.Goals as goal

pub returns : goal.returns
returns c = record { clipped = spelled_clipped; one_page = spelled_once }
