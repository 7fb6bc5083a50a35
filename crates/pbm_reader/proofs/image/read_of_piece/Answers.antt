use Rattle.std.proofs.Common.{rules}
use Rattle.pbm_reader.proofs.Held.{piece_held}
use Rattle.pbm_reader.proofs.image.read_of_piece.Goals as goal

pub returns-clause-held : goal.returns-clause-held
returns-clause-held g c =
    piece_held c.new-feed.result c.read_image-result.new.feed c.replace-own.result c.args.piece.now c.close.new.piece _ _ _ _ c.args.src.now c.close.result.now _ c.args.is_first c.read_image-result.result
    c.new-feed.ensures c.replace-own.ensures.value c.close.ensures.feed (search rules) c.read_image-result.ensures.held
