use Rattle.std.proofs.Common.{codes}
use Rattle.clap.proofs.TakesLemmas.{passed_up}
use Rattle.command_words.proofs.Known.{items_unrefused, items_parsed, parsed_words, value_given}
use Rattle.command_words.proofs.options.read_options.Goals as goal

pub returns-in_err-matches-clause-usage : goal.returns-in_err-matches-clause-usage
returns-in_err-matches-clause-usage c =
    passed_up _ _ _ c.from_residual.ensures.1 (λ is items has. c.in_err-matches.ensures.refused is (items_unrefused c.args.program _ items has))

pub returns-clause-values : goal.returns-clause-values
returns-clause-values c =
    let found = c.in_ok-matches.ensures.found in
    let p = parsed_words c.args.program _ c.requires.plain found.0 in
    record {
      items = p.items;
      spelled = items_parsed c.args.program _ p;
      workers = value_given c.args.program _ p c.in_ok-matches.matches (codes "workers") c.get_str.result found.1 c.get_str.ensures;
      rects = value_given c.args.program _ p c.in_ok-matches.matches (codes "rects") c.get_str-2.result found.1 c.get_str-2.ensures;
      image = value_given c.args.program _ p c.in_ok-matches.matches (codes "image") c.get_str-3.result found.1 c.get_str-3.ensures;
      make = value_given c.args.program _ p c.in_ok-matches.matches (codes "make") c.get_str-4.result found.1 c.get_str-4.ensures;
      words_given = value_given c.args.program _ p c.in_ok-matches.matches (codes "words") c.get_str-5.result found.1 c.get_str-5.ensures;
      blocks_given = value_given c.args.program _ p c.in_ok-matches.matches (codes "blocks") c.get_str-6.result found.1 c.get_str-6.ensures;
      cells_given = value_given c.args.program _ p c.in_ok-matches.matches (codes "xy") c.get_str-7.result found.1 c.get_str-7.ensures;
    }
