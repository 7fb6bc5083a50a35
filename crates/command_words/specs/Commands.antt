-- The command that `clap` is given.
use Rattle.std.specs.Prelude.{List, codes, map, Some, true}
use Rattle.clap.specs.Words.{App, Rule, new_app, new_rule}
use Rattle.command_words.specs.Items.{Text}
use Rattle.command_words.specs.Plans.{options_of}
use Rattle.command_words.specs.declared.plan.Program.{Program}

-- an option with one value
abbrev pub option_rule : Text → Rule
option_rule name = record (new_rule name) { long = Some name }

-- no help, no word for the program, and these options
abbrev pub app_with : List Text → App
app_with names = let bare = new_app (codes "layout") in record bare {
  top = record bare.top {
    rules = map option_rule names;
    no_binary_name = true;
    disable_help_flag = true;
  };
}

abbrev pub app_for : Program → App
app_for program = app_with (options_of program)
