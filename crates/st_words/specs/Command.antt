-- the command of which the words are an instance
use Rattle.std.specs.Prelude.{ℕ, List, ◌==◌, Bool, true, Some, length, codes}
use Rattle.clap.specs.Words.{App, Rule, fault_of, new_app, new_rule, with_rule}
use Rattle.clap.specs.declared.builder.action.ArgAction.TheVariants.{Set, SetTrue}

-- the command without its arguments: it has no help and no version, and the words come without the program's name
abbrev pub bare_command : App
bare_command = record (new_app (codes "stratis_sim")) {
  top = record (new_app (codes "stratis_sim")).top {
    no_binary_name = true;
    disable_help_flag = true;
    disable_version_flag = true;
  };
}

-- what the program is to do: the one argument without a name, which must stand
abbrev pub mode_rule : Rule
mode_rule = record (new_rule (codes "mode")) { required = true; action = Some Set }

-- an option with a value
abbrev pub option_rule : List ℕ → Rule
option_rule name = record (new_rule name) { long = Some name; action = Some Set }

-- an option without one
abbrev pub flag_rule : List ℕ → Rule
flag_rule name = record (new_rule name) { long = Some name; action = Some SetTrue }

-- `MODE [--lanes N] [--number N] [--trace]`
abbrev pub command : App
command =
    with_rule (with_rule (with_rule (with_rule bare_command
    mode_rule)
    (option_rule (codes "lanes")))
    (option_rule (codes "number")))
    (flag_rule (codes "trace"))

-- the command finds no fault in the words: each option at most once, in any order, its value in a word of
-- its own or behind `=`; after a word `--` no word is an option
unfoldable pub takes_words : List (List ℕ) → Bool
takes_words words = length (fault_of command words) == 0
