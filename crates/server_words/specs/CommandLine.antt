-- The command line of the program, as clap reads it.
use Rattle.std.specs.Prelude.{ℕ, ◌^◌, ◌-◌, ◌&&◌, Bool, true, false, List, [], ◌∷◌, drop, slice_get, Option, Some, bytes_eq, codes, if◌then◌else◌}
use Rattle.std.specs.Option.{option_map_or}
use Rattle.clap.specs.Words.{App, Kinds, Row, Rule, Text, fault_of, new_app, new_rule, subcommand_of, with_rule, with_subcommand}
use Rattle.clap.specs.declared.builder.ArgAction.TheVariants.{Append, SetTrue}
use Rattle.clap.specs.declared.builder.value_parser.ValueParser.TheVariants as parser
use Rattle.clap.specs.declared.error.kind.ErrorKind.TheVariants.{DisplayHelp, InvalidSubcommand}

-- the most values of an argument that may be repeated without end
abbrev no_end : ℕ
no_end = 2 ^ 64 - 1

-- an option --NAME that takes one number from `least` to `most`, with this number where it is not given
abbrev pub option_between : Text → Text → ℕ → ℕ → Rule
option_between name default least most = record (new_rule name) {
  long = Some name;
  value_names = 1;
  parser = Some (parser.Unsigned least most);
  defaults = default ∷ [];
}

-- the same with a number from 0
abbrev pub option_rule : Text → Text → ℕ → Rule
option_rule name default most = option_between name default 0 most

-- an option --NAME that takes a text, with this one where it is not given
abbrev pub text_rule : Text → Text → Rule
text_rule name default = record (new_rule name) {
  long = Some name;
  value_names = 1;
  defaults = default ∷ [];
}

-- an option --NAME that takes nothing
abbrev pub flag_rule : Text → Rule
flag_rule name = record (new_rule name) { long = Some name; action = Some SetTrue }

-- an option --NAME that takes one number from `least` to `most`, and has none where it is not given
abbrev pub number_rule : Text → ℕ → ℕ → Rule
number_rule name least most = record (new_rule name) {
  long = Some name;
  value_names = 1;
  parser = Some (parser.Unsigned least most);
}

-- the option --moment of a server
abbrev pub moment_rule : Rule
moment_rule = number_rule (codes "moment") 0 253402300799

-- the option --journal, which takes a path
abbrev pub journal_rule : Rule
journal_rule = record (new_rule (codes "journal")) { long = Some (codes "journal"); value_names = 1 }

-- the option --pieces, which takes the size of pieces
abbrev pub pieces_rule : Rule
pieces_rule = number_rule (codes "pieces") 65536 1048576

-- the words that stand for themselves: one or more, each a tenant
abbrev pub tenant_rule : Rule
tenant_rule = record (new_rule (codes "tenant")) {
  value_names = 1;
  required = true;
  range = Some (record { start_inclusive = 1; end_inclusive = no_end });
  action = Some Append;
}

-- the options that set up the book
abbrev pub with_sizes : App → App
with_sizes command =
    with_rule
    (with_rule
    (with_rule
    (with_rule
    (with_rule command
    (option_rule (codes "blocks") (codes "4096") no_end))
    (option_rule (codes "block-size") (codes "4096") no_end))
    (option_rule (codes "lifetime") (codes "86400") no_end))
    (option_rule (codes "max-size") (codes "1048576") no_end))
    (option_rule (codes "uploads") (codes "64") no_end)

-- the options that set up the book of `run`: how many blocks there are and the greatest upload may stay untold
abbrev pub with_run_sizes : App → App
with_run_sizes command =
    with_rule
    (with_rule
    (with_rule
    (with_rule
    (with_rule
    (with_rule command
    (number_rule (codes "blocks") 0 no_end))
    (option_rule (codes "block-size") (codes "4096") no_end))
    (option_rule (codes "lifetime") (codes "86400") no_end))
    (option_rule (codes "finished-lifetime") (codes "0") no_end))
    (number_rule (codes "max-size") 0 no_end))
    (option_rule (codes "uploads") (codes "1024") no_end)

-- the command `talk`: its options with their defaults, and the tenants
abbrev pub talk_command : App
talk_command =
    with_rule
    (with_sizes
    (with_rule
    (with_rule
    (with_rule (new_app (codes "talk")) (option_rule (codes "moment") (codes "0") 253402300799))
    journal_rule)
    pieces_rule))
    tenant_rule

-- the options on how connections are served
abbrev pub with_service : App → App
with_service command =
    with_rule
    (with_rule
    (with_rule
    (with_rule
    (with_rule
    (with_rule command
    (text_rule (codes "address") (codes "127.0.0.1")))
    (option_between (codes "port") (codes "0") 0 65535))
    (option_between (codes "workers") (codes "2") 1 16))
    (option_between (codes "connections") (codes "1") 1 4096))
    (flag_rule (codes "forever")))
    (option_between (codes "idle") (codes "60") 0 86400)

-- the options on how the connections of `run` are served, which come without end
abbrev pub with_run_service : App → App
with_run_service command =
    with_rule
    (with_rule
    (with_rule
    (with_rule command
    (text_rule (codes "address") (codes "127.0.0.1")))
    (option_between (codes "port") (codes "8080") 0 65535))
    (option_between (codes "workers") (codes "2") 1 16))
    (option_between (codes "idle") (codes "60") 0 86400)

-- the options on how many clients are served at once, and what they may take, of which one is how many bytes bodies may
abbrev pub with_many_clients : Rule → App → App
with_many_clients body_memory command =
    with_rule
    (with_rule
    (with_rule
    (with_rule
    (with_rule
    (with_rule command
    (number_rule (codes "at-once") 1 16384))
    (option_between (codes "message-seconds") (codes "0") 0 86400))
    (option_between (codes "least-rate") (codes "0") 0 1073741824))
    body_memory)
    pieces_rule)
    (number_rule (codes "max-body") 1 16777216)

-- the options on how a service is watched: the file of its log, the port at which numbers and a stop are asked for, and how long
-- messages may last then
abbrev pub log_rule : Rule
log_rule = record (new_rule (codes "log")) { long = Some (codes "log"); value_names = 1 }

abbrev pub with_watch : App → App
with_watch command =
    with_rule
    (with_rule
    (with_rule command
    log_rule)
    (number_rule (codes "metrics") 1 65535))
    (option_between (codes "grace") (codes "10") 0 86400)

-- the command `serve`: its options with their defaults, and the tenants
abbrev pub serve_command : App
serve_command =
    with_rule
    (with_sizes
    (with_rule
    (with_rule (with_watch (with_many_clients (option_rule (codes "body-memory") (codes "268435456") no_end) (with_service (new_app (codes "serve"))))) moment_rule)
    journal_rule))
    tenant_rule

-- the command `run`: its options with their defaults, and the tenants
abbrev pub run_command : App
run_command =
    with_rule
    (with_run_sizes
    (with_rule (with_watch (with_many_clients (number_rule (codes "body-memory") 0 no_end) (with_run_service (new_app (codes "run"))))) journal_rule))
    tenant_rule

-- the program without its commands, which does nothing without one, and tells its version
abbrev pub program_alone : App
program_alone =
    let bare = new_app (codes "tus-server") in
    record bare {
      top = record bare.top { has_version = true; subcommand_required = true; arg_required_else_help = true };
    }

-- the program: it has the commands `run`, `talk`, `serve` and `journal`
abbrev pub program : App
program =
    with_subcommand
    (with_subcommand
    (with_subcommand
    (with_subcommand program_alone run_command.top)
    talk_command.top)
    serve_command.top)
    (new_app (codes "journal")).top

-- a word that is needed and stands for itself
abbrev pub word_rule : Text → Rule
word_rule name = record (new_rule name) { value_names = 1; required = true }

-- `journal check`, of a folder
abbrev pub check_command : App
check_command = with_rule (new_app (codes "check")) (word_rule (codes "folder"))

-- `journal export`, of a folder and an upload in it
abbrev pub export_command : App
export_command = with_rule (with_rule (new_app (codes "export")) (word_rule (codes "folder"))) (word_rule (codes "upload"))

-- `journal` without its commands, which does nothing without one
abbrev pub journal_alone : App
journal_alone =
    let bare = new_app (codes "journal") in
    record bare { top = record bare.top { subcommand_required = true; arg_required_else_help = true } }

-- `journal` as a program of its own
abbrev pub journal_program : App
journal_program = with_subcommand (with_subcommand journal_alone check_command.top) export_command.top

-- the word at a place, from 0, is this one
abbrev pub is_word : List Text → ℕ → Text → Bool
is_word words place text = option_map_or (λ word. bytes_eq word text) (slice_get words place) false

-- the words are those of `journal`, behind the program's name
abbrev pub are_of_journal : List Text → Bool
are_of_journal words = is_word words 1 (codes "journal")

-- they ask for help of `journal`, or of a command of it
abbrev pub ask_help_of_journal : List Text → Bool
ask_help_of_journal words = is_word words 1 (codes "help") && is_word words 2 (codes "journal")

-- what `help` is answered with: help, or that what it names is no command
abbrev pub help_kinds : Kinds
help_kinds = DisplayHelp ∷ InvalidSubcommand ∷ []

-- Why the words are not taken, or that they ask for help: nothing where they are taken. Those of `journal` are read without
-- the program's name.
abbrev pub faults_in : List Text → Kinds
faults_in words = if are_of_journal words then fault_of journal_program (drop 1 words) else fault_of program words

-- the command that the words enter, with what is found for it
abbrev pub command_in : List Text → Option (Text × List Row)
command_in words = if are_of_journal words then subcommand_of journal_program (drop 1 words) else subcommand_of program words
