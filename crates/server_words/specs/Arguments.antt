-- What the words of the command line ask for: the command, with its arguments.
use Rattle.std.specs.Prelude.{ℕ, ◌*◌, ◌^◌, ◌+◌, ◌-◌, Bool, true, false, ◌&&◌, ◌||◌, List, length, min, nat_lt, nat_le, Option, Some, None, option_and_then, option_map, is_some, unwrap_or, bytes_eq, codes, if◌then◌else◌}
use Rattle.std.specs.List.{list_all}
use Rattle.std.specs.Option.{option_map_or}
use Rattle.std.specs.Borrow.{Bor}
use Rattle.std.specs.Char.{digit_value}
use Rattle.std.specs.Str.Parse.{digits_value, without_leading_plus}
use Rattle.clap.specs.Walk.{texts}
use Rattle.clap.specs.Words.{Row, Text, all_of, first_of, one_of}
use Rattle.upload_book.specs.declared.settings.Bounds.{Bounds}
use Rattle.upload_book.specs.declared.settings.Bounds.TheVariants.{Narrow, Wide}
use Rattle.upload_book.specs.declared.settings.Numbers.{Numbers}
use Rattle.upload_book.specs.Settings.{is_outside, pool_limit}
use Rattle.server_words.specs.declared.options.CommandOptions.{CommandOptions}
use Rattle.server_words.specs.declared.options.CommandOptions.TheVariants.{Talk, Serve, Check, Export}
use Rattle.server_words.specs.declared.options.ExportOptions.{ExportOptions}
use Rattle.server_words.specs.declared.options.ServeOptions.{ServeOptions}
use Rattle.server_words.specs.declared.options.TalkOptions.{TalkOptions}
use Rattle.server_words.specs.declared.options.WorkerOptions.{WorkerOptions}
use Rattle.server_words.specs.CommandLine.{command_in}
use Rattle.server_words.specs.Tenants.{blocks_of_quotas, greatest_quota_bytes}

-- the text is a decimal number below 2^64, perhaps after a plus
abbrev pub is_number : Text → Bool
is_number text =
    let digits = without_leading_plus text in
    nat_lt 0 (length digits) && list_all (λ d. nat_lt (digit_value d) 10) digits && nat_lt (digits_value 10 digits) (2 ^ 64)

-- the number that a text writes, if it writes one
abbrev pub number_in : Text → Option ℕ
number_in text = if is_number text then Some (digits_value 10 (without_leading_plus text)) else None

-- the number that is given under a name, if one is
abbrev pub number_given : Text → List Row → Option ℕ
number_given name rows = option_and_then number_in (one_of name rows)

-- the same, and 0 where none is
abbrev pub number_under : Text → List Row → ℕ
number_under name rows = unwrap_or (number_given name rows) 0

-- the flag of a name is set
abbrev pub is_set : Text → List Row → Bool
is_set name rows = option_map_or (λ text. bytes_eq text (codes "true")) (one_of name rows) false

-- The numbers of a server with so many blocks and this greatest upload, where finished uploads stay for so many seconds: the
-- options give the others, each under its name. Ids and totals have no option: they are bounded by their type alone.
abbrev pub numbers_with : ℕ → ℕ → ℕ → List Row → Numbers
numbers_with blocks max_size finished rows = record {
  blocks = blocks;
  block_size = number_under (codes "block-size") rows;
  lifetime = number_under (codes "lifetime") rows;
  finished_lifetime = finished;
  max_size = max_size;
  uploads = number_under (codes "uploads") rows;
  last_id = 2 ^ 64 - 2;
  last_total = 2 ^ 64 - 1;
}

-- the numbers that the options of `talk` and `serve` give; finished uploads stay
abbrev pub numbers_given : List Row → Numbers
numbers_given rows = numbers_with (number_under (codes "blocks") rows) (number_under (codes "max-size") rows) 0 rows

-- the numbers of `run`: where they are not told there are as many blocks as the quotas sum to, and the greatest upload is as
-- large as the greatest quota
abbrev pub run_numbers : List Row → List Text → Numbers
run_numbers rows words =
    let size = number_under (codes "block-size") rows in
    numbers_with (unwrap_or (number_given (codes "blocks") rows) (blocks_of_quotas size words))
    (unwrap_or (number_given (codes "max-size") rows) (greatest_quota_bytes size words)) (number_under (codes "finished-lifetime") rows) rows

-- The size of the pieces in which bodies without a checksum are stored as they come, if one is told. It is from 65,536 to
-- 1,048,576, and else there are no arguments.
abbrev pub piece_set : Option ℕ → Option (Option ℕ)
piece_set None = Some None
piece_set (Some size) = if nat_lt size 65536 || nat_lt 1048576 size then None else Some (Some size)

-- the bounds of settings, by the size of pieces: wide where there is one, as an upload may then be larger than any body that is
-- held
abbrev pub bounds_by : Option ℕ → Bounds
bounds_by piece = if is_some piece then Wide else Narrow

-- what `talk` is asked for: the numbers of the settings, the moment of every message, the folder of the journal and the size of
-- pieces, if there are any, and the words NAME:QUOTA
pub record TalkArguments : Type 0 where
  pub numbers : Numbers
  pub moment : ℕ
  pub journal : Option Text
  pub piece : Option ℕ
  pub tenants : List Text

-- the arguments of `talk`, where the size of pieces can be, there are words NAME:QUOTA, and the moment is at most the last second
-- of the year 9999
abbrev pub talk_arguments_with : ℕ → List Row → Option ℕ → Option (List Text) → Option TalkArguments
talk_arguments_with moment rows piece None = None
talk_arguments_with moment rows piece (Some words) = if nat_lt 253402300799 moment then None else Some (record {
  numbers = numbers_given rows;
  moment = moment;
  journal = first_of (codes "journal") rows;
  piece = piece;
  tenants = words;
})

abbrev pub talk_arguments : List Row → Option TalkArguments
talk_arguments rows =
    option_and_then (λ piece. talk_arguments_with (number_under (codes "moment") rows) rows piece (all_of (codes "tenant") rows)) (piece_set (number_given (codes "pieces") rows))

-- The moment that is set for every message, if one is. It is at most the last second of the year 9999, and else there
-- are no arguments.
abbrev pub moment_set : Option ℕ → Option (Option ℕ)
moment_set None = Some None
moment_set (Some secs) = if nat_lt 253402300799 secs then None else Some (Some secs)

-- how many connections a worker accepts: with the flag `forever` as many as can be counted
abbrev pub connections_given : List Row → ℕ
connections_given rows = if is_set (codes "forever") rows then 2 ^ 64 - 1 else number_under (codes "connections") rows

-- How many connections a worker holds at once: 8,192 where it is not told and they come without end, and else 1. It is told
-- as a number from 1 to 16,384, and else there are no arguments.
abbrev pub at_once_set : Bool → Option ℕ → Option ℕ
at_once_set forever None = Some (if forever then 8192 else 1)
at_once_set forever (Some n) = if is_outside n 16384 then None else Some n

abbrev pub at_once_given : Bool → List Row → Option ℕ
at_once_given forever rows = at_once_set forever (number_given (codes "at-once") rows)

-- there is a journal, a log, or a port at which numbers are asked for, so clients are served by readiness
abbrev pub is_by_readiness : List Row → Bool
is_by_readiness rows = is_some (first_of (codes "journal") rows) || (is_some (first_of (codes "log") rows) || is_some (number_given (codes "metrics") rows))

-- The port at which numbers are asked for, if one is given. It is at most 65,535, and else there are no arguments.
abbrev pub metrics_set : Option ℕ → Option (Option ℕ)
metrics_set None = Some None
metrics_set (Some port) = if nat_lt 65535 port then None else Some (Some port)

-- For how many seconds messages that are under way may still end once a stop was asked for; none where there is no port at
-- which it can be.
abbrev pub grace_given : List Row → Option ℕ
grace_given rows = option_map (λ port. number_under (codes "grace") rows) (number_given (codes "metrics") rows)

-- what each worker is asked for, with these of its parts; the options give the others, each under its name
abbrev pub work_with : List Row → Option ℕ → ℕ → ℕ → ℕ → Option ℕ → Bool → WorkerOptions
work_with rows moment connections at_once body_memory piece by_readiness = record {
  moment = moment;
  connections = connections;
  at_once = at_once;
  idle = number_under (codes "idle") rows;
  message_seconds = number_under (codes "message-seconds") rows;
  least_rate = number_under (codes "least-rate") rows;
  body_memory = body_memory;
  piece = piece;
  max_body = number_given (codes "max-body") rows;
  by_readiness = by_readiness;
  ranges = false;
  grace = grace_given rows;
}

-- what each worker of `serve` is asked for, where the moment can be, how many connections it holds, and the size of pieces
abbrev pub work_given : List Row → Option WorkerOptions
work_given rows =
    option_and_then
    (λ moment. option_and_then
    (λ at_once. option_map (λ piece. work_with rows moment (connections_given rows) at_once (number_under (codes "body-memory") rows) piece (is_by_readiness rows)) (piece_set (number_given (codes "pieces") rows)))
    (at_once_given (is_set (codes "forever") rows) rows))
    (moment_set (number_given (codes "moment") rows))

-- the most bytes that an upload comes to: those of `--max-size`, or of all blocks together where these are fewer
abbrev pub greatest_upload : Numbers → ℕ
greatest_upload n = min n.max_size (n.blocks * n.block_size)

-- How many bytes of bodies and replies `run` holds where an upload comes to at most so many: 256 MiB more, where that is not
-- told. More than a pool may have count as these, so the sum is a number; their settings are refused.
abbrev pub run_body_memory : List Row → ℕ → ℕ
run_body_memory rows most = unwrap_or (number_given (codes "body-memory") rows) (min most (pool_limit Wide) + 2 ^ 28)

-- what each worker of `run` is asked for, where an upload comes to at most so many bytes, and where that can be: connections come
-- without end and are served by readiness, ranges of bytes are served, bodies are stored in pieces, of 262,144 bytes where their size is not told, and the
-- clock is the machine's
abbrev pub run_work : List Row → ℕ → Option WorkerOptions
run_work rows most =
    option_and_then
    (λ at_once. option_map (λ piece. record (work_with rows None (2 ^ 64 - 1) at_once (run_body_memory rows most) piece true) { ranges = true }) (piece_set (Some (unwrap_or (number_given (codes "pieces") rows) 262144))))
    (at_once_given true rows)

-- the port that is listened at, where the number is one
abbrev pub port_given : List Row → Option ℕ
port_given rows = if nat_le (number_under (codes "port") rows) 65535 then Some (number_under (codes "port") rows) else None

-- how many workers there are, where the number is from 1 to 16
abbrev pub workers_given : List Row → Option ℕ
workers_given rows = if is_outside (number_under (codes "workers") rows) 16 then None else Some (number_under (codes "workers") rows)

-- what `serve` or `run` is asked for: the numbers of the settings, the words NAME:QUOTA, the address and the port, how many workers
-- there are, what each of them is asked for, and, if there are any, the files of the journal and of the log, and the port for
-- numbers
pub record ServeArguments : Type 0 where
  pub numbers : Numbers
  pub tenants : List Text
  pub address : Text
  pub port : ℕ
  pub journal : Option Text
  pub workers : ℕ
  pub work : WorkerOptions
  pub log : Option Text
  pub metrics : Option ℕ

-- the arguments of a server of these numbers, tenants and work, where there is an address, and the ports and the number of
-- workers can be
abbrev pub serve_arguments_with : List Row → Numbers → List Text → WorkerOptions → Option Text → Option ℕ → Option ℕ → Option (Option ℕ) → Option ServeArguments
serve_arguments_with rows numbers words work None port workers metrics = None
serve_arguments_with rows numbers words work (Some address) None workers metrics = None
serve_arguments_with rows numbers words work (Some address) (Some port) None metrics = None
serve_arguments_with rows numbers words work (Some address) (Some port) (Some workers) None = None
serve_arguments_with rows numbers words work (Some address) (Some port) (Some workers) (Some metrics) = Some (record {
  numbers = numbers;
  tenants = words;
  address = address;
  port = port;
  journal = first_of (codes "journal") rows;
  workers = workers;
  work = work;
  log = first_of (codes "log") rows;
  metrics = metrics;
})

abbrev pub service_arguments : List Row → Numbers → List Text → WorkerOptions → Option ServeArguments
service_arguments rows numbers words work =
    serve_arguments_with rows numbers words work (first_of (codes "address") rows) (port_given rows) (workers_given rows)
    (metrics_set (number_given (codes "metrics") rows))

-- the arguments of `serve` and of `run`, where each has its work, and there are words NAME:QUOTA
abbrev pub serve_arguments : List Row → Option ServeArguments
serve_arguments rows =
    option_and_then (λ work. option_and_then (λ words. service_arguments rows (numbers_given rows) words work) (all_of (codes "tenant") rows)) (work_given rows)

abbrev pub run_arguments : List Row → Option ServeArguments
run_arguments rows =
    option_and_then
    (λ words. option_and_then (λ work. service_arguments rows (run_numbers rows words) words work) (run_work rows (greatest_upload (run_numbers rows words))))
    (all_of (codes "tenant") rows)

-- what `journal export` is asked for: a folder, and an upload in it
pub record ExportArguments : Type 0 where
  pub folder : Text
  pub upload : Text

abbrev pub export_arguments_with : Option Text → Option Text → Option ExportArguments
export_arguments_with None upload = None
export_arguments_with (Some folder) None = None
export_arguments_with (Some folder) (Some upload) = Some (record { folder = folder; upload = upload })

abbrev pub export_arguments : List Row → Option ExportArguments
export_arguments rows = export_arguments_with (first_of (codes "folder") rows) (first_of (codes "upload") rows)

-- a command, with what it is asked for; of `journal check` that is a folder, and `run` is a `serve`
pub data CommandArguments : Type 0 where
  talk : TalkArguments → CommandArguments
  serve : ServeArguments → CommandArguments
  check : Text → CommandArguments
  export : ExportArguments → CommandArguments

-- the command that was entered with these rows, where it is one of these and has all of its arguments
abbrev pub arguments_entered : Option (Text × List Row) → Option CommandArguments
arguments_entered None = None
arguments_entered (Some entered) =
    if bytes_eq entered.0 (codes "run") then option_map serve (run_arguments entered.1)
    else (if bytes_eq entered.0 (codes "talk") then option_map talk (talk_arguments entered.1)
    else (if bytes_eq entered.0 (codes "serve") then option_map serve (serve_arguments entered.1)
    else (if bytes_eq entered.0 (codes "check") then option_map check (first_of (codes "folder") entered.1)
    else (if bytes_eq entered.0 (codes "export") then option_map export (export_arguments entered.1) else None))))

-- the command that the words of the command line ask for, the program's name first
abbrev pub arguments_in : List Text → Option CommandArguments
arguments_in words = arguments_entered (command_in words)

-- the program's options as arguments
abbrev pub talk_arguments_of : TalkOptions → TalkArguments
talk_arguments_of options = record {
  numbers = options.numbers;
  moment = options.moment;
  journal = option_map (λ (path : Bor (List ℕ)). path.now) options.journal;
  piece = options.piece;
  tenants = texts options.tenants.now;
}

abbrev pub serve_arguments_of : ServeOptions → ServeArguments
serve_arguments_of options = record {
  numbers = options.numbers;
  tenants = texts options.tenants.now;
  address = options.address.now;
  port = options.port;
  journal = option_map (λ (path : Bor (List ℕ)). path.now) options.journal;
  workers = options.workers;
  work = options.work;
  log = option_map (λ (path : Bor (List ℕ)). path.now) options.log;
  metrics = options.metrics;
}

abbrev pub export_arguments_of : ExportOptions → ExportArguments
export_arguments_of options = record { folder = options.folder.now; upload = options.upload.now }

abbrev pub arguments_of : CommandOptions → CommandArguments
arguments_of (Talk options) = talk (talk_arguments_of options)
arguments_of (Serve options) = serve (serve_arguments_of options)
arguments_of (Check folder) = check folder.now
arguments_of (Export options) = export (export_arguments_of options)
