-- When a fault of a command is explained. Scripts hold what goes to standard error to the byte, so of a command that asks for
-- no more than a conversation, or for connections of this machine one after another, a fault is one line.
use Rattle.std.specs.Prelude.{ℕ, Bool, true, not, ◌==◌, ◌^◌, ◌&&◌, ◌||◌, nat_le, List, [], bytes_eq, codes, is_some, if◌then◌else◌}
use Rattle.server_words.specs.Arguments.{CommandArguments, talk, serve, check, export}
use Rattle.server_words.specs.declared.options.WorkerOptions.{WorkerOptions}

-- each worker serves one connection after another and gathers bodies, with no other bounds than that one may be silent for
-- a minute, and those of the settings
abbrev pub is_least_work : WorkerOptions → Bool
is_least_work work =
    nat_le work.connections 4096 && (work.at_once == 1 && (work.idle == 60 && (work.message_seconds == 0 && (work.least_rate == 0 && (work.body_memory == 2 ^ 28 && (not (is_some work.piece) && not (is_some work.max_body)))))))

-- the command asks for more: for a journal, a log, a port for numbers, another address, bodies in pieces, or clients at once or
-- for ever
abbrev pub asks_more : CommandArguments → Bool
asks_more (talk arguments) = is_some arguments.journal || is_some arguments.piece
asks_more (serve arguments) =
    not (bytes_eq arguments.address (codes "127.0.0.1"))
    || (is_some arguments.journal || (is_some arguments.log || (is_some arguments.metrics || not (is_least_work arguments.work))))
asks_more (check folder) = true
asks_more (export arguments) = true

-- a text that is told only under a condition
abbrev pub told_if : Bool → List ℕ → List ℕ
told_if told text = if told then text else []
