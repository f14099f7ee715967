-- What each worker is given to do, by what the command line asks of it.
use Rattle.connection_turns.specs.declared.work_options.WorkOptions.{WorkOptions}
use Rattle.server_words.specs.declared.options.WorkerOptions.{WorkerOptions}

abbrev pub work_of : WorkerOptions → WorkOptions
work_of options = record {
  moment = options.moment;
  connections = options.connections;
  at_once = options.at_once;
  bounds = record { idle = options.idle; message_seconds = options.message_seconds; least_rate = options.least_rate };
  body_memory = options.body_memory;
  piece = options.piece;
  max_body = options.max_body;
  by_readiness = options.by_readiness;
  ranges = options.ranges;
  grace = options.grace;
}
