use Rattle.std.proofs.Common.{ap}
use Rattle.std.specs.Prelude.{option_map}
use Rattle.clap.specs.Walk.{rows_of, texts}
use Rattle.clap.specs.Words.{found_of}
use Rattle.server_words.specs.Arguments.{serve}
use Rattle.server_words.proofs.ArgumentsLemmas.{grace-with_port, service_arguments-some}
use Rattle.server_words.proofs.arguments.service_options.Goals as goal

pub returns : goal.returns
returns c =
    ap (option_map serve) (service_arguments-some (rows_of (found_of c.args.found.now)) c.args.numbers (texts c.args.tenants.now) c.args.work _ _ _ _ _ _
    c.in_ok-address.ensures c.in_ok-port.ensures c.in_ok-workers.ensures.given c.text_given-journal.ensures c.text_given-log.ensures c.in_ok-metrics.ensures)

pub invariant_of-result-clause-grace_with_port : goal.invariant_of-result-clause-grace_with_port
invariant_of-result-clause-grace_with_port c none =
    grace-with_port (rows_of (found_of c.args.found.now)) _ _ c.requires c.in_ok-metrics.ensures none
