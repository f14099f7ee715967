use Rattle.std.proofs.Common.{◌∙◌, ap, option_map}
use Rattle.clap.specs.Walk.{rows_of, texts}
use Rattle.clap.specs.Words.{found_of}
use Rattle.server_words.specs.Arguments.{run_work, serve}
use Rattle.server_words.proofs.ArgumentsLemmas.{run_arguments-some}
use Rattle.server_words.proofs.arguments.run_options.Goals as goal

pub returns : goal.returns
returns c =
    c.service_options.ensures
    ∙ ap (option_map serve) (run_arguments-some (rows_of (found_of c.args.found.now)) (texts c.in_ok-tenants.tenants.now) c.run_numbers-numbers.result c.in_ok-work.work
    c.in_ok-tenants.ensures c.run_numbers-numbers.ensures (c.in_ok-work.ensures.given ∙ ap (run_work (rows_of (found_of c.args.found.now))) c.greatest_upload.ensures))
