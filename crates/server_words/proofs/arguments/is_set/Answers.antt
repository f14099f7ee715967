use Rattle.std.proofs.Common.{◌∙◌}
use Rattle.std.specs.Str.Parse.{ParsesBool}
use Rattle.clap.specs.Words.{found_of}
use Rattle.server_words.proofs.ArgumentsLemmas.{flag_read}
use Rattle.server_words.proofs.arguments.is_set.Goals as goal

pub returns : goal.returns
returns c =
    c.unwrap_or.ensures
    ∙ flag_read (λ bs r. ParsesBool bs r) (found_of c.args.found.now) c.args.name.now
    c.get_one.result (λ text r h. h) c.get_one.ensures.none c.get_one.ensures.value
