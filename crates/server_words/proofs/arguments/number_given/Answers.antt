use Rattle.std.specs.Str.Parse.{ParsesUnsigned, ExplainsUnsignedError, HasUnsignedDigitsIfOk}
use Rattle.clap.specs.Words.{found_of}
use Rattle.server_words.proofs.ArgumentsLemmas.{number_read}
use Rattle.server_words.proofs.arguments.number_given.Goals as goal

pub returns : goal.returns
returns c =
    number_read (λ bs r. ParsesUnsigned 64 10 bs r × ExplainsUnsignedError 10 bs r × HasUnsignedDigitsIfOk bs r) (found_of c.args.found.now) c.args.name.now
    c.get_one.result (λ text r h. h.0) c.get_one.ensures.none c.get_one.ensures.value
