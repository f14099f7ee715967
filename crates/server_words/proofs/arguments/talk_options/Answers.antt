use Rattle.std.proofs.Common.{◌∙◌, ap, codes}
use Rattle.std.specs.Prelude.{option_map}
use Rattle.clap.proofs.WalkLemmas.{first_value-rows, raw_values-rows}
use Rattle.clap.specs.Walk.{rows_of, texts}
use Rattle.clap.specs.Words.{found_of}
use Rattle.server_words.specs.Arguments.{piece_set, talk}
use Rattle.server_words.proofs.ArgumentsLemmas.{talk_arguments-none, talk_arguments-some}
use Rattle.server_words.proofs.arguments.talk_options.Goals as goal

pub returns : goal.returns
returns c =
    ap (option_map talk) (talk_arguments-some (rows_of (found_of c.args.found.now)) c.numbers_of.result c.number_of.result c.in_ok-new.field-0 _ c.in_ok-piece.piece (texts c.in_ok-get_strs.field-0.now) c.numbers_of.ensures
    c.number_of.ensures (rw c.in_ok-new.was at c.new.ensures) (c.get_str.ensures ∙ first_value-rows (found_of c.args.found.now) (codes "journal")) (c.in_ok-piece.ensures.set ∙ ap piece_set c.number_given.ensures) (c.in_ok-get_strs.ensures ∙ raw_values-rows (found_of c.args.found.now) (codes "tenant")))

pub returns-in_err-get_strs : goal.returns-in_err-get_strs
returns-in_err-get_strs c = rw c.from_residual-in_err-get_strs.ensures (ap (option_map talk) (talk_arguments-none (rows_of (found_of c.args.found.now)) c.in_ok-piece.piece (c.in_ok-piece.ensures.set ∙ ap piece_set c.number_given.ensures) (c.in_err-get_strs.ensures ∙ raw_values-rows (found_of c.args.found.now) (codes "tenant"))))
