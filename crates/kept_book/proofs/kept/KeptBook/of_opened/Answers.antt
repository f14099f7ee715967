use Rattle.std.proofs.Common.{List, ℕ, ap, ◌∙◌}
use Rattle.book_replay.proofs.ReplayLemmas.{all-replayed}
use Rattle.book_replay.specs.Replay.{replayed}
use Rattle.upload_book.specs.Events.{book_after_all}
use Rattle.upload_book.specs.PlainBook.{opening_book}
use Rattle.kept_book.proofs.KeptLemmas.{kept-opened, read-again}
use Rattle.kept_book.proofs.OpeningLemmas.{not-refused}
use Rattle.kept_book.proofs.kept.KeptBook.of_opened.Goals as goal

pub returns-in-Ok-clause-kept : goal.returns-in-Ok-clause-kept
returns-in-Ok-clause-kept g c = λ events happened all is.
    kept-opened _ c.args.opened.journal c.args.settings events c.args.key c.new.result.key c.args.opened.frames.items c.new.result.rest.now c.new-log.ensures.journal c.new-log.ensures.key c.requires.key is all c.new.ensures.key (c.new.ensures.rest ∙ c.deref.ensures.value) c.in-Ok.ensures.book happened

pub returns-clause-accepts : goal.returns-clause-accepts
returns-clause-accepts g c = λ events happened all.
    let opening = opening_book c.args.settings in
    let read = read-again events c.args.key c.new.result.key c.args.opened.frames.items c.new.result.rest.now all c.new.ensures.key (c.new.ensures.rest ∙ c.deref.ensures.value) in
    not-refused _ (book_after_all opening events) c.in-Err.fault c.in-Err.ensures.why (ap (λ (records : List (List ℕ)). replayed 1 opening records) read ∙ all-replayed 1 opening events happened)
