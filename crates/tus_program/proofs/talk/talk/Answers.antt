use Rattle.journal_folders.specs.StreamUse.{used}
use Rattle.server_words.specs.Arguments.{talk_arguments_of}
use Rattle.tus_program.proofs.TalkLemmas.{TalkEnds-by}
use Rattle.tus_program.proofs.talk.talk.Goals as goal

pub returns : goal.returns
returns g c =
    let reader = used g.R.Source.remaining g.R.Source.has_failed c.args.reader.now c.hold_conversation.new.reader in
    let writer = used g.W.Sink.contents g.W.Sink.has_failed c.args.writer.now c.hold_conversation.new.writer in
    let held = c.hold_conversation.ensures in
    TalkEnds-by (Unit {0}) (talk_arguments_of c.args.options.now) reader writer c.in_ok-book.book c.hold_conversation.new.answerer c.in_ok-book.ensures.settings c.in_ok-book.ensures.new
    c.hold_conversation.result c.map_err.result c.map_err.ensures.cases held.reader held.writer held.fault held.known held.breaks held.pieces held.broken held.memory
