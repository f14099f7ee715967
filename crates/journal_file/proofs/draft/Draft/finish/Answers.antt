use Rattle.std.proofs.Common.{refl}
use Rattle.journal_file.proofs.DraftLemmas.{draft_finished}
use Rattle.journal_file.proofs.draft.Draft.finish.Goals as goal

pub returns-clause-finished : goal.returns-clause-finished
returns-clause-finished g c = λ payloads is. draft_finished c.args.self _ payloads is refl refl c.fill.ensures.others c.in_ok-fill.ensures.filled c.in_ok-fill.ensures.synced
