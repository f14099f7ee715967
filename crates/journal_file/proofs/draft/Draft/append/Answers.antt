use Rattle.std.proofs.Common.{refl}
use Rattle.journal_file.proofs.DraftLemmas.{draft_appended}
use Rattle.journal_file.proofs.draft.Draft.append.Goals as goal

pub returns-clause-appended : goal.returns-clause-appended
returns-clause-appended g c = λ payloads more is fit are. draft_appended c.args.self.now _ payloads more c.args.bytes.now is fit are refl refl c.write_at.ensures.others c.in_ok-write_at.ensures.written
