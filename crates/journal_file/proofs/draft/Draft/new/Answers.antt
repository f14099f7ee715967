use Rattle.std.proofs.Common.{refl}
use Rattle.journal_file.proofs.DraftLemmas.{draft_begun}
use Rattle.journal_file.proofs.draft.Draft.new.Goals as goal

pub returns-clause-begun : goal.returns-clause-begun
returns-clause-begun g c = draft_begun _ refl
