-- The replies to a batch at a desk, one after another.
use Rattle.std.proofs.Common.{◌≡◌, ℕ, ◌+◌, ◌<◌, List, [], ◌∷◌, ◌++◌, length, take, get_or, add-one, refl, subst}
use Rattle.std.proofs.Math.Seq.{take-suc}
use Rattle.tus_steps.specs.declared.reply.Reply.{Reply}
use Rattle.upload_book.specs.Settings.{Settings}
use Rattle.tus_shared.specs.Desk.{Desk}
use Rattle.tus_shared.specs.Answers.{AnswersBatch, AnswersTurn}
use Rattle.tus_shared.specs.Turn.{Turn}

-- one more turn after those of a batch
AnswersBatch-append : (s : Settings) (batch : List Turn) (turn : Turn) (replies : List Reply) (reply : Reply) (old between new : Desk)
    → AnswersBatch s batch replies old between → AnswersTurn s turn.request turn.now reply between new → AnswersBatch s (batch ++ turn ∷ []) (replies ++ reply ∷ []) old new
AnswersBatch-append s [] turn [] reply old between new before here = (new, subst (λ (d : Desk). AnswersTurn s turn.request turn.now reply d new) before here, refl)
AnswersBatch-append s [] turn (r ∷ replies) reply old between new before here = absurd before
AnswersBatch-append s (t ∷ batch) turn [] reply old between new before here = absurd before
AnswersBatch-append s (t ∷ batch) turn (r ∷ replies) reply old between new before here =
    (before.0, before.1, AnswersBatch-append s batch turn replies reply before.0 between new before.2 here)

-- the next turn of a batch
pub AnswersBatch-next : (s : Settings) (batch : List Turn) (replies more : List Reply) (n : ℕ) (turn : Turn) (reply : Reply) (old between new : Desk)
    → n < length batch → turn ≡ get_or batch n turn → more ≡ replies ++ reply ∷ [] → AnswersBatch s (take n batch) replies old between → AnswersTurn s turn.request turn.now reply between new
    → AnswersBatch s (take (n + 1) batch) more old new
AnswersBatch-next s batch replies more n turn reply old between new within is pushed so_far here =
    rw (add-one, take-suc batch n turn within, ← is, pushed) (AnswersBatch-append s (take n batch) turn replies reply old between new so_far here)
