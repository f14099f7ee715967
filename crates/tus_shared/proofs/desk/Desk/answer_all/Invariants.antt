use Rattle.std.proofs.Common.{◌≡◌, ◌≤◌, length, take, vec_len, vec_capacity}
use Rattle.tus_shared.specs.Answers.{AnswersBatch}
use Rattle.tus_shared.proofs.desk.Desk.answer_all.Given as goal

abbrev pub invariant-loop-number : goal.invariant-loop-number
invariant-loop-number g l =
    (vec_len l.replies ≡ l.number)
    × (length l.batch ≤ vec_capacity l.replies)
    × AnswersBatch g.C.Charges.settings (take l.number l.batch) l.replies.items l.initial.self l.self
