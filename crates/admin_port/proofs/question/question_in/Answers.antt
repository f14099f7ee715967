use Rattle.std.proofs.Common.{rules, ap, ◌∙◌, Ok}
use Rattle.admin_port.proofs.QuestionLemmas.{asks-head}
use Rattle.admin_port.proofs.question.question_in.Goals as goal

pub returns-in-Ok-Complete : goal.returns-in-Ok-Complete
returns-in-Ok-Complete c =
    asks-head c.args.bytes.now c.args.is_near c.parse_request.new.headers c.parse_request.result c.in-Ok-Complete.line c.asked_by.result
    (c.in-Ok-Complete.is ∙ ap Ok c.in-Ok-Complete.field-0-is) (search rules) c.parse_request.ensures.within c.parse_request.ensures.complete (search rules)
