use Rattle.upload_book.specs.Ready.{step_moment}
use Rattle.upload_book.proofs.Heads.LineLemmas.{line-leads}
use Rattle.upload_book.proofs.ready.Ready.line.Goals as goal

pub returns-clause-follows : goal.returns-clause-follows
returns-clause-follows c =
    (line-leads c.args.book.now c.args.self.now.step (step_moment c.args.self.now.step) c.line_of_step.result c.settings-lawful.ensures.lawful c.requires c.line_of_step.ensures).may

pub returns-clause-after : goal.returns-clause-after
returns-clause-after c =
    (line-leads c.args.book.now c.args.self.now.step (step_moment c.args.self.now.step) c.line_of_step.result c.settings-lawful.ensures.lawful c.requires c.line_of_step.ensures).heads
