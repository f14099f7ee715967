use Rattle.upload_book.specs.Book.{plain_of}
use Rattle.upload_book.specs.declared.board_line.BoardLine.{BoardLine}
use Rattle.upload_book.specs.Heads.{heads_of}
use Rattle.upload_book.specs.Ready.{step_change, step_moment}
use Rattle.upload_book.proofs.Heads.LineLemmas.{line-is, line-leads, note-told}
use Rattle.upload_book.proofs.ready.Ready.note.Goals as goal

pub returns : goal.returns
returns c =
    let b = c.args.book.now in
    let step = c.args.self.now.step in
    let line : BoardLine = record { change = c.noted.ensures.head; accounts = c.accounts_after.result } in
    let is = line-is (plain_of b) (step_change step) (step_moment step) c.noted.ensures.head c.accounts_after.result c.noted.ensures.is c.accounts_after.ensures in
    record {
      line = line;
      is = is;
      told = note-told (heads_of (plain_of b)) c.noted.result c.noted.ensures.head c.accounts_after.result c.noted.ensures.told;
      texts = c.noted.ensures.texts;
      leads = line-leads b step (step_moment step) line c.settings-lawful.ensures.lawful c.requires is;
    }
