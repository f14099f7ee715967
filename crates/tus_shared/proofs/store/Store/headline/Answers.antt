use Rattle.std.proofs.Common.{◌≤◌, All, subst}
use Rattle.upload_book.specs.BlockBook.{HoldsBook, blocks_of}
use Rattle.upload_book.specs.Charge.{charge_in}
use Rattle.upload_book.specs.Lawful.{IsLawful}
use Rattle.upload_book.specs.Settings.{Settings}
use Rattle.head_board.specs.Events.{book_at}
use Rattle.head_board.proofs.SettingsLemmas.{at-settings}
use Rattle.tus_shared.proofs.FinalLemmas.{comes-by}
use Rattle.tus_shared.proofs.store.Store.headline.Goals as goal

pub returns : goal.returns
returns g c =
    let s = g.C.Charges.settings in
    let blocks = blocks_of c.self.inside.book in
    let events = c.self.inside.board.events in
    let at = c.self.invariant.0.at in
    let holds : HoldsBook blocks (book_at s events) = subst (HoldsBook blocks) at.is c.tell_blocks.ensures.blocks in
    let lawful : IsLawful (book_at s events) = subst IsLawful at.is c.tell_blocks.ensures.lawful in
    rw (← c.self.view_is) (record {
      counted = holds.counted;
      read = holds.read;
      stands = at.is;
      finals = λ name u final has. comes-by s g.C.Charges.journal events name u c.self.invariant.1.joined final has;
      quotas = subst (λ (t : Settings). All (λ part. charge_in t.numbers part ≤ part.quota) (book_at s events).tenants) (at-settings s events) lawful.charges;
      happened = at.happened;
      paid = holds.fits;
      extents = holds.extents;
      own = holds.own;
      lawful = lawful;
    })
