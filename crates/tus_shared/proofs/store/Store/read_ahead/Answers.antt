use Rattle.std.proofs.Common.{◌≡◌, ◌-◌, List, ap, min, sym, subst, vec_capacity, vec_len, ◌∙◌}
use mathlib.Core.List.{IsPrefix}
use Rattle.upload_book.specs.Begun.{IsBegun, with_more}
use Rattle.upload_book.specs.Content.{content_answer}
use Rattle.upload_book.specs.PlainBook.{PlainBook, answer_of}
use Rattle.head_board.specs.Event.{Event}
use Rattle.head_board.specs.Events.{book_at}
use Rattle.tus_shared.specs.Desk.{Desk}
use Rattle.tus_shared.specs.Range.{range}
use Rattle.tus_shared.proofs.HeadLemmas.{begun-later}
use Rattle.tus_shared.proofs.store.Store.read_ahead.Goals as goal

pub read_ahead-requires : goal.read_ahead-requires
read_ahead-requires g c =
    let s = g.C.Charges.settings in
    let events = c.self.inside.board.events in
    let seen : c.desk.inside.reader.events ≡ c.args.desk.now.seen = ap (λ (d : Desk). d.seen) c.desk.view_is in
    let begins = subst (λ (first : List Event). IsPrefix first events) seen c.show_to.ensures.begins in
    record {
      begun = subst (λ (b : PlainBook). IsBegun b c.args.name.now c.args.begun.now.first c.args.begun.now.bytes.items) (sym c.self.invariant.0.at.is)
          (begun-later s c.args.name.now c.args.begun.now.first c.args.begun.now.bytes.items c.args.desk.now.seen events begins c.requires.begun);
    }

pub returns-clause-more : goal.returns-clause-more
returns-clause-more g c =
    let P : PlainBook → Type 0 = λ b. c.read_ahead.new.begun.bytes.items ≡ with_more (answer_of b c.args.name.now.tenant (content_answer c.args.name.now.id c.args.now)) c.args.begun.now.first (min range (vec_capacity c.args.begun.now.bytes - vec_len c.args.begun.now.bytes)) c.args.begun.now.bytes.items in
    subst P (c.self.invariant.0.at.is ∙ ap (λ (events : List Event). book_at g.C.Charges.settings events) c.self.view_is) c.read_ahead.ensures.more
