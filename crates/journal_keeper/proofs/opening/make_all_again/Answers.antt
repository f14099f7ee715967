use Rattle.std.proofs.Common.{◌≡◌, ℕ, ◌+◌, ◌++◌, All, length, sym, ap, subst, ◌∙◌, arith}
use Rattle.std.proofs.lemmas.List.Elements.{All-push}
use Rattle.book_replay.specs.Replay.{replayed}
use Rattle.book_replay.proofs.ReplayLemmas.{replayed-next}
use Rattle.head_board.specs.Event.{Event}
use Rattle.head_board.specs.Events.{book_at}
use Rattle.journal_frames.specs.Frames.{recovered}
use Rattle.journal_keeper.specs.Keeper.{event_records}
use Rattle.journal_keeper.proofs.OpeningLemmas.{moves-on, records-next}
use Rattle.journal_keeper.proofs.opening.make_all_again.Goals as goal

pub records-preserved : goal.records-preserved
records-preserved g c =
    let s = g.C.Charges.settings in
    let so_far = c.records.invariant in
    let old = c.records.records in
    let rest = c.next.new.self.rest.now in
    let after = c.make_record_again.new.store in
    let told = c.in-Ok-make_record_again.ensures in
    let made = told.made in
    record {
      key = c.next.ensures.key ∙ so_far.key;
      happened = told.happened;
      so_far = ap (λ (key : ℕ). event_records after ++ recovered key rest) c.next.ensures.key
          ∙ records-next c.records.desk.number c.in-Ok.bytes.now c.records.store after (recovered old.key old.rest.now) (recovered old.key rest) _ made c.in-Ok.ensures.payload so_far.so_far;
      read = ap (λ (key : ℕ). replayed (c.records.number + 1) (book_at s after) (recovered key rest)) c.next.ensures.key
          ∙ sym (replayed-next c.records.number (book_at s c.records.store) (book_at s after) c.in-Ok.bytes.now (recovered old.key old.rest.now) (recovered old.key rest) c.in-Ok.ensures.payload told.after)
          ∙ so_far.read;
      here = subst (All (λ (e : Event). e.desk ≡ c.args.desk.now.number)) (sym made.next) (All-push (λ (e : Event). e.desk ≡ c.args.desk.now.number) c.records.store made.event so_far.here (made.desk_is ∙ so_far.moves.number));
      seen = c.make_record_again.ensures.seen;
      moves = moves-on s _ c.records.store after c.args.desk.now c.records.desk c.make_record_again.new.desk so_far.moves c.make_record_again.ensures.moves;
      room = c.make_record_again.ensures.room ∙ so_far.room;
      missed = c.make_record_again.ensures.missed ∙ so_far.missed;
      count = omega (arith, ap length c.in-Ok.ensures.payload, ap (λ (key : ℕ). length (recovered key rest)) c.next.ensures.key, so_far.count);
      few = omega (arith, c.in-Ok.ensures.shorter, so_far.few);
    }
