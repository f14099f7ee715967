use Rattle.std.proofs.Common.{◌≡◌, length, sym, ◌∙◌, ap}
use Rattle.head_board.specs.Events.{event_of}
use Rattle.head_board.proofs.LogLemmas.{adds_moves}
use Rattle.head_board.proofs.event_log.SeenEvents.with_next.Goals as goal

pub compare_exchange-found-requires : goal.compare_exchange-found-requires
compare_exchange-found-requires c =
    let h = rw (← c.self.view_is) at c.requires in
    let book : c.again-seen.result.book ≡ c.self.inside.seen.book = ap (λ s. s.book) c.again-seen.ensures in
    let offer = c.plain-offer.ensures in
    let pen = c.no_pen-pen.ensures in
    let len : length c.again-seen.result.log ≡ c.self.inside.count = ap (λ s. length s.log) c.again-seen.ensures ∙ sym c.self.invariant in (
      ap (λ w. w.tracked) h,
      book ∙ sym (ap (λ w. w.book) h),
      pen.0 ∙ (book ∙ sym (ap (λ w. w.book) h)),
      offer.0,
      rw (ap (λ w. w.key) h, pen.1, offer.1, offer.3, c.in_ok-longer.ensures.1) (adds_moves c.again-seen.result.log (event_of c.args.coming.now) c.self.inside.count len),
    )
