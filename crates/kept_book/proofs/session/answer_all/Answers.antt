use Rattle.std.proofs.Common.{ℕ, ◌+◌, ◌++◌, length, refl, sym, ap, subst, ◌∙◌, arith, rules}
use Rattle.std.proofs.lemmas.List.{length_push}
use Rattle.tus_steps.specs.declared.reply.Reply.{Reply}
use Rattle.kept_book.specs.Answer.{IsKeptStep}
use Rattle.kept_book.specs.Kept.{book_in, IsLeftWithOneMore}
use Rattle.kept_book.proofs.KeptLemmas.{kept-leaves}
use Rattle.kept_book.proofs.SessionLemmas.{runs-end, runs-none, runs-turn}
use Rattle.kept_book.proofs.session.answer_all.Goals as goal

pub loop-request-init : goal.loop-request-init
loop-request-init g c = record {
  count = search rules;
  size = ap length c.in_ok-replies.ensures.items;
  room = search rules;
  key = refl;
  so_far = λ s events is. runs-none c.args.kept.now s events c.in_ok-replies.replies.items c.in_ok-replies.ensures.items is;
}

pub loop-request-preserved : goal.loop-request-preserved
loop-request-preserved g c =
    let so_far = c.loop-request.invariant in
    let kept = c.loop-request.kept in
    let step = subst (λ (told : Reply). IsKeptStep (book_in kept) c.loop-request-item.result.0 c.loop-request-item.result.1 told (book_in c.answer.new.self)) (sym c.into_reply.ensures) c.in-Ok.ensures.step in
    record {
      count = omega (arith, c.push_reserved.ensures.len, so_far.count);
      size = ap length c.push_reserved.ensures.items ∙ length_push c.loop-request.replies.items _ ∙ ap (λ (n : ℕ). n + 1) so_far.size;
      room = omega (arith, c.push_reserved.ensures.capacity, so_far.room);
      key = c.answer.ensures.key ∙ so_far.key;
      so_far = λ s events is.
          let before = so_far.so_far s events is in
          runs-turn (book_in c.args.kept.now) kept c.answer.new.self s events c.args.turns.now c.loop-request.request-index c.loop-request-item.result c.loop-request.replies.items c.push_reserved.new.self.items c.into_reply.result
          c.loop-request-test.true c.loop-request-item.is c.push_reserved.ensures.items before step (c.in-Ok.ensures.kept s (events ++ before.told) before.all);
    }

pub returns-clause-session : goal.returns-clause-session
returns-clause-session g c = λ s events is.
    let so_far = c.loop-request.invariant in
    let before = so_far.so_far s events is in
    runs-end c.args.kept.now c.loop-request.kept c.loop-request.kept s events c.args.turns.now c.loop-request.request-index c.loop-request.replies.items so_far.size before
    (λ left may. subst (λ (k : ℕ). IsLeftWithOneMore k s (events ++ before.told) left) so_far.key (kept-leaves c.loop-request.kept s (events ++ before.told) before.all left may))
