use Rattle.std.proofs.Common.{◌≡◌, sym, subst, ◌∙◌, arith}
use Rattle.head_board.specs.Events.{book_at}
use Rattle.tus_steps.specs.declared.asked.Asked.TheVariants as asks
use Rattle.upload_book.specs.Begun.{IsBegun}
use Rattle.upload_book.specs.declared.head_row.Name.{Name}
use Rattle.tus_shared.proofs.HeadLemmas.{looks-again, sees-looks}
use Rattle.tus_shared.proofs.desk.Desk.read_ahead.Goals as goal

pub loop-preserved : goal.loop-preserved
loop-preserved g c = record {
  begun = c.read_ahead.ensures.stays;
  looks = looks-again c.args.self.now c.loop.self c.read_ahead.new.desk c.loop.invariant.looks (sees-looks c.loop.self c.read_ahead.new.desk c.read_ahead.ensures.desk c.read_ahead.ensures.begins);
  room = omega (arith, c.loop.invariant.room, c.read_ahead.ensures.room);
}

pub returns-after-loop-clause-begun : goal.returns-after-loop-clause-begun
returns-after-loop-clause-begun g c =
    λ name is. subst (λ (name : Name). IsBegun (book_at g.C.Charges.settings c.loop.self.seen) name c.loop.begun.first c.loop.begun.bytes.items) (same (sym c.in-Content.is ∙ is)) c.loop.invariant.begun
  where
    same : {a b : Name} → asks.Content a ≡ asks.Content b → a ≡ b
    same e = cc
