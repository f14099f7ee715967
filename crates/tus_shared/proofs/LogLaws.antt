-- That all desks answer in one list of events.
use Rattle.std.proofs.Common.{ℕ, List, [], ◌∷◌, ◌++◌, append_assoc, Option, Some, None, inl, inr, ap, refl, sym, subst, ◌∙◌}
use Rattle.std.proofs.lemmas.List.{append-nil}
use Rattle.std.proofs.lemmas.List.Elements.{All-head, All-tail}
use mathlib.Core.List.{IsPrefix}
use Rattle.upload_book.specs.PlainBook.{PlainBook}
use Rattle.upload_book.specs.Settings.{Settings}
use Rattle.tus_steps.specs.Changing.{change_found}
use Rattle.tus_steps.specs.declared.requested_change.ChangeOf.{ChangeOf}
use Rattle.tus_steps.specs.declared.reply.Reply.{Reply}
use Rattle.tus_steps.specs.Request.{Request}
use Rattle.head_board.specs.Event.{Event}
use Rattle.head_board.specs.Events.{book_at}
use Rattle.tus_shared.specs.Answers.{Answers, AnswersBatch}
use Rattle.tus_shared.specs.Desk.{Desk, queueing}
use Rattle.tus_shared.specs.Journal.{Queueing}
use Rattle.tus_shared.specs.Laws.{AreAnsweredIn, OneLog}
use Rattle.tus_shared.specs.Steps.{AddsBy}
use Rattle.tus_shared.specs.Turn.{Turn}

-- a list begins itself, and what begins a beginning begins the whole
pub prefix-self : (events : List Event) → IsPrefix events events
prefix-self events = ([], append-nil events)

pub prefix-on : (a b c : List Event) → IsPrefix a b → IsPrefix b c → IsPrefix a c
prefix-on a b c p q = (p.0 ++ q.0, sym (append_assoc a p.0 q.0) ∙ ap (λ (events : List Event). events ++ q.0) p.1 ∙ q.1)

-- what was before a turn begins what is after it
adds-more : (q : Queueing) (asked : Option ChangeOf) (b : PlainBook) (before : List Event) (desk : ℕ) (r : Request) (now : ℕ) (reply : Reply) (after : List Event) → AddsBy q asked b before desk r now reply after → IsPrefix before after
adds-more q None b before desk r now reply after same = subst (IsPrefix before) (sym same) (prefix-self before)
adds-more q (Some asked) b before desk r now reply after adds = elim (adds.2) [
  | inl made ↦ (record { desk = desk; change = asked.change; now = now } ∷ [], sym made.0.next)
  | inr left ↦ subst (IsPrefix before) (sym left.same) (prefix-self before)
]

-- so a desk only sees more, by a turn
pub sees-on : (s : Settings) (r : Request) (now : ℕ) (reply : Reply) (old new : Desk) → Answers s r now reply old new → IsPrefix old.seen new.seen
sees-on s r now reply old new answers = prefix-on old.seen answers.before new.seen answers.begins (adds-more (queueing old answers.frame) (change_found s r) (book_at s answers.before) answers.before old.number r now reply new.seen answers.adds)

-- and by a batch
pub batch-on : (s : Settings) (batch : List Turn) (replies : List Reply) (old new : Desk) → AnswersBatch s batch replies old new → IsPrefix old.seen new.seen
batch-on s [] [] old new same = subst (λ (d : Desk). IsPrefix old.seen d.seen) (sym same) (prefix-self old.seen)
batch-on s [] (reply ∷ replies) old new answers = absurd answers
batch-on s (turn ∷ batch) [] old new answers = absurd answers
batch-on s (turn ∷ batch) (reply ∷ replies) old new answers =
    prefix-on old.seen answers.0.seen new.seen (sees-on s turn.request turn.now reply old answers.0 answers.1.answers) (batch-on s batch replies answers.0 new answers.2)

-- a batch is answered in all events that begin with what the desk has seen after it
batch-in : (s : Settings) (all : List Event) (batch : List Turn) (replies : List Reply) (old new : Desk) → AnswersBatch s batch replies old new → IsPrefix new.seen all → AreAnsweredIn s old.journal all old.number batch replies old.seen
batch-in s all [] [] old new same within = tt
batch-in s all [] (reply ∷ replies) old new answers within = absurd answers
batch-in s all (turn ∷ batch) [] old new answers within = absurd answers
batch-in s all (turn ∷ batch) (reply ∷ replies) old new answers within =
    let between : Desk = answers.0 in
    let here : Answers s turn.request turn.now reply old between = answers.1.answers in (
      between.seen,
      record {
        before = here.before;
        begins = here.begins;
        lawful = here.lawful;
        within = prefix-on between.seen new.seen all (batch-on s batch replies between new answers.2) within;
        queueing = queueing old here.frame;
        keyed = refl;
        step = here.step;
        adds = here.adds;
      },
      subst (λ (n : ℕ). AreAnsweredIn s old.journal all n batch replies between.seen) here.moves.number
          (subst (λ (j : Option ℕ). AreAnsweredIn s j all between.number batch replies between.seen) here.moves.journal (batch-in s all batch replies between new answers.2 within)),
    )

pub one_log : OneLog
one_log s all [] [] [] [] answers within = tt
one_log s all (batch ∷ batches) (own ∷ replies) (old ∷ before) (new ∷ after) answers within = (
  batch-in s all batch own old new answers.0 (All-head (λ (d : Desk). IsPrefix d.seen all) new after within),
  one_log s all batches replies before after answers.1 (All-tail (λ (d : Desk). IsPrefix d.seen all) new after within),
)
one_log s all [] [] [] (new ∷ after) answers within = absurd answers
one_log s all [] [] (old ∷ before) after answers within = absurd answers
one_log s all [] (own ∷ replies) before after answers within = absurd answers
one_log s all (batch ∷ batches) [] before after answers within = absurd answers
one_log s all (batch ∷ batches) (own ∷ replies) [] after answers within = absurd answers
one_log s all (batch ∷ batches) (own ∷ replies) (old ∷ before) [] answers within = absurd answers
