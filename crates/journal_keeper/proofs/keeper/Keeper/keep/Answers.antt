use Rattle.std.proofs.Common.{◌≡◌, ℕ, ◌++◌, List, Vec, Global, Option, map, IfSome, ap, subst, sym, ◌∙◌, rules}
use mathlib.Core.List.{IsPrefix}
use Rattle.head_board.specs.Event.{Event}
use Rattle.journal_file.specs.Journal.{key_of}
use Rattle.journal_keeper.specs.declared.compaction.Compaction.{Compaction}
use Rattle.journal_keeper.specs.Compaction.{WillKeep}
use Rattle.journal_keeper.specs.Keeper.{event_records}
use Rattle.journal_file.specs.Appending.{frames_each}
use Rattle.journal_keeper.proofs.CompactionLemmas.{will-keep-more, will-keep-under}
use Rattle.journal_keeper.proofs.KeeperLemmas.{frames-queued, kept-lost, kept-more, on_ok}
use Rattle.journal_keeper.proofs.keeper.Keeper.keep.Goals as goal

pub returns-then-begins-clause-kept : goal.returns-then-begins-clause-kept
returns-then-begins-clause-kept g c =
    let begins : IsPrefix c.args.desk.now.seen c.self.inside.durable.events =
    subst (λ (events : List Event). IsPrefix events c.self.inside.durable.events) (ap (λ s. s.events) c.seen_events-seen.ensures) (c.begins.ensures.begins c.if-begins.true) in
    on_ok c.tell-told.result _ (subst (λ (events : List Event). IsPrefix events c.self.inside.durable.events) (sym c.tell-told.ensures.seen) begins)

pub invariant_of-self-in_err-keep_taken : goal.invariant_of-self-in_err-keep_taken
invariant_of-self-in_err-keep_taken g c =
    let found = c.in_ok-taken.ensures in
    let told = c.in_err-keep_taken.ensures in (
      kept-lost c.self.inside.journal c.keep_taken.new.journal _ _ _ _ _ _ _ c.in_ok-taken.taken.reached _ c.self.inside.granted _ _ c.if-self.false c.self.invariant.0 told.key found.log (found.taken.more, sym found.taken.reaches) told.crash c.again.ensures,
      will-keep-under _ _ _ _ c.self.inside.compaction told.key c.self.invariant.1,
    )

pub invariant_of-self-in_err-tell : goal.invariant_of-self-in_err-tell
invariant_of-self-in_err-tell g c =
    let found = c.in_ok-taken.ensures in
    let told = c.in_ok-keep_taken.ensures in (
      kept-lost c.self.inside.journal c.keep_taken.new.journal _ _ _ _ _ _ _ c.in_ok-taken.taken.reached _ c.self.inside.granted _ _ c.if-self.false c.self.invariant.0 told.key found.log (found.taken.more, sym found.taken.reaches) told.crash c.again.ensures,
      will-keep-under _ _ _ _ c.self.inside.compaction told.key c.self.invariant.1,
    )

pub invariant_of-self-2 : goal.invariant_of-self-2
invariant_of-self-2 g c =
    let s = g.C.Charges.settings in
    let is = c.self.invariant.0 in
    let key = key_of c.self.inside.journal in
    let found = c.in_ok-taken.ensures in
    let taken = found.taken in
    let told = c.in_ok-keep_taken.ensures in
    let frames = c.in_ok-taken.taken.frames.items in
    let are : map {A = Vec ℕ Global} {B = List ℕ} (λ frame. frame.items) frames ≡ frames_each key (event_records taken.more) = frames-queued g.C.Charges.journal key _ taken.more is.key taken.are in
    let fit = told.fit (event_records taken.more) are in
    let was : c.take.result ≡ c.self.inside.compaction = search rules in
    let keeps = subst (λ (it : Option (Compaction g.row.D.Denot g.D.Disk)). IfSome it (λ one. WillKeep s one key c.self.inside.durable.events)) (sym was) c.self.invariant.1 in
    let more = will-keep-more s key c.self.inside.durable.events taken.more c.take.result c.with_kept.result taken.again keeps (λ records have. c.with_kept.ensures.more key records (event_records taken.more) have are fit) c.with_kept.ensures.none in
    let reached = subst (λ (events : List Event). IfSome c.with_kept.result (λ it. WillKeep s it key events)) (sym taken.reaches) more in (
      kept-more c.self.inside.journal c.keep_taken.new.journal _ _ _ _ _ _ _ _ _ c.self.inside.granted _ _ c.if-self.false is told.key found.log taken.happened told.kept told.covered c.again.ensures,
      will-keep-under _ _ _ _ c.with_kept.result told.key reached,
    )

pub returns-clause-keeps : goal.returns-clause-keeps
returns-clause-keeps g c =
    let taken = c.in_ok-taken.ensures.taken in
    (taken.more, ap (λ (events : List Event). events ++ taken.more) (sym (ap (λ k. k.kept) c.self.view_is)) ∙ sym taken.reaches)
