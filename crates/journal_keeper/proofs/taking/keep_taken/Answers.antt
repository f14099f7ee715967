use Rattle.std.proofs.Common.{◌≡◌, ℕ, ◌-◌, ◌++◌, List, Vec, Global, length, map, sym, ap, subst, ◌∙◌, rules}
use Rattle.journal_file.specs.Journal.{key_of}
use mathlib.Core.List.{IsPrefix}
use Rattle.head_board.specs.Event.{Event}
use Rattle.head_board.specs.Events.{HaveHappened}
use Rattle.journal_keeper.specs.Keeper.{event_records, MakeBook}
use Rattle.journal_file.specs.Appending.{frames_each}
use Rattle.tus_shared.proofs.LogLaws.{prefix-self}
use Rattle.journal_keeper.proofs.KeeperLemmas.{frames-queued, left-more, make-more, taken-count}
use Rattle.journal_keeper.proofs.taking.keep_taken.Goals as goal

pub returns-in_err-keep_frames-clause-crash : goal.returns-in_err-keep_frames-clause-crash
returns-in_err-keep_frames-clause-crash g c = λ is left may.
    let s = g.C.Charges.settings in
    let taken = c.requires.taken in
    let durable = c.args.durable.now.events in
    let key = key_of c.args.journal.now in
    let are : map {A = Vec ℕ Global} {B = List ℕ} (λ frame. frame.items) c.deref.result.now ≡ frames_each key (event_records taken.more) =
    ap (map {A = Vec ℕ Global} {B = List ℕ} (λ frame. frame.items)) c.deref.ensures.value ∙ frames-queued g.C.Charges.journal key _ taken.more c.requires.key taken.are in
    left-more key s durable taken.more c.args.taken.now.reached.events is.records left (subst (HaveHappened s) taken.reaches taken.happened) (subst (λ (events : List Event). IsPrefix events c.args.taken.now.reached.events) taken.reaches (prefix-self c.args.taken.now.reached.events)) is.make taken.again (c.keep_frames.ensures.crash is.records (event_records taken.more) is.holds are left may)

pub returns-clause-kept : goal.returns-clause-kept
returns-clause-kept g c = λ is.
    let s = g.C.Charges.settings in
    let taken = c.requires.taken in
    let durable = c.args.durable.now.events in
    let key = key_of c.args.journal.now in
    let are : map {A = Vec ℕ Global} {B = List ℕ} (λ frame. frame.items) c.deref.result.now ≡ frames_each key (event_records taken.more) =
    ap (map {A = Vec ℕ Global} {B = List ℕ} (λ frame. frame.items)) c.deref.ensures.value ∙ frames-queued g.C.Charges.journal key _ taken.more c.requires.key taken.are in
    record {
      records = is.records ++ event_records taken.more;
      holds = c.in_ok-keep_frames.ensures.kept is.records (event_records taken.more) is.holds are;
      make = subst (λ (events : List Event). MakeBook s events (is.records ++ event_records taken.more)) (sym taken.reaches) (make-more s durable taken.more is.records is.make taken.again);
    }

pub returns-clause-crash : goal.returns-clause-crash
returns-clause-crash g c = λ is left may.
    let s = g.C.Charges.settings in
    let taken = c.requires.taken in
    let durable = c.args.durable.now.events in
    let key = key_of c.args.journal.now in
    let are : map {A = Vec ℕ Global} {B = List ℕ} (λ frame. frame.items) c.deref.result.now ≡ frames_each key (event_records taken.more) =
    ap (map {A = Vec ℕ Global} {B = List ℕ} (λ frame. frame.items)) c.deref.ensures.value ∙ frames-queued g.C.Charges.journal key _ taken.more c.requires.key taken.are in
    left-more key s durable taken.more c.args.taken.now.reached.events is.records left (subst (HaveHappened s) taken.reaches taken.happened) (subst (λ (events : List Event). IsPrefix events c.args.taken.now.reached.events) taken.reaches (prefix-self c.args.taken.now.reached.events)) is.make taken.again (c.keep_frames.ensures.crash is.records (event_records taken.more) is.holds are left may)

pub returns-clause-fit : goal.returns-clause-fit
returns-clause-fit g c = λ records are. c.in_ok-keep_frames.ensures.fit records (ap (map {A = Vec ℕ Global} {B = List ℕ} (λ frame. frame.items)) c.deref.ensures.value ∙ are)

pub returns-clause-each : goal.returns-clause-each
returns-clause-each g c =
    let taken = c.requires.taken in
    let each : length c.args.taken.now.frames.items ≡ length c.args.taken.now.reached.events - length c.args.durable.now.events =
    taken-count {V = Vec ℕ Global} (λ frame. frame.items) g.C.Charges.journal c.args.durable.now.events c.args.taken.now.reached.events taken.more c.args.taken.now.frames.items taken.reaches taken.are in
    search rules
