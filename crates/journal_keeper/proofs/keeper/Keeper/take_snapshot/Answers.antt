use Rattle.std.proofs.Common.{◌≡◌, ℕ, List, Vec, Global, Result, IfOk, false, map, ap, subst, sym, ◌∙◌}
use Rattle.book_replay.specs.declared.fault.SnapshotFault.{SnapshotFault}
use Rattle.book_replay.specs.Replay.{replayed}
use Rattle.book_replay.specs.Snapshot.{IsSnapshot, snapshot_records}
use Rattle.head_board.specs.Events.{book_at}
use Rattle.journal_file.specs.Draft.{draft_key}
use Rattle.journal_file.specs.Journal.{key_of}
use Rattle.head_board.proofs.SettingsLemmas.{at-settings}
use Rattle.upload_book.specs.PlainBook.{opening_book}
use Rattle.upload_book.specs.Settings.{Settings}
use Rattle.journal_keeper.specs.Compaction.{WillHave}
use Rattle.journal_keeper.proofs.KeeperLemmas.{kept-lost, kept-more}
use Rattle.journal_keeper.proofs.keeper.Keeper.take_snapshot.Goals as goal

pub invariant_of-self-in_err-keep_taken : goal.invariant_of-self-in_err-keep_taken
invariant_of-self-in_err-keep_taken g c =
    let well : c.self.inside.has_failed ≡ false = ap (λ k. k.failed) c.self.view_is ∙ c.requires.well in
    let found = c.in-Some.ensures in
    let told = c.in_err-keep_taken.ensures in
    (kept-lost c.self.inside.journal c.keep_taken.new.journal _ _ _ _ _ _ _ c.in-Some.taken.records.reached _ c.self.inside.granted _ _ well c.self.invariant.0 told.key found.log (found.taken.more, sym found.taken.reaches) told.crash c.again.ensures, tt)

pub invariant_of-self-in_default-snapshot : goal.invariant_of-self-in_default-snapshot
invariant_of-self-in_default-snapshot g c =
    let well : c.self.inside.has_failed ≡ false = ap (λ k. k.failed) c.self.view_is ∙ c.requires.well in
    let found = c.in-Some.ensures in
    let told = c.in_ok-keep_taken.ensures in
    (kept-more c.self.inside.journal c.keep_taken.new.journal _ _ _ _ _ _ _ _ _ c.self.inside.granted _ _ well c.self.invariant.0 told.key found.log found.taken.happened told.kept told.covered c.again.ensures, tt)

pub invariant_of-self-2 : goal.invariant_of-self-2
invariant_of-self-2 g c =
    let s = g.C.Charges.settings in
    let view = c.self.view_is in
    let well : c.self.inside.has_failed ≡ false = ap (λ k. k.failed) view ∙ c.requires.well in
    let found = c.in-Some.ensures in
    let told = c.in_ok-keep_taken.ensures in
    let b = book_at s c.in-Some.taken.records.reached.events in
    let records = snapshot_records 0 b in
    let made : IsSnapshot 0 b (map {A = Vec ℕ Global} {B = List ℕ} (λ room. room.items) c.in-Ok.rooms.items) =
    subst (λ (r : Result (Vec (Vec ℕ Global) Global) SnapshotFault). IfOk r (λ rooms. IsSnapshot 0 b (map {A = Vec ℕ Global} {B = List ℕ} (λ room. room.items) rooms.items))) c.in-Ok.is found.snapshot in
    let key : draft_key c.args.draft ≡ key_of c.keep_taken.new.journal = c.requires.key ∙ sym (ap (λ k. k.key) view) ∙ sym told.key in (
      kept-more c.self.inside.journal c.keep_taken.new.journal _ _ _ _ _ _ _ _ _ c.self.inside.granted _ _ well c.self.invariant.0 told.key found.log found.taken.happened told.kept told.covered c.again.ensures,
      record {
        records = records;
        have = subst (λ (k : ℕ). WillHave c.new.result k records) key (c.new.ensures records c.requires.draft made.records made.fits);
        make = ap (λ (x : Settings). replayed 1 (opening_book x) records) (sym (at-settings s c.in-Some.taken.records.reached.events)) ∙ made.made 1;
      },
    )
