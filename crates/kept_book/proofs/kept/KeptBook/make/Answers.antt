use Rattle.std.proofs.Common.{◌≡◌, ◌≤◌, ℕ, Bool, true, false, [], ◌∷◌, ◌++◌, if◌then◌else◌, subst, rules}
use Rattle.book_replay.specs.Replay.{records_of}
use Rattle.journal_file.specs.declared.journal.Journal.{Journal}
use Rattle.journal_file.specs.Journal.{disk_of, key_of}
use Rattle.journal_frames.specs.Crash.{Leaves}
use Rattle.journal_records.specs.Records.{record_bytes}
use Rattle.upload_book.specs.Book.{plain_of}
use Rattle.upload_book.specs.Change.{book_after_change}
use Rattle.kept_book.specs.Kept.{book_in, IsRecordLog}
use Rattle.kept_book.proofs.KeptLemmas.{kept-leaves, kept-made, kept-stays, left-kept, same-log}
use Rattle.kept_book.proofs.ReadyLemmas.{accepted-as, happens-ready, lacking-as}
use Rattle.kept_book.proofs.kept.KeptBook.make.Goals as goal

pub returns-in-Err-clause-crash : goal.returns-in-Err-clause-crash
returns-in-Err-clause-crash g c = λ s events is left may.
    kept-leaves c.args.self.now s events is left (subst (λ (j : Journal g.row.D.Denot g.D.Disk). g.D.Disk.may_leave (disk_of j) left) c.frame-is_framed.ensures.journal may)

pub returns-then-not-is_framed-clause-done : goal.returns-then-not-is_framed-clause-done
returns-then-not-is_framed-clause-done g c =
    (accepted-as (book_in c.args.self.now) c.prepare.new.self c.in-Ok.ready c.args.change c.args.now c.prepare.ensures.plain c.in-Ok.ensures.change c.in-Ok.ensures.now c.in-Ok.ensures.ready, lacking-as (book_in c.args.self.now) c.prepare.new.self c.in-Ok.ready c.args.change c.args.now c.refused_for_memory.result c.prepare.ensures.plain c.in-Ok.ensures.change c.in-Ok.ensures.now c.refused_for_memory.ensures, c.prepare.ensures.plain)

pub returns-then-not-is_framed-clause-kept : goal.returns-then-not-is_framed-clause-kept
returns-then-not-is_framed-clause-kept g c = λ s events is.
    kept-stays c.args.self.now _ s events is (same-log c.args.self.now.log c.frame-is_framed.new.self _ c.frame-is_framed.ensures.journal c.frame-is_framed.ensures.key is.log) c.prepare.ensures.plain

pub returns-then-not-is_framed-clause-crash : goal.returns-then-not-is_framed-clause-crash
returns-then-not-is_framed-clause-crash g c = λ s events is left may.
    kept-leaves c.args.self.now s events is left (subst (λ (j : Journal g.row.D.Denot g.D.Disk). g.D.Disk.may_leave (disk_of j) left) c.frame-is_framed.ensures.journal may)

pub returns-in_err-keep-clause-crash : goal.returns-in_err-keep-clause-crash
returns-in_err-keep-clause-crash g c = λ s events is left may.
    let moment = subst (λ (n : ℕ). n ≤ 253402300799) c.secs-in_range.ensures.value c.secs-in_range.ensures.range in
    let happens = happens-ready (book_in c.args.self.now) c.prepare.new.self c.in-Ok.ready c.args.change c.args.now c.requires c.tell_fits.ensures moment c.prepare.ensures.plain c.in-Ok.ensures.change c.in-Ok.ensures.now c.in-Ok.ensures.ready in
    let framed_is : c.frame-is_framed.result ≡ true = search rules in
    let log_is = same-log c.args.self.now.log c.frame-is_framed.new.self _ c.frame-is_framed.ensures.journal c.frame-is_framed.ensures.key is.log in
    let crash = c.keep.ensures.crash (records_of events) (record_bytes c.args.now c.args.change) log_is (c.frame-is_framed.ensures.framed framed_is) left may in
    left-kept c.args.self.now _ s events _ left is happens (subst (λ (j : Journal g.row.D.Denot g.D.Disk). Leaves (key_of j) (records_of events) (record_bytes c.args.now c.args.change ∷ []) left) c.frame-is_framed.ensures.journal crash)

pub returns-then-not-branch-clause-done : goal.returns-then-not-branch-clause-done
returns-then-not-branch-clause-done g c =
    (accepted-as (book_in c.args.self.now) c.prepare.new.self c.in-Ok.ready c.args.change c.args.now c.prepare.ensures.plain c.in-Ok.ensures.change c.in-Ok.ensures.now c.in-Ok.ensures.ready, lacking-as (book_in c.args.self.now) c.prepare.new.self c.in-Ok.ready c.args.change c.args.now c.refused_for_memory-then-not-branch.result c.prepare.ensures.plain c.in-Ok.ensures.change c.in-Ok.ensures.now c.refused_for_memory-then-not-branch.ensures, c.prepare.ensures.plain)

pub returns-then-not-branch-clause-kept : goal.returns-then-not-branch-clause-kept
returns-then-not-branch-clause-kept g c = λ s events is.
    let framed_is : c.frame-is_framed.result ≡ true = search rules in
    let log_is = same-log c.args.self.now.log c.frame-is_framed.new.self _ c.frame-is_framed.ensures.journal c.frame-is_framed.ensures.key is.log in
    let told : c.in_ok-keep.field-0 ≡ false = search rules in
    let log = subst (λ (t : Bool). IsRecordLog c.keep.new.self (if t then records_of events ++ record_bytes c.args.now c.args.change ∷ [] else records_of events)) told (c.in_ok-keep.ensures.kept (records_of events) (record_bytes c.args.now c.args.change) log_is (c.frame-is_framed.ensures.framed framed_is)) in
    kept-stays c.args.self.now _ s events is log c.prepare.ensures.plain

pub returns-then-not-branch-clause-crash : goal.returns-then-not-branch-clause-crash
returns-then-not-branch-clause-crash g c = λ s events is left may.
    let moment = subst (λ (n : ℕ). n ≤ 253402300799) c.secs-in_range.ensures.value c.secs-in_range.ensures.range in
    let happens = happens-ready (book_in c.args.self.now) c.prepare.new.self c.in-Ok.ready c.args.change c.args.now c.requires c.tell_fits.ensures moment c.prepare.ensures.plain c.in-Ok.ensures.change c.in-Ok.ensures.now c.in-Ok.ensures.ready in
    let framed_is : c.frame-is_framed.result ≡ true = search rules in
    let log_is = same-log c.args.self.now.log c.frame-is_framed.new.self _ c.frame-is_framed.ensures.journal c.frame-is_framed.ensures.key is.log in
    let crash = c.keep.ensures.crash (records_of events) (record_bytes c.args.now c.args.change) log_is (c.frame-is_framed.ensures.framed framed_is) left may in
    left-kept c.args.self.now _ s events _ left is happens (subst (λ (j : Journal g.row.D.Denot g.D.Disk). Leaves (key_of j) (records_of events) (record_bytes c.args.now c.args.change ∷ []) left) c.frame-is_framed.ensures.journal crash)

pub returns-clause-kept : goal.returns-clause-kept
returns-clause-kept g c = λ s events is.
    let moment = subst (λ (n : ℕ). n ≤ 253402300799) c.secs-in_range.ensures.value c.secs-in_range.ensures.range in
    let happens = happens-ready (book_in c.args.self.now) c.prepare.new.self c.in-Ok.ready c.args.change c.args.now c.requires c.tell_fits.ensures moment c.prepare.ensures.plain c.in-Ok.ensures.change c.in-Ok.ensures.now c.in-Ok.ensures.ready in
    let framed_is : c.frame-is_framed.result ≡ true = search rules in
    let log_is = same-log c.args.self.now.log c.frame-is_framed.new.self _ c.frame-is_framed.ensures.journal c.frame-is_framed.ensures.key is.log in
    let told : c.in_ok-keep.field-0 ≡ true = search rules in
    let log = subst (λ (t : Bool). IsRecordLog c.keep.new.self (if t then records_of events ++ record_bytes c.args.now c.args.change ∷ [] else records_of events)) told (c.in_ok-keep.ensures.kept (records_of events) (record_bytes c.args.now c.args.change) log_is (c.frame-is_framed.ensures.framed framed_is)) in
    let after : plain_of c.commit.new.self ≡ book_after_change (book_in c.args.self.now) c.args.change c.args.now = rw (c.prepare.ensures.plain, c.in-Ok.ensures.change, c.in-Ok.ensures.now) at c.commit.ensures.after in
    kept-made c.args.self.now _ s events c.args.change c.args.now is happens log after

pub returns-clause-crash : goal.returns-clause-crash
returns-clause-crash g c = λ s events is left may.
    let moment = subst (λ (n : ℕ). n ≤ 253402300799) c.secs-in_range.ensures.value c.secs-in_range.ensures.range in
    let happens = happens-ready (book_in c.args.self.now) c.prepare.new.self c.in-Ok.ready c.args.change c.args.now c.requires c.tell_fits.ensures moment c.prepare.ensures.plain c.in-Ok.ensures.change c.in-Ok.ensures.now c.in-Ok.ensures.ready in
    let framed_is : c.frame-is_framed.result ≡ true = search rules in
    let log_is = same-log c.args.self.now.log c.frame-is_framed.new.self _ c.frame-is_framed.ensures.journal c.frame-is_framed.ensures.key is.log in
    let crash = c.keep.ensures.crash (records_of events) (record_bytes c.args.now c.args.change) log_is (c.frame-is_framed.ensures.framed framed_is) left may in
    left-kept c.args.self.now _ s events _ left is happens (subst (λ (j : Journal g.row.D.Denot g.D.Disk). Leaves (key_of j) (records_of events) (record_bytes c.args.now c.args.change ∷ []) left) c.frame-is_framed.ensures.journal crash)
