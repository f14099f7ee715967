use Rattle.std.proofs.Common.{◌≤◌, ◌-◌, ◌∙◌, Bool, IsTrue, List, ℕ, ◌++◌, ap, subst, sym, length, take, arith, inr}
use Rattle.journal_frames.specs.Crash.{zeros}
use Rattle.journal_frames.specs.Frames.{frames, recovered, Fits}
use Rattle.std.specs.List.{AllByRecursion}
use Rattle.sqlite_disk.specs.Disk.{Torn}
use Rattle.journal_file.specs.Journal.{BeginsWith}
use Rattle.journal_file.proofs.RecoverLemmas.{cleared, cleared_crash, front_of_file}
use Rattle.journal_file.proofs.recovered.recover.Goals as goal

pub returns-in_err-fill-clause-any_crash : goal.returns-in_err-fill-clause-any_crash
returns-in_err-fill-clause-any_crash g c = λ clean left may.
    let file = c.deref.result.now in
    let file_is = c.deref.ensures.value ∙ c.in_ok-frames.ensures.bytes (subst (λ (b : Bool). IsTrue b) c.fill.ensures.clean clean) in
    let size : c.min-blank.result ≤ length file - c.in_ok-found.found.end = omega arith in
    inr (cleared_crash c.args.key file c.in_ok-found.found.end c.in_ok-found.ensures.end (g.D.Disk.seen c.args.disk.now) _ _ _ file_is size c.in_ok-frames.ensures.synced c.fill.ensures.crash left may)

pub returns-clause-any_crash : goal.returns-clause-any_crash
returns-clause-any_crash g c = λ clean left may.
    let file = c.deref.result.now in
    let file_is = c.deref.ensures.value ∙ c.in_ok-frames.ensures.bytes (subst (λ (b : Bool). IsTrue b) c.fill.ensures.clean clean) in
    let size : c.min-blank.result ≤ length file - c.in_ok-found.found.end = omega arith in
    inr (cleared_crash c.args.key file c.in_ok-found.found.end c.in_ok-found.ensures.end (g.D.Disk.seen c.args.disk.now) _ _ _ file_is size c.in_ok-frames.ensures.synced c.fill.ensures.crash left may)

pub returns-clause-recovered : goal.returns-clause-recovered
returns-clause-recovered g c = λ clean.
    let key = c.args.key in
    let file = c.deref.result.now in
    let end = c.in_ok-found.found.end in
    let n = c.min-blank.result in
    let ends = c.in_ok-found.ensures.end in
    let file_is = c.deref.ensures.value ∙ c.in_ok-frames.ensures.bytes (subst (λ (b : Bool). IsTrue b) c.fill.ensures.clean clean) in
    let seen_is = c.read_synced.ensures.seen ∙ sym file_is in
    let torn = subst (λ (t : List ℕ). Torn end n t (g.D.Disk.seen c.fill.new.disk)) seen_is c.fill.ensures.others in
    let begins = cleared key file end ends (g.D.Disk.seen c.fill.new.disk) n torn c.in_ok-fill.ensures.filled in
    record {
      bytes = c.truncate.ensures.items ∙ ap (take end) (sym c.deref.ensures.value) ∙ front_of_file key file end ends ∙ ap (λ (t : List ℕ). frames key (recovered key t)) file_is;
      file = subst (λ (t : List ℕ). BeginsWith (frames key (recovered key t) ++ zeros n) (g.D.Disk.seen c.fill.new.disk)) file_is begins;
      fits = subst (λ (t : List ℕ). AllByRecursion Fits (recovered key t)) file_is ends.fits;
    }
