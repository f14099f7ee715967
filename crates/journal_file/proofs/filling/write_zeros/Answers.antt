use Rattle.std.proofs.Common.{◌≡◌, ◌+◌, ◌<◌, ℕ, List, Bool, IsTrue, length, take, sym, ap, subst, ◌∙◌, arith}
use Rattle.sqlite_disk.specs.Disk.{Follows, Holds, Mixed, Torn}
use Rattle.journal_frames.specs.Crash.{zeros}
use Rattle.journal_file.proofs.Zeros.{follows-more, follows-wider, holds-more, torn-more, zeros-len, zeros-taken}
use Rattle.journal_file.proofs.filling.write_zeros.Goals as goal

pub returns-in_err-write_at-clause-crash : goal.returns-in_err-write_at-clause-crash
returns-in_err-write_at-clause-crash g c =
    let at = c.args.at in
    let done = c.pieces.done in
    let piece = c.min-piece.result in
    let is : take piece c.args.zeros.now ≡ zeros piece = zeros-taken c.args.zeros.now piece c.requires.zeros (omega arith) in
    let len : length (take piece c.args.zeros.now) ≡ piece = omega (arith, ap length is, zeros-len piece) in
    let step = c.write_at.ensures.mixed c.pieces.invariant.mixing (omega (arith, len, c.requires.fits)) in
    let step_is = subst (λ (t : List ℕ). Follows (Mixed (at + done) t) (g.D.Disk.may_leave c.pieces.disk) (g.D.Disk.may_leave c.write_at.new.self)) is step in
    follows-wider at (done + piece) c.args.len _ _ (omega arith) (follows-more at done piece _ _ _ c.pieces.invariant.crash step_is)

pub pieces-preserved : goal.pieces-preserved
pieces-preserved g c =
    let at = c.args.at in
    let done = c.pieces.done in
    let piece = c.min-piece.result in
    let so_far = c.pieces.invariant in
    let now = g.D.Disk.seen c.write_at.new.self in
    let is : take piece c.args.zeros.now ≡ zeros piece = zeros-taken c.args.zeros.now piece c.requires.zeros (omega arith) in
    let len : length (take piece c.args.zeros.now) ≡ piece = omega (arith, ap length is, zeros-len piece) in
    let step = c.write_at.ensures.mixed so_far.mixing (omega (arith, len, c.requires.fits)) in
    let step_is = subst (λ (t : List ℕ). Follows (Mixed (at + done) t) (g.D.Disk.may_leave c.pieces.disk) (g.D.Disk.may_leave c.write_at.new.self)) is step in
    let torn = subst (λ (n : ℕ). Torn (at + done) n (g.D.Disk.seen c.pieces.disk) now) len c.write_at.ensures.others in
    let holds = subst (λ (t : List ℕ). 0 < length t → Holds now (at + done) t) is c.in_ok-write_at.ensures.written in
    record {
      within = omega arith;
      usable = c.write_at.ensures.usable;
      mixing = subst (λ (b : Bool). IsTrue b) (sym c.write_at.ensures.mixing) so_far.mixing;
      filled = λ some. holds-more at done piece _ now so_far.filled torn (holds (omega (arith, zeros-len piece, c.requires.some)));
      others = torn-more at done piece _ _ now so_far.others torn;
      crash = follows-more at done piece _ _ _ so_far.crash step_is;
      clean = c.write_at.ensures.calm ∙ so_far.clean;
      faults = c.in_ok-write_at.ensures.faults ∙ so_far.faults;
    }
