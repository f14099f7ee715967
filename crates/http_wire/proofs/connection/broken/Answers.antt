use Rattle.std.proofs.Common.{refl, sym, subst, ◌∙◌, inl, append-nil, arith}
use Rattle.http_wire.specs.inside.Standing.{Fits, Standing, Wants}
use Rattle.http_wire.proofs.FindLemmas.{Searching-unfinished}
use Rattle.http_wire.proofs.NextMessageLemmas.{BreaksMessage-unfinished, IsNextMessage-cut_patch, IsNextMessage-cut_other}
use Rattle.http_wire.proofs.PieceLemmas.{IsTaken-cut, IsTaken-kept, not-applied}
use Rattle.http_wire.proofs.connection.broken.Goals as goal

pub returns-in-Head-clause-breaks : goal.returns-in-Head-clause-breaks
returns-in-Head-clause-breaks c limits bytes said stands =
    let search = c.in-Head.field-0 in
    let s = subst (λ stage. Standing limits bytes said c.args.read_buffer.now stage) c.in-Head.is stands in
    let wants = subst (λ stage. Wants c.args.read_buffer.now stage) c.in-Head.is c.requires.wants in
    (BreaksMessage-unfinished limits bytes said s.0 (Searching-unfinished bytes c.args.read_buffer.now search s.1 wants), refl)

pub returns-then-not-is_applied_when_cut-clause-breaks : goal.returns-then-not-is_applied_when_cut-clause-breaks
returns-then-not-is_applied_when_cut-clause-breaks c limits bytes said stands =
    let p = c.in-Body.layout in
    let s = subst (λ stage. Standing limits bytes said c.args.read_buffer.now stage) c.in-Body.is stands in
    let wants = subst (λ stage. Wants c.args.read_buffer.now stage) c.in-Body.is c.requires.wants in
    let fits = subst (λ stage. Fits c.args.read_buffer.now stage) c.in-Body.is c.requires.fits in
    (inl (p.is_waiting, s.0, IsNextMessage-cut_other limits bytes p c.args.read_buffer.now.held s.1 wants.0 fits.held (λ head. sym (c.is_applied_when_cut.ensures head) ∙ c.if-not-is_applied_when_cut.true)), refl)

pub returns-else-not-is_applied_when_cut-clause-breaks : goal.returns-else-not-is_applied_when_cut-clause-breaks
returns-else-not-is_applied_when_cut-clause-breaks c limits bytes said stands =
    let p = c.in-Body.layout in
    let s = subst (λ stage. Standing limits bytes said c.args.read_buffer.now stage) c.in-Body.is stands in
    let wants = subst (λ stage. Wants c.args.read_buffer.now stage) c.in-Body.is c.requires.wants in
    let fits = subst (λ stage. Fits c.args.read_buffer.now stage) c.in-Body.is c.requires.fits in
    ((p.is_waiting, s.0, IsNextMessage-cut_patch limits bytes p c.args.read_buffer.now.held s.1 c.lend_all.new.read_buffer wants.0 fits.held (λ head. sym (c.is_applied_when_cut.ensures head) ∙ c.if-not-is_applied_when_cut.false) c.lend_all.ensures.lent), refl)

pub returns-then-not-is_applied_when_cut-2-clause-breaks : goal.returns-then-not-is_applied_when_cut-2-clause-breaks
returns-then-not-is_applied_when_cut-2-clause-breaks c limits bytes said stands =
    let b = c.in-Pieces.body in
    let s = subst (λ stage. Standing limits bytes said c.args.read_buffer.now stage) c.in-Pieces.is stands in
    let wants = subst (λ stage. Wants c.args.read_buffer.now stage) c.in-Pieces.is c.requires.wants in
    let fits = subst (λ stage. Fits c.args.read_buffer.now stage) c.in-Pieces.is c.requires.fits in
    (inl (b.layout.is_waiting, s.1.waits, IsTaken-cut limits bytes said s.0 b c.args.read_buffer.now.held s.1 fits.body.given (omega (arith, wants.0)) (not-applied b.created b.layout.method _ c.is_applied_when_cut-in-Pieces.ensures c.if-not-is_applied_when_cut-2.true)), refl)

pub returns-else-not-is_applied_when_cut-2-clause-breaks : goal.returns-else-not-is_applied_when_cut-2-clause-breaks
returns-else-not-is_applied_when_cut-2-clause-breaks c limits bytes said stands =
    let b = c.in-Pieces.body in
    let s = subst (λ stage. Standing limits bytes said c.args.read_buffer.now stage) c.in-Pieces.is stands in
    let lent = c.lend_all-in-Pieces.ensures in
    ((s.0, IsTaken-kept limits bytes said s.0 b c.args.read_buffer.now.held _ s.1 (rw (lent.lent, lent.none) (append-nil _))), refl)
