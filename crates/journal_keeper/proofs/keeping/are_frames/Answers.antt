use Rattle.std.proofs.Common.{◌≡◌, ◌<◌, ◌++◌, true, [], ◌∷◌, length, get_or, take, sym, subst, ◌∙◌, arith, rules}
use Rattle.std.proofs.lemmas.List.{take_all, take_more}
use Rattle.std.specs.List.{AllByRecursion}
use Rattle.journal_file.proofs.AppendingLemmas.{each-at, each-length}
use Rattle.journal_file.proofs.Losses.{AllByRecursion-append}
use Rattle.journal_frames.specs.Frames.{frames, Fits}
use Rattle.journal_keeper.proofs.keeping.are_frames.Goals as goal

pub loop-frame-preserved : goal.loop-frame-preserved
loop-frame-preserved c = λ key more are.
    let i = c.loop-frame.frame-index in
    let waiting = c.args.waiting.now in
    let within : i < length more = omega (arith, each-length (λ frame. frame.items) waiting key more are, c.loop-frame-test.true) in
    let at = each-at (λ frame. frame.items) waiting key more are i c.frame-item.result c.loop-frame-test.true c.frame-item.is in
    let frame_is : c.deref.result.now ≡ frames key (get_or more i [] ∷ []) = c.deref.ensures.value ∙ at in
    let yes : c.is_frame.result ≡ true = search rules in
    subst (AllByRecursion Fits) (sym (take_more more i [] within)) (AllByRecursion-append (take i more) (get_or more i [] ∷ []) (c.loop-frame.invariant key more are) (c.is_frame.ensures yes key (get_or more i []) frame_is, tt))

pub returns : goal.returns
returns c = λ yes key more are.
    let all = each-length (λ frame. frame.items) c.args.waiting.now key more are in
    subst (AllByRecursion Fits) (take_all c.loop-frame.frame-index more (omega (arith, all, c.loop-frame-test.false))) (c.loop-frame.invariant key more are)
