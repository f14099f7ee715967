use Rattle.std.proofs.Common.{◌≡◌, ◌≤◌, ℕ, List, false, ap, subst, sym, ◌∙◌}
use Rattle.head_board.specs.Event.{Event}
use Rattle.journal_file.specs.declared.journal.Journal.{Journal}
use Rattle.journal_file.specs.Journal.{key_of, room_of}
use Rattle.journal_keeper.specs.Keeper.{KeepsBook}
use Rattle.journal_keeper.proofs.CompactionLemmas.{will-keep-under}
use Rattle.journal_keeper.proofs.KeeperLemmas.{kept-beside, kept-instead}
use Rattle.journal_keeper.proofs.keeper.Keeper.replace.Goals as goal

pub invariant_of-self : goal.invariant_of-self
invariant_of-self g c =
    let s = g.C.Charges.settings in
    let view = c.self.view_is in
    let there : c.replace-old.new.dest ≡ c.args.journal = c.replace-old.ensures.after in
    let well : c.self.inside.has_failed ≡ false = ap (λ k. k.failed) view ∙ c.requires.well in
    let key : key_of c.replace-old.new.dest ≡ key_of c.self.inside.journal = ap (λ j. key_of j) there ∙ (c.requires.key ∙ sym (ap (λ k. k.key) view)) in
    let wide : c.self.inside.granted ≤ room_of c.args.journal = subst (λ (n : ℕ). n ≤ room_of c.args.journal) (sym (ap (λ k. k.promised) view)) c.requires.room in
    let room : c.self.inside.granted ≤ room_of c.replace-old.new.dest = subst (λ (j : Journal g.row.D.Denot g.D.Disk). c.self.inside.granted ≤ room_of j) (sym there) wide in
    let keeps : KeepsBook s c.args.journal c.self.inside.durable.events = subst (λ (events : List Event). KeepsBook s c.args.journal events) (sym (ap (λ k. k.kept) view)) c.requires.keeps in
    let kept : KeepsBook s c.replace-old.new.dest c.self.inside.durable.events = subst (λ (j : Journal g.row.D.Denot g.D.Disk). KeepsBook s j c.self.inside.durable.events) (sym there) keeps in
    (kept-instead c.self.inside.journal c.replace-old.new.dest _ _ _ _ _ _ _ _ _ well c.self.invariant.0 key room kept, will-keep-under _ _ _ _ c.self.inside.compaction key c.self.invariant.1)

pub invariant_of-self-in-Err-Unsure : goal.invariant_of-self-in-Err-Unsure
invariant_of-self-in-Err-Unsure g c =
    let s = g.C.Charges.settings in
    let view = c.self-in-Err-Unsure.view_is in
    let key : key_of c.args.journal ≡ key_of c.self-in-Err-Unsure.inside.journal = c.requires.key ∙ sym (ap (λ k. k.key) view) in
    let keeps : KeepsBook s c.args.journal c.self-in-Err-Unsure.inside.durable.events = subst (λ (events : List Event). KeepsBook s c.args.journal events) (sym (ap (λ k. k.kept) view)) c.requires.keeps in
    (kept-beside c.self-in-Err-Unsure.inside.journal c.args.journal _ _ _ _ _ _ _ _ _ c.self-in-Err-Unsure.invariant.0 key keeps, c.self-in-Err-Unsure.invariant.1)

pub put_in_place-requires : goal.put_in_place-requires
put_in_place-requires g c = (c.requires.keeps.records, c.requires.keeps.holds)
