use Rattle.std.proofs.Common.{◌≡◌, ℕ, [], ◌∷◌, ◌++◌, length, ap, subst, ◌∙◌, arith}
use Rattle.journal_frames.specs.Frames.{frame, recovered, tail_of}
use Rattle.journal_frames.specs.declared.tail.Tail.TheVariants.{Torn}
use Rattle.journal_file.proofs.RecoverLemmas.{read_more, room_behind}
use Rattle.journal_file.proofs.recovered.whole_frames.Goals as goal

pub frames-preserved : goal.frames-preserved
frames-preserved c =
    let kept = c.frames.invariant in
    let rest = c.frames.frames.rest.now in
    let behind = c.next.new.self.rest.now in
    let payload = c.in-Ok.field-0.now in
    let told = c.in-Ok.ensures in
    let payloads : recovered c.args.key rest ≡ payload ∷ recovered c.args.key behind = subst (λ (k : ℕ). recovered k rest ≡ payload ∷ recovered k behind) kept.key told.payload in
    let tail : tail_of c.args.key rest ≡ tail_of c.args.key behind = subst (λ (k : ℕ). tail_of k rest ≡ tail_of k behind) kept.key told.same_tail in
    let stands : rest ≡ frame c.args.key payload ++ behind = subst (λ (k : ℕ). rest ≡ frame k payload ++ behind) kept.key told.stands in
    record { key = told.key ∙ kept.key; so_far = read_more c.args.key c.args.file.now rest payload behind c.frames.count kept.so_far payloads tail stands told.fits told.shorter }

pub returns-in-Err-Torn-clause-room : goal.returns-in-Err-Torn-clause-room
returns-in-Err-Torn-clause-room c =
    let kept = c.frames.invariant in
    let rest = c.frames.frames.rest.now in
    let told = c.in-Err-Torn.ensures in
    let none : recovered c.args.key rest ≡ [] = subst (λ (k : ℕ). recovered k rest ≡ []) kept.key told.ended in
    let torn : tail_of c.args.key rest ≡ Torn = subst (λ (k : ℕ). tail_of k rest ≡ Torn) kept.key (told.tail ∙ c.in-Err-Torn.field-0-is) in
    let room = room_behind c.args.key c.args.file.now rest c.frames.count kept.so_far none torn in
    omega (arith, ap length told.unchanged)
