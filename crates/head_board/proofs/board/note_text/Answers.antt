use Rattle.std.proofs.Common.{◌≡◌, ◌++◌, List, ℕ, ap, ap₂, drop, fold, length, ◌∙◌, arith}
use Rattle.std.proofs.lemmas.List.{append_assoc, length-append, take-append-drop}
use Rattle.head_board.specs.declared.board_copy.BoardCopy.{BoardCopy}
use Rattle.head_board.specs.declared.board_copy.Note.TheVariants.{More}
use Rattle.head_board.specs.inside.Showing.{noted}
use Rattle.head_board.proofs.TextLemmas.{more-more}
use Rattle.head_board.proofs.board.note_text.Goals as goal

pub loop-rest-preserved : goal.loop-rest-preserved
loop-rest-preserved g c =
    let field = c.args.field in
    let piece = c.split_at.result.0.now in
    let held = c.loop-rest.invariant in
    let before = fold noted c.args.writer.now.desk.shown.value (drop c.args.writer.now.behind c.args.writer.now.log.items) in
    let whole : piece ++ c.split_at.result.1.now ≡ c.loop-rest.rest.now = ap₂ (λ (front back : List ℕ). front ++ back) c.split_at.ensures.front c.split_at.ensures.back ∙ take-append-drop _ _ in
    let all : (held.0 ++ piece) ++ c.split_at.result.1.now ≡ c.args.text.now = append_assoc held.0 piece c.split_at.result.1.now ∙ ap (λ rest. held.0 ++ rest) whole ∙ held.1 in (
      held.0 ++ piece,
      all,
      c.note_down.ensures.desk ∙ held.2,
      c.note_down.ensures.next ∙ ap₂ (λ (s : BoardCopy) piece. noted s (More field piece)) held.3 c.of.ensures
          ∙ more-more before field held.0 piece (omega (arith, c.requires, length-append (held.0 ++ piece) c.split_at.result.1.now, ap length all)),
    )
