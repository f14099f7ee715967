-- The texts of a new upload, piece by piece.
use Rattle.std.proofs.Common.{◌≡◌, ℕ, ◌+◌, ◌≤◌, true, leb, List, [], ◌++◌, length, refl, ap, ap₂, sym, ◌∙◌, arith}
use Rattle.std.proofs.lemmas.Bool.Decides.{nat_tests}
use Rattle.std.proofs.lemmas.List.{append_assoc, append-nil, length-append}
use Rattle.head_board.specs.declared.board_copy.BoardCopy.{BoardCopy}
use Rattle.head_board.specs.declared.board_copy.Note.TheVariants.{More, NoTexts}
use Rattle.head_board.specs.declared.coming_texts.TextField.{TextField}
use Rattle.head_board.specs.declared.coming_texts.TextField.TheVariants.{Concat, Metadata}
use Rattle.head_board.specs.inside.ComingTexts.{text_in, text_room, with_bytes}
use Rattle.head_board.specs.inside.Showing.{noted}

-- bytes for which there is room come after those before
with_bytes-fits : (room : ℕ) (text piece : List ℕ) → length text + length piece ≤ room → with_bytes room text piece ≡ text ++ piece
with_bytes-fits room text piece fits =
    let test : leb (length text + length piece) room ≡ true = grind (arith, nat_tests) in
    rw test refl

-- two pieces one after another are one
with_bytes-more : (room : ℕ) (text came piece : List ℕ) → length text + length (came ++ piece) ≤ room → with_bytes room (with_bytes room text came) piece ≡ with_bytes room text (came ++ piece)
with_bytes-more room text came piece fits =
    let long = length-append came piece in
    ap (λ text. with_bytes room text piece) (with_bytes-fits room text came (omega (arith, long)))
    ∙ with_bytes-fits room (text ++ came) piece (omega (arith, long, length-append text came))
    ∙ append_assoc text came piece ∙ sym (with_bytes-fits room text (came ++ piece) fits)

-- so it is for each of the texts,
pub more-more : (s : BoardCopy) (field : TextField) (came piece : List ℕ) → length (text_in s.coming field) + length (came ++ piece) ≤ text_room field → noted (noted s (More field came)) (More field piece) ≡ noted s (More field (came ++ piece))
more-more s Metadata came piece fits =
    ap (λ text. let t : BoardCopy = record s { coming = record s.coming { metadata = text } } in t) (with_bytes-more 1024 s.coming.metadata came piece fits)
more-more s Concat came piece fits =
    ap (λ text. let t : BoardCopy = record s { coming = record s.coming { concat = text } } in t) (with_bytes-more 2048 s.coming.concat came piece fits)

-- and no bytes change nothing
pub more-none : (s : BoardCopy) (field : TextField) → length (text_in s.coming field) ≤ text_room field → noted s (More field []) ≡ s
more-none s Metadata fits =
    ap (λ text. let t : BoardCopy = record s { coming = record s.coming { metadata = text } } in t) (with_bytes-fits 1024 s.coming.metadata [] (omega arith) ∙ append-nil s.coming.metadata)
more-none s Concat fits =
    ap (λ text. let t : BoardCopy = record s { coming = record s.coming { concat = text } } in t) (with_bytes-fits 2048 s.coming.concat [] (omega arith) ∙ append-nil s.coming.concat)

-- both texts of a new upload
pub more-both : (s : BoardCopy) (metadata concat : List ℕ) → length metadata ≤ 1024 → length concat ≤ 2048 → noted (noted (noted s NoTexts) (More Metadata metadata)) (More Concat concat) ≡ record s { coming = record { metadata = metadata; concat = concat } }
more-both s metadata concat short small =
    ap₂ (λ metadata concat. let t : BoardCopy = record s { coming = record { metadata = metadata; concat = concat } } in t) (with_bytes-fits 1024 [] metadata (omega (arith, short))) (with_bytes-fits 2048 [] concat (omega (arith, small)))
