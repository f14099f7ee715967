-- The texts of the upload that is created next, which come in pieces.
use Rattle.std.specs.Prelude.{ℕ, ◌+◌, List, [], ◌++◌, length, nat_le, if◌then◌else◌}
use Rattle.head_board.specs.declared.coming_texts.ComingTexts.{ComingTexts}
use Rattle.head_board.specs.declared.coming_texts.TextField.{TextField}
use Rattle.head_board.specs.declared.coming_texts.TextField.TheVariants.{Metadata, Concat}

-- a text with more bytes, where there is room for so many in all
abbrev pub with_bytes : ℕ → List ℕ → List ℕ → List ℕ
with_bytes room text piece = if nat_le (length text + length piece) room then text ++ piece else text

-- nothing came yet
abbrev pub no_texts : ComingTexts
no_texts = record { metadata = []; concat = [] }

-- more of one of the texts came
abbrev pub with_piece : ComingTexts → TextField → List ℕ → ComingTexts
with_piece texts Metadata piece = record texts { metadata = with_bytes 1024 texts.metadata piece }
with_piece texts Concat piece = record texts { concat = with_bytes 2048 texts.concat piece }

-- a text, as far as it came
abbrev pub text_in : ComingTexts → TextField → List ℕ
text_in texts Metadata = texts.metadata
text_in texts Concat = texts.concat

-- for how many bytes of it there is room
abbrev pub text_room : TextField → ℕ
text_room Metadata = 1024
text_room Concat = 2048
