use Rattle.std.proofs.Common.{◌≡◌, length, map, take}
use Rattle.server_words.specs.Sentences.{shown_byte}
use Rattle.server_words.proofs.sentence.shown_bytes.Given as goal

-- the bytes so far are shown
abbrev pub invariant-loop-byte : goal.invariant-loop-byte
invariant-loop-byte l = (l.line.bytes ≡ map shown_byte (take l.byte-index l.kept)) × (length l.line.bytes ≡ l.byte-index)
