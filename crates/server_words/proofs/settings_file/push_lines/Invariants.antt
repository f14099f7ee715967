use Rattle.std.proofs.Common.{length}
use Rattle.std.specs.Prelude.{IsUtf8}
use Rattle.clap.specs.Walk.{texts}
use Rattle.server_words.proofs.SettingsFileLemmas.{LinesSoFar}
use Rattle.server_words.proofs.settings_file.push_lines.Given as goal

-- the lines up to the rest are there, and the rest is text
abbrev pub invariant-lines : goal.invariant-lines
invariant-lines l = record {
  so_far : LinesSoFar (texts l.initial.words.items) (texts l.words.items) l.fn.text l.rest;
  utf8 : IsUtf8 l.rest;
}

abbrev pub decreases-lines : goal.decreases-lines
decreases-lines l = length l.rest
