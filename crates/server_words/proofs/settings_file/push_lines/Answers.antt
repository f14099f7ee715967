use Rattle.clap.specs.Walk.{texts}
use Rattle.server_words.proofs.SettingsFileLemmas.{next-line, no-lines}
use Rattle.server_words.proofs.settings_file.push_lines.Goals as goal

pub lines-init : goal.lines-init
lines-init c = record { so_far = no-lines (texts c.args.words.now.items) c.args.text.now; utf8 = c.utf8.text }

pub split_line-requires-text-text : goal.split_line-requires-text-text
split_line-requires-text-text c κs = c.lines.invariant.utf8

pub lines-preserved : goal.lines-preserved
lines-preserved c = record {
  so_far = next-line (texts c.args.words.now.items) (texts c.lines.words.items) (texts c.push_word.new.words.items) c.args.text.now c.lines.rest.now c.in-Some.line.now c.in-Some.after.now
      c.lines.invariant.so_far c.in-Some.ensures.line c.in_ok-push_word.ensures;
  utf8 = c.in-Some.ensures.rest;
}

pub is_empty-requires-text-self : goal.is_empty-requires-text-self
is_empty-requires-text-self c κs = c.lines.invariant.utf8
