use Rattle.server_words.proofs.SettingsFileLemmas.{finished-lines}
use Rattle.server_words.proofs.settings_file.push_finished.Goals as goal

pub returns : goal.returns
returns c = finished-lines c.push_option.result c.args.seconds c.args.text.now.items c.push_option.new.text.items c.if-seconds-eq0.false c.push_option.ensures
