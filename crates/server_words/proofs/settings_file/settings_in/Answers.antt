use Rattle.std.proofs.Common.{rules}
use Rattle.clap.specs.Walk.{texts}
use Rattle.server_words.proofs.SettingsFileLemmas.{not-taken}
use Rattle.server_words.proofs.settings_file.settings_in.Goals as goal

pub returns-clause-found : goal.returns-clause-found
returns-clause-found c = not-taken (texts c.args.words.now) c.in-Err.error c.in-Err.ensures.faults (search rules)
