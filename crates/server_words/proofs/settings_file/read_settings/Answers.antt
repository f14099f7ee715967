use Rattle.std.proofs.Common.{◌∙◌, ap}
use Rattle.std.proofs.lemmas.Result.{IfOk-weaker}
use Rattle.clap.specs.Walk.{texts}
use Rattle.server_words.specs.SettingsFile.{command_for}
use Rattle.server_words.proofs.SettingsFileLemmas.{given-by}
use Rattle.server_words.proofs.settings_file.read_settings.Goals as goal

pub returns-clause-found : goal.returns-clause-found
returns-clause-found c =
    let added = c.in_ok-push_lines.ensures in
    let given = given-by c.command_for-command.result.now (texts c.in_ok-words.words.items) (texts c.push_lines.new.words.items) (texts c.put_first.new.words.items) (texts c.put_first-2.new.words.items) (texts c.as_slice-2.result.now) added.0
    (ap texts c.in_ok-words.ensures.items) added.2 (c.command_for-command.ensures ∙ ap command_for (ap texts c.as_slice.ensures.value)) c.in_ok-put_first.ensures c.in_ok-put_first-2.ensures (ap texts c.as_slice-2.ensures.value) in
    IfOk-weaker c.settings_in.result _ _ (λ found is. (added.0, added.1, is ∙ given)) c.settings_in.ensures.found
