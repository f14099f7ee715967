use Rattle.server_words.proofs.SettingsFileLemmas.{number-lines}
use Rattle.server_words.proofs.settings_file.push_numbers.Goals as goal

pub returns : goal.returns
returns c =
    number-lines c.args.numbers.now _ _ _ _ _ _ _ _ c.in_ok-push_finished.ensures c.in_ok-push_option.ensures c.in_ok-push_option-2.ensures c.in_ok-push_option-3.ensures c.in_ok-push_option-4.ensures
    c.in_ok-push_option-5.ensures c.in_ok-extend_from_slice.ensures.items
