use Rattle.upload_book.proofs.Lawful.SettingsLemmas.{max_size-within}
use Rattle.upload_book.proofs.settings.Settings.numbers.Goals as goal

pub returns-clause-max_size : goal.returns-clause-max_size
returns-clause-max_size c = max_size-within (record { numbers = c.self.inside.numbers; tenants = c.self.inside.tenants.items }) c.self.invariant
