use Rattle.std.proofs.Common.{rules}
use Rattle.tus_steps.proofs.media.is_patch_type.Goals as goal

pub returns : goal.returns
returns g = search rules
