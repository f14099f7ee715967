use Rattle.tus_shared.proofs.shared.Shared.held_bytes.Goals as goal

pub returns : goal.returns
returns g c = (c.deref.result.now, c.held_bytes.ensures.happened, c.held_bytes.ensures.value)
