use Rattle.block_pool.proofs.block_id.BlockId.number.Goals as goal

pub returns-clause-value : goal.returns-clause-value
returns-clause-value c = c.self.view_is
