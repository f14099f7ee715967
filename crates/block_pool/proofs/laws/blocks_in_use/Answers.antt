use Rattle.block_pool.proofs.BlocksLaws.{free_in-used_in, used_in-listed}
use Rattle.block_pool.proofs.laws.blocks_in_use.Goals as goal

pub returns-clause-free_or_used : goal.returns-clause-free_or_used
returns-clause-free_or_used c = free_in-used_in

pub returns-clause-listed : goal.returns-clause-listed
returns-clause-listed c = used_in-listed
