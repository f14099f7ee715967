use Rattle.upload_book.proofs.block_store.BlockStore.tell_blocks.Goals as goal

pub returns-clause-stored : goal.returns-clause-stored
returns-clause-stored c = rw (← c.self.view_is) c.self.invariant.stored

pub returns-clause-own : goal.returns-clause-own
returns-clause-own c = rw (← c.self.view_is) c.self.invariant.own
