use Rattle.std.proofs.Common.{◌≤◌, length, take, vec_len, vec_capacity}
use Rattle.upload_book.proofs.Steps.PartLemmas.{AreListed}
use Rattle.upload_book.proofs.block_store.BlockStore.list_parts.Given as goal

-- the parts so far were listed, and for the others there is room
abbrev pub invariant-loop-part : goal.invariant-loop-part
invariant-loop-part l = record {
  listed : AreListed l.self l.tenant (take l.part-index l.named) l.now l.listed.items;
  few : vec_len l.listed ≤ l.part-index;
  room : length l.named ≤ vec_capacity l.listed;
}
