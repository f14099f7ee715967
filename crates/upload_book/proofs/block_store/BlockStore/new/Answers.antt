use Rattle.std.proofs.Common.{◌≡◌, ◌<◌, ◌≤◌, ◌^◌, ℕ, ap, ◌∙◌, arith}
use Rattle.std.proofs.lemmas.List.{length-replicate}
use Rattle.block_pool.specs.Blocks.{Blocks, all_free, count_at, free_block, size_of}
use Rattle.upload_book.specs.declared.settings.Numbers.{Numbers}
use Rattle.upload_book.proofs.Lawful.SettingsLemmas.{blocks-within, block_size-some}
use Rattle.upload_book.proofs.Store.StayLemmas.{count_at-free}
use Rattle.upload_book.proofs.Store.StoreOpen.{IsKept-opening}
use Rattle.upload_book.proofs.block_store.BlockStore.new.Goals as goal

-- a free pool has as many blocks as were asked for
few : (n size : ℕ) (p : Blocks) → p ≡ all_free n size → n ≤ 4294967295 → size_of p < 2 ^ 64
few n size p is most = rw is (omega (arith, length-replicate n free_block))

pub invariant_of-result : goal.invariant_of-result
invariant_of-result c =
    let numbers = c.numbers-numbers.ensures.value in
    let some : 0 < c.args.settings.now.numbers.block_size = block_size-some c.args.settings.now c.numbers-numbers.ensures.sound in
    let size : c.in_ok-pool.pool.block_size ≡ c.args.settings.now.numbers.block_size = ap (λ (p : Blocks). p.block_size) c.in_ok-pool.ensures ∙ ap (λ (n : Numbers). n.block_size) numbers in
    IsKept-opening _ c.args.settings.now.tenants c.in_ok-stored_tenants.ensures.stored_tenants
    (λ b. ap (λ (p : Blocks). count_at p b) c.in_ok-pool.ensures ∙ count_at-free c.numbers-numbers.result.now.blocks c.numbers-numbers.result.now.block_size b)
    (rw size some)
    (few _ _ _ c.in_ok-pool.ensures (omega (arith, ap (λ (n : Numbers). n.blocks) numbers, blocks-within c.args.settings.now c.numbers-numbers.ensures.sound)))
    c.in_ok-stored_tenants.ensures.charges
    (rw numbers c.in_ok-stored_tenants.ensures.room)
