use Rattle.std.proofs.Common.{◌≡◌, ◌+◌, ◌-◌, ◌^◌, length, sym, ap, ◌∙◌, rules}
use Rattle.sqlite_disk.specs.Digest.{digest}
use Rattle.journal_frames.specs.Frames.{balance, body, number}
use Rattle.journal_frames.proofs.Headers.{body_balance, body_len, header_laid}
use Rattle.journal_frames.proofs.writer.header_of.Goals as goal

pub returns : goal.returns
returns c =
    let payload = c.args.payload.now in
    let digits : c.to_be_bytes-digest.result ≡ number (digest c.args.key payload) = search rules in
    let len : c.copy_from_slice.new.self ≡ number (8 + length payload) = search rules in
    let told : c.copy_from_slice-2.new.self ≡ number (2 ^ 64 - 1 - (8 + length payload) - c.sum_of.result - c.sum_of-2.result) = search rules in
    let sums : 2 ^ 64 - 1 - (8 + length payload) - c.sum_of.result - c.sum_of-2.result ≡ balance (body c.args.key payload) = body_balance c.args.key payload _ (search rules) in
    header_laid c.args.key payload _ _ _ (len ∙ ap number (sym (body_len c.args.key payload))) (told ∙ ap number sums) (search rules)
