use Rattle.std.proofs.Common.{Ok, sym, ap, ◌∙◌, refl}
use Rattle.tus_text.proofs.ChecksumLemmas.{digest-none, digest-written}
use Rattle.tus_text.proofs.checksum.read_digest.Goals as goal

pub returns-in-Ok : goal.returns-in-Ok
returns-in-Ok c =
    digest-written c.args.value.now _ c.decode_slice.new.output refl (sym c.decode_slice.ensures.value ∙ c.in-Ok.is ∙ ap Ok c.if-len-eq-DIGEST_LEN.true) c.in-Ok.ensures.written

pub returns-in_default : goal.returns-in_default
returns-in_default c =
    digest-none c.args.value.now (λ is. c.if-len-eq-DIGEST_LEN.false (cc (c.decode_slice.ensures.value, c.in-Ok.is, is)))

pub returns-in_default-2 : goal.returns-in_default-2
returns-in_default-2 c =
    digest-none c.args.value.now (λ is. absurd (cc (c.decode_slice.ensures.value, c.in_default.is, is)))
