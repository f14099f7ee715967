use Rattle.std.proofs.Common.{ℕ, ◌<◌, Option, Err, length, ap, sym, subst, ◌∙◌, arith}
use Rattle.upload_book.specs.Book.{IsBook}
use Rattle.upload_book.specs.Change.{appended_in}
use Rattle.upload_book.specs.declared.append.Refused.{Refused}
use Rattle.upload_book.specs.declared.refusal.Refusal.TheVariants.{Memory}
use Rattle.upload_book.proofs.Steps.BookSteps.{stored_tenants-settings}
use Rattle.upload_book.proofs.Steps.PatchSteps.{patch-lacking}
use Rattle.upload_book.proofs.book.Book.chunk_refused_for_memory.Goals as goal

pub returns : goal.returns
returns c =
    let b = c.args.self.now in
    let r = c.args.ready.now in
    let kept = subst IsBook c.self.view_is c.self.invariant in
    let within : r.name.tenant < length b.store.stored_tenants = omega (arith, c.requires.there, stored_tenants-settings b kept) in
    let refused : Option ℕ → Refused = λ expires. record { refusal = Memory; expires = expires } in
    ap Err (c.refused_for_memory.ensures ∙ ap refused c.requires.expires)
    ∙ sym (ap appended_in (patch-lacking b r.name.tenant r.name.id r.place r.now r.chunk kept within c.requires.seen))
