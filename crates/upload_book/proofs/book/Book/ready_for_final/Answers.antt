use Rattle.std.proofs.Common.{◌≡◌, ℕ, List, Option, Result, length, map, inl, inr, refl, ap, ap₂, sym, subst, ◌∙◌, arith}
use Rattle.std.specs.Result.{IsOk}
use Rattle.upload_book.specs.contracts.book.Book.{the_view}
use Rattle.upload_book.specs.Book.{StoredBook, plain_of}
use Rattle.upload_book.specs.declared.create.Created.{Created}
use Rattle.upload_book.specs.declared.refusal.Refusal.{Refusal}
use Rattle.upload_book.specs.declared.settings.Numbers.{Numbers}
use Rattle.upload_book.specs.inside.Texts.{IsTextsFor}
use Rattle.upload_book.specs.NewFinal.{NewFinal}
use Rattle.upload_book.specs.PlainBook.{tenant_book}
use Rattle.upload_book.specs.Concat.{joined_len}
use Rattle.upload_book.specs.Expiry.{finished_end}
use Rattle.upload_book.specs.declared.ready.ReadyFinal.{ReadyFinal}
use Rattle.upload_book.specs.Ready.{IsReadyForFinal}
use Rattle.upload_book.specs.BlockStore.{pieces_named, rows_at}
use Rattle.upload_book.specs.Stored.{segment_of}
use Rattle.upload_book.proofs.Steps.ConcatSteps.{SeesParts-read, refusal-told, len-told}
use Rattle.upload_book.proofs.Lawful.Outcomes.{concat_answer-none, concat_answer-refused}
use Rattle.upload_book.proofs.book.Book.ready_for_final.Goals as goal

pub returns-in-Some-clause-refused : goal.returns-in-Some-clause-refused
returns-in-Some-clause-refused c =
    let b = the_view c.self.inside in
    let s = SeesParts-read b c.args.self.now c.args.tenant c.from-place.result c.numbers-numbers.result.now c.new.inside.parts.now c.args.new c.args.now c.parts_seen-seen.result
    c.self.invariant c.self.view_is c.requires.tenant_there c.from-place.ensures c.numbers-numbers.ensures.value (ap (λ (new : NewFinal). new.parts) c.new.view_is) c.parts_seen-seen.ensures.there c.parts_seen-seen.ensures.complete c.parts_seen-seen.ensures.len in
    let refused = refusal-told s c.concat_refusal.result c.concat_refusal.ensures ∙ c.in-Some.is in
    inl (rw (← c.self.view_is) (sym (concat_answer-refused c.args.tenant b.settings.numbers (tenant_book (plain_of b) c.args.tenant) c.args.new c.args.now c.in-Some.refusal refused)))

-- where nothing is refused, memory may lack
pub returns-in_default-list_parts-clause-refused : goal.returns-in_default-list_parts-clause-refused
returns-in_default-list_parts-clause-refused c =
    let b = the_view c.self.inside in
    let s = SeesParts-read b c.args.self.now c.args.tenant c.from-place.result c.numbers-numbers.result.now c.new.inside.parts.now c.args.new c.args.now c.parts_seen-seen.result
    c.self.invariant c.self.view_is c.requires.tenant_there c.from-place.ensures c.numbers-numbers.ensures.value (ap (λ (new : NewFinal). new.parts) c.new.view_is) c.parts_seen-seen.ensures.there c.parts_seen-seen.ensures.complete c.parts_seen-seen.ensures.len in
    let none = refusal-told s c.concat_refusal.result c.concat_refusal.ensures ∙ c.in_default.is in
    let answer = concat_answer-none c.args.tenant b.settings.numbers (tenant_book (plain_of b) c.args.tenant) c.args.new c.args.now none in
    inr (rw (← c.self.view_is) (subst (λ (answer : Result Created Refusal). IsOk answer) (sym answer) refl, refl))

pub returns-in_default-texts_ahead-clause-refused : goal.returns-in_default-texts_ahead-clause-refused
returns-in_default-texts_ahead-clause-refused c =
    let b = the_view c.self.inside in
    let s = SeesParts-read b c.args.self.now c.args.tenant c.from-place.result c.numbers-numbers.result.now c.new.inside.parts.now c.args.new c.args.now c.parts_seen-seen.result
    c.self.invariant c.self.view_is c.requires.tenant_there c.from-place.ensures c.numbers-numbers.ensures.value (ap (λ (new : NewFinal). new.parts) c.new.view_is) c.parts_seen-seen.ensures.there c.parts_seen-seen.ensures.complete c.parts_seen-seen.ensures.len in
    let none = refusal-told s c.concat_refusal.result c.concat_refusal.ensures ∙ c.in_default.is in
    let answer = concat_answer-none c.args.tenant b.settings.numbers (tenant_book (plain_of b) c.args.tenant) c.args.new c.args.now none in
    inr (rw (← c.self.view_is) (subst (λ (answer : Result Created Refusal). IsOk answer) (sym answer) refl, refl))

pub returns-clause-refused : goal.returns-clause-refused
returns-clause-refused c =
    let b = the_view c.self.inside in
    let s = SeesParts-read b c.args.self.now c.args.tenant c.from-place.result c.numbers-numbers.result.now c.new.inside.parts.now c.args.new c.args.now c.parts_seen-seen.result
    c.self.invariant c.self.view_is c.requires.tenant_there c.from-place.ensures c.numbers-numbers.ensures.value (ap (λ (new : NewFinal). new.parts) c.new.view_is) c.parts_seen-seen.ensures.there c.parts_seen-seen.ensures.complete c.parts_seen-seen.ensures.len in
    let none = refusal-told s c.concat_refusal.result c.concat_refusal.ensures ∙ c.in_default.is in
    let answer = concat_answer-none c.args.tenant b.settings.numbers (tenant_book (plain_of b) c.args.tenant) c.args.new c.args.now none in
    inr (rw (← c.self.view_is) (subst (λ (answer : Result Created Refusal). IsOk answer) (sym answer) refl, refl))

pub returns-in-Ok-with_capacity-clause-ready : goal.returns-in-Ok-with_capacity-clause-ready
returns-in-Ok-with_capacity-clause-ready c =
    let b = the_view c.self.inside in
    let s = SeesParts-read b c.args.self.now c.args.tenant c.from-place.result c.numbers-numbers.result.now c.new.inside.parts.now c.args.new c.args.now c.parts_seen-seen.result
    c.self.invariant c.self.view_is c.requires.tenant_there c.from-place.ensures c.numbers-numbers.ensures.value (ap (λ (new : NewFinal). new.parts) c.new.view_is) c.parts_seen-seen.ensures.there c.parts_seen-seen.ensures.complete c.parts_seen-seen.ensures.len in
    let none = refusal-told s c.concat_refusal.result c.concat_refusal.ensures ∙ c.in_default.is in
    let ready : ReadyFinal = record { tenant = c.args.tenant; new = c.args.new; now = c.args.now; len = c.parts_seen-seen.result.len; expires = c.finished_end.result; unheld = c.in-Ok.unheld; pieces = c.in-Ok-with_capacity.pieces; texts = c.in-Ok-texts_ahead.texts } in
    let named : c.new.inside.parts.now ≡ c.args.new.parts = ap (λ (new : NewFinal). new.parts) c.new.view_is in
    subst (λ (b : StoredBook). IsReadyForFinal b ready) c.self.view_is (record {
      there = omega (arith, c.requires.tenant_there, ap (λ (b : StoredBook). length b.settings.tenants) c.self.view_is);
      some = c.requires.some;
      few = c.requires.few;
      metadata = c.requires.metadata;
      concat = c.requires.concat;
      accepted = none;
      len = len-told s none ∙ ap (λ t. joined_len (rows_at b.store t c.args.new.parts c.args.now)) c.from-place.ensures;
      expires = c.finished_end.ensures ∙ ap (λ n. finished_end n c.args.now) c.numbers-numbers.ensures.value;
      listed = record {
        pieces = c.in-Ok.ensures.pieces ∙ ap₂ (λ (t : ℕ) (named : List (Option ℕ)). map segment_of (pieces_named b.store t named c.args.now)) c.from-place.ensures named;
        few = omega (arith, c.in-Ok.ensures.few, ap (length {A = Option ℕ}) named);
        empty = c.in-Ok-with_capacity.ensures.items;
        room = omega (arith, c.len.ensures, c.in-Ok-with_capacity.ensures.capacity, c.in-Ok.unheld.ok.0);
      };
      texts = subst (λ (n : Numbers). IsTextsFor n.uploads c.in-Ok-texts_ahead.texts c.args.new.metadata c.args.new.concat) c.numbers-numbers.ensures.value
          (subst (λ (new : NewFinal). IsTextsFor c.numbers-numbers.result.now.uploads c.in-Ok-texts_ahead.texts new.metadata new.concat) c.new.view_is c.in-Ok-texts_ahead.ensures.texts);
    })
