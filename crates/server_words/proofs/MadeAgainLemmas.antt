-- Under settings that may follow the same changes make the same uploads.
use Rattle.std.proofs.Common.{◌≡◌, ◌≢◌, ◌⊎◌, ℕ, zero, suc, ◌+◌, ◌<◌, ◌≤◌, true, false, List, [], ◌∷◌, ◌++◌, get_or, length, map, set, Option, None, Some, Result, Ok, Err, inl, inr, refl, sym, subst, ap, ap₂, ◌∙◌, arith, length-append, ◌==◌}
use Rattle.std.specs.Prelude.{IsOk}
use Rattle.std.proofs.lemmas.Bool.Decides.{eqb_tells}
use Rattle.std.proofs.lemmas.List.{get_or-map, get_or-set_other, get_or-set_same, length-map, length-set}
use Rattle.upload_book.specs.Account.{account_in}
use Rattle.upload_book.specs.Append.{append_answer, append_refusal, part_after_append, upload_with}
use Rattle.upload_book.specs.Change.{appended_in, book_after_change, change_answer, outcome_in}
use Rattle.upload_book.specs.Chunk.{Chunk}
use Rattle.upload_book.specs.Concat.{concat_answer, concat_refusal, final_upload, joined_upload, part_after_concat, parts_found}
use Rattle.upload_book.specs.Create.{create_answer, created_upload, creation_refusal, part_after_create}
use Rattle.upload_book.specs.declared.change.Change.{Change}
use Rattle.upload_book.specs.declared.change.Change.TheVariants as change
use Rattle.upload_book.specs.declared.change.Outcome.{Outcome}
use Rattle.upload_book.specs.declared.change.Outcome.TheVariants as outcome
use Rattle.upload_book.specs.declared.create.Created.{Created}
use Rattle.upload_book.specs.declared.refusal.Refusal.{Refusal}
use Rattle.upload_book.specs.declared.restored.Restored.{Restored}
use Rattle.upload_book.specs.declared.restored.Restored.TheVariants as piece
use Rattle.upload_book.specs.declared.settings.Numbers.{Numbers}
use Rattle.upload_book.specs.declared.settings.TenantQuota.{TenantQuota}
use Rattle.upload_book.specs.Events.{ChangeEvent, book_after_all, book_after_event}
use Rattle.upload_book.specs.Expiry.{finished_end}
use Rattle.upload_book.specs.FirstChunk.{FirstChunk}
use Rattle.upload_book.specs.NewFinal.{NewFinal}
use Rattle.upload_book.specs.NewUpload.{NewUpload}
use Rattle.upload_book.specs.PlainBook.{PlainBook, opening_book, tenant_book, with_tenant_book}
use Rattle.upload_book.specs.Refusal.{unless}
use Rattle.upload_book.specs.Settings.{Settings}
use Rattle.upload_book.specs.snapshot.Restore.{book_after_piece, book_with, part_with, piece_refusal, sent_back, sent_in, upload_back}
use Rattle.upload_book.specs.snapshot.Restored.{RestoredUpload}
use Rattle.upload_book.specs.Sweep.{book_after_sweep, part_after_sweep}
use Rattle.upload_book.specs.TenantBook.{Entry, TenantBook, opening_part, visible_upload, with_changed, with_new}
use Rattle.upload_book.specs.Terminate.{part_after_terminate, terminate_answer, without}
use Rattle.upload_book.specs.Upload.{Upload, head_row_of}
use Rattle.upload_book.proofs.Lawful.AppendLemmas.{part_after_append-none}
use Rattle.upload_book.proofs.Lawful.Outcomes.{part_after_concat-none, part_after_create-none, part_after_terminate-visible}
use Rattle.upload_book.proofs.Restoring.NextSteps.{after-none}
use Rattle.server_words.specs.MadeAgain.{AllAccepted, IsSamePart, MakesTheSame}
use Rattle.server_words.specs.MayFollow.{MayFollow, names_of}

-- a part as what is told of it
abbrev told_part : ℕ → List (Entry Upload) → TenantBook
told_part next uploads = record { quota = 0; next = next; uploads = uploads }

-- what is told of two parts that are the same
told : {A : Type 0} (f : TenantBook → A) (p q : TenantBook) → f p ≡ f (told_part p.next p.uploads) → f q ≡ f (told_part q.next q.uploads) → IsSamePart p q → f q ≡ f p
told f p q of_p of_q same = of_q ∙ ap₂ (λ (next : ℕ) (uploads : List (Entry Upload)). f (told_part next uploads)) same.next same.uploads ∙ sym of_p

same_new : (p q : TenantBook) (u v : Upload) → IsSamePart p q → v ≡ u → IsSamePart (with_new p u) (with_new q v)
same_new p q u v same is = record {
  next = ap (λ (next : ℕ). next + 1) same.next;
  uploads = ap₂ (λ (x : List (Entry Upload)) (e : Entry Upload). x ++ e ∷ []) same.uploads (ap₂ (λ (id : ℕ) (kept : Upload). record { id = id; kept = kept }) same.next is);
}

-- a creation and a concatenation that are accepted are not refused
accepted : (r : Option Refusal) (x : Created) → IsOk (outcome_in outcome.Created (unless r x)) → r ≡ None
accepted None x ok = refl
accepted (Some why) x ok = absurd cc

-- numbers that give uploads the same ends
record HasSameEnds (n m : Numbers) : Type 0 where
  lifetime : m.lifetime ≡ n.lifetime
  finished : m.finished_lifetime ≡ n.finished_lifetime

module _ (n m : Numbers) (p q : TenantBook) (ends : HasSameEnds n m) (same : IsSamePart p q) (now c d : ℕ) where
  after_create : (t : ℕ) (new : NewUpload) (first : FirstChunk) → IsOk (outcome_in outcome.Created (create_answer t new first now c n p)) → IsOk (outcome_in outcome.Created (create_answer t new first now d m q))
      → IsSamePart (part_after_create new first now c n p) (part_after_create new first now d m q)
  after_create t new first was is =
      let before = part_after_create-none n p new first now c (accepted (creation_refusal n (account_in n p c) p new first) _ was) in
      let after = part_after_create-none m q new first now d (accepted (creation_refusal m (account_in m q d) q new first) _ is) in
      let made = ap₂ (λ (lifetime finished : ℕ). created_upload (record n { lifetime = lifetime; finished_lifetime = finished }) new first.bytes now) ends.lifetime ends.finished in
      subst (λ (x : TenantBook). IsSamePart x (part_after_create new first now d m q)) (sym before)
      (subst (λ (x : TenantBook). IsSamePart (with_new p (created_upload n new first.bytes now)) x) (sym after) (same_new p q _ _ same made))

  after_concat : (t : ℕ) (new : NewFinal) → IsOk (outcome_in outcome.Created (concat_answer t new now n p)) → IsOk (outcome_in outcome.Created (concat_answer t new now m q)) → IsSamePart (part_after_concat new now n p) (part_after_concat new now m q)
  after_concat t new was is =
      let before = part_after_concat-none n p new now (accepted (concat_refusal n p new now) _ was) in
      let after = part_after_concat-none m q new now (accepted (concat_refusal m q new now) _ is) in
      let found = told (λ (x : TenantBook). parts_found x now new.parts) p q refl refl same in
      subst (λ (x : TenantBook). IsSamePart x (part_after_concat new now m q)) (sym before)
      (subst (λ (x : TenantBook). IsSamePart (with_new p (joined_upload n p new now)) x) (sym after)
      (same_new p q _ _ same (ap₂ (λ (parts : List (Entry Upload)) (finished : ℕ). final_upload parts new (finished_end (record n { finished_lifetime = finished }) now)) found ends.finished)))

  seen : (id : ℕ) → visible_upload q id now ≡ visible_upload p id now
  seen id = told (λ (x : TenantBook). visible_upload x id now) p q refl refl same

  after_terminate : (id : ℕ) → IsOk (outcome_in outcome.Removed (terminate_answer id now n p)) → IsSamePart (part_after_terminate id now n p) (part_after_terminate id now m q)
  after_terminate id was = go (visible_upload p id now) refl
    where
      go : (r : Result Upload Refusal) → visible_upload p id now ≡ r → IsSamePart (part_after_terminate id now n p) (part_after_terminate id now m q)
      go (Ok u) is =
          subst (λ (x : TenantBook). IsSamePart x (part_after_terminate id now m q)) (sym (part_after_terminate-visible n p id now u is))
          (subst (λ (x : TenantBook). IsSamePart (without p id) x) (sym (part_after_terminate-visible m q id now u (seen id ∙ is)))
          (record { next = same.next; uploads = told (λ (x : TenantBook). (without x id).uploads) p q refl refl same }))
      go (Err why) is = let not = rw is at was in absurd cc

-- a PATCH that is accepted is of an upload that is seen, and not refused
abbrev IsAppended : ℕ → Chunk → ℕ → ℕ → Numbers → TenantBook → Type 0
IsAppended id chunk now charged n part =
    (u : Upload) × (visible_upload part id now ≡ Ok u) × (append_refusal n (account_in n part charged) (head_row_of u) chunk ≡ None)

is_appended : (id : ℕ) (chunk : Chunk) (now charged : ℕ) (n : Numbers) (part : TenantBook) → IsOk (appended_in (append_answer id chunk now charged n part)) → IsAppended id chunk now charged n part
is_appended id chunk now charged n part ok = go (visible_upload part id now) refl
  where
    by : (u : Upload) → visible_upload part id now ≡ Ok u → (r : Option Refusal) → append_refusal n (account_in n part charged) (head_row_of u) chunk ≡ r → IsAppended id chunk now charged n part
    by u is None none = (u, is, none)
    by u is (Some why) some = let not = rw (is, some) at ok in absurd cc

    go : (r : Result Upload Refusal) → visible_upload part id now ≡ r → IsAppended id chunk now charged n part
    go (Ok u) is = by u is (append_refusal n (account_in n part charged) (head_row_of u) chunk) refl
    go (Err why) is = let not = rw is at ok in absurd cc

after_append : (n m : Numbers) (p q : TenantBook) → HasSameEnds n m → IsSamePart p q → (now c d id : ℕ) (chunk : Chunk) → IsOk (appended_in (append_answer id chunk now c n p)) → IsOk (appended_in (append_answer id chunk now d m q))
    → IsSamePart (part_after_append id chunk now c n p) (part_after_append id chunk now d m q)
after_append n m p q ends same now c d id chunk was is =
    let a = is_appended id chunk now c n p was in
    let b = is_appended id chunk now d m q is in
    let before = part_after_append-none n p id now c a.0 chunk a.1 a.2 in
    let after = part_after_append-none m q id now d b.0 chunk b.1 b.2 in
    let seen : visible_upload q id now ≡ visible_upload p id now = told (λ (x : TenantBook). visible_upload x id now) p q refl refl same in
    let same_upload : b.0 ≡ a.0 = one (sym b.1 ∙ seen ∙ a.1) in
    let upload : ℕ → ℕ → Upload → Upload = λ lifetime finished u. upload_with (record n { lifetime = lifetime; finished_lifetime = finished }) u chunk now in
    let made = ap₂ (λ (lifetime finished : ℕ). upload lifetime finished b.0) ends.lifetime ends.finished ∙ ap (λ (u : Upload). upload_with n u chunk now) same_upload in
    subst (λ (x : TenantBook). IsSamePart x (part_after_append id chunk now d m q)) (sym before)
    (subst (λ (x : TenantBook). IsSamePart (with_changed p id (upload_with n a.0 chunk now)) x) (sym after) (record {
      next = same.next;
      uploads = ap₂ (λ (uploads : List (Entry Upload)) (u : Upload). (with_changed (told_part 0 uploads) id u).uploads) same.uploads made;
    }))
  where
    one : {u v : Upload} → ◌≡◌ {A = Result Upload Refusal} (Ok u) (Ok v) → u ≡ v
    one is = cc

-- ---- books

-- books of which the tenants at the first so many places have the same
record AreAlike (few : ℕ) (b c : PlainBook) : Type 0 where
  ends : HasSameEnds b.settings.numbers c.settings.numbers
  old_long : few ≤ length b.tenants
  new_long : few ≤ length c.tenants
  parts : (t : ℕ) → t < few → IsSamePart (tenant_book b t) (tenant_book c t)

-- one tenant's part changes in both
alike_after : (few : ℕ) (b c : PlainBook) (k : ℕ) (p q : TenantBook) → AreAlike few b c → (k < few → IsSamePart p q) → AreAlike few (with_tenant_book b k p) (with_tenant_book c k q)
alike_after few b c k p q alike part = record {
  ends = alike.ends;
  old_long = rw (length-set b.tenants k p) alike.old_long;
  new_long = rw (length-set c.tenants k q) alike.new_long;
  parts = λ t within. go t within (eqb_tells t k);
}
  where
    go : (t : ℕ) → t < few → (((t == k) ≡ true) × (t ≡ k)) ⊎ (((t == k) ≡ false) × (t ≢ k)) → IsSamePart (tenant_book (with_tenant_book b k p) t) (tenant_book (with_tenant_book c k q) t)
    go t within (inl is) =
        let here : k < few = subst (λ (x : ℕ). x < few) is.1 within in
        let old : get_or (set b.tenants k p) t (opening_part 0) ≡ p = ap (λ (x : ℕ). get_or (set b.tenants k p) x (opening_part 0)) is.1 ∙ get_or-set_same b.tenants k p (opening_part 0) (omega (arith, alike.old_long)) in
        let new : get_or (set c.tenants k q) t (opening_part 0) ≡ q = ap (λ (x : ℕ). get_or (set c.tenants k q) x (opening_part 0)) is.1 ∙ get_or-set_same c.tenants k q (opening_part 0) (omega (arith, alike.new_long)) in
        subst (λ (x : TenantBook). IsSamePart x (get_or (set c.tenants k q) t (opening_part 0))) (sym old) (subst (λ (x : TenantBook). IsSamePart p x) (sym new) (part here))
    go t within (inr other) =
        subst (λ (x : TenantBook). IsSamePart x (get_or (set c.tenants k q) t (opening_part 0))) (sym (get_or-set_other b.tenants k t p (opening_part 0) other.1))
        (subst (λ (x : TenantBook). IsSamePart (tenant_book b t) x) (sym (get_or-set_other c.tenants k t q (opening_part 0) other.1)) (alike.parts t within))

swept : (few : ℕ) (b c : PlainBook) (now : ℕ) → AreAlike few b c → AreAlike few (book_after_sweep b now) (book_after_sweep c now)
swept few b c now alike = record {
  ends = alike.ends;
  old_long = rw (length-map b.tenants (part_after_sweep now)) alike.old_long;
  new_long = rw (length-map c.tenants (part_after_sweep now)) alike.new_long;
  parts = λ t within.
      let old = get_or-map (part_after_sweep now) b.tenants t (opening_part 0) (opening_part 0) (omega (arith, alike.old_long)) in
      let new = get_or-map (part_after_sweep now) c.tenants t (opening_part 0) (opening_part 0) (omega (arith, alike.new_long)) in
      let same = alike.parts t within in
      subst (λ (x : TenantBook). IsSamePart x (tenant_book (book_after_sweep c now) t)) (sym old) (subst (λ (x : TenantBook). IsSamePart (part_after_sweep now (tenant_book b t)) x) (sym new) (record {
        next = same.next;
        uploads = ap (λ (uploads : List (Entry Upload)). (part_after_sweep now (told_part 0 uploads)).uploads) same.uploads;
      }));
}

-- an upload that is put back in both
same_back : (p q : TenantBook) (r : RestoredUpload) (found : Option (List (ℕ × List ℕ))) → IsSamePart p q → IsSamePart (part_with p r found) (part_with q r found)
same_back p q r None same = same
same_back p q r (Some sent) same =
    record { next = refl; uploads = ap (λ (x : List (Entry Upload)). x ++ record { id = r.id; kept = upload_back r sent } ∷ []) same.uploads }

after_back : (p q : TenantBook) (r : RestoredUpload) → IsSamePart p q
    → IsSamePart (part_with p r (sent_back (sent_in p.uploads) r.segments)) (part_with q r (sent_back (sent_in q.uploads) r.segments))
after_back p q r same =
    let found = ap (λ (uploads : List (Entry Upload)). sent_back (sent_in uploads) r.segments) same.uploads in
    subst (λ (x : Option (List (ℕ × List ℕ))). IsSamePart (part_with p r (sent_back (sent_in p.uploads) r.segments)) (part_with q r x)) (sym found) (same_back p q r (sent_back (sent_in p.uploads) r.segments) same)

-- a piece that is put back in both
alike_with : (few : ℕ) (b c : PlainBook) (restored : Restored) → AreAlike few b c → AreAlike few (book_with b restored) (book_with c restored)
alike_with few b c (piece.Upload t r) alike = alike_after few b c t _ _ alike (λ here. after_back (tenant_book b t) (tenant_book c t) r (alike.parts t here))
alike_with few b c (piece.Next t next) alike = alike_after few b c t _ _ alike (λ here. record { next = refl; uploads = (alike.parts t here).uploads })
alike_with few b c (piece.Totals released) alike = record { ends = alike.ends; old_long = alike.old_long; new_long = alike.new_long; parts = alike.parts }

-- one that is accepted is not refused
unrefused : (r : Option Refusal) → IsOk (outcome_in (λ (given : Outcome). given) (unless r outcome.Restored)) → r ≡ None
unrefused None ok = refl
unrefused (Some why) ok = absurd cc

restored_alike : (few : ℕ) (b c : PlainBook) (restored : Restored) → AreAlike few b c → piece_refusal b restored ≡ None → piece_refusal c restored ≡ None → AreAlike few (book_after_piece b restored) (book_after_piece c restored)
restored_alike few b c restored alike was is =
    subst (λ (x : PlainBook). AreAlike few x (book_after_piece c restored)) (sym (after-none b restored was))
    (subst (λ (x : PlainBook). AreAlike few (book_with b restored) x) (sym (after-none c restored is)) (alike_with few b c restored alike))

accepted_by_both : (few : ℕ) (b c : PlainBook) (e : ChangeEvent) → AreAlike few b c → IsOk (change_answer b e.change e.now) → IsOk (change_answer c e.change e.now) → AreAlike few (book_after_event b e) (book_after_event c e)
accepted_by_both few b c e alike was is = by e.change e.now was is
  where
    by : (change : Change) (now : ℕ) → IsOk (change_answer b change now) → IsOk (change_answer c change now) → AreAlike few (book_after_change b change now) (book_after_change c change now)
    by (change.Create tenant new first) now x y =
        alike_after few b c tenant _ _ alike (λ here. after_create b.settings.numbers c.settings.numbers (tenant_book b tenant) (tenant_book c tenant) alike.ends (alike.parts tenant here) now b.charged c.charged tenant new first x y)
    by (change.Append name chunk) now x y =
        alike_after few b c name.tenant _ _ alike (λ here. after_append b.settings.numbers c.settings.numbers (tenant_book b name.tenant) (tenant_book c name.tenant) alike.ends (alike.parts name.tenant here) now b.charged c.charged name.id chunk x y)
    by (change.Concat tenant new) now x y =
        alike_after few b c tenant _ _ alike (λ here. after_concat b.settings.numbers c.settings.numbers (tenant_book b tenant) (tenant_book c tenant) alike.ends (alike.parts tenant here) now b.charged c.charged tenant new x y)
    by (change.Terminate name) now x y =
        alike_after few b c name.tenant _ _ alike (λ here. after_terminate b.settings.numbers c.settings.numbers (tenant_book b name.tenant) (tenant_book c name.tenant) alike.ends (alike.parts name.tenant here) now b.charged c.charged name.id x)
    by change.Sweep now x y = swept few b c now alike
    by (change.Restore restored) now x y = restored_alike few b c restored alike (unrefused (piece_refusal b restored) x) (unrefused (piece_refusal c restored) y)

all_accepted : (few : ℕ) (b c : PlainBook) (events : List ChangeEvent) → AreAlike few b c → AllAccepted b events → AllAccepted c events → AreAlike few (book_after_all b events) (book_after_all c events)
all_accepted few b c [] alike was is = alike
all_accepted few b c (e ∷ events) alike was is =
    all_accepted few (book_after_event b e) (book_after_event c e) events (accepted_by_both few b c e alike was.0 is.0) was.1 is.1

-- a part at the opening
opened : (xs : List TenantQuota) (t : ℕ) → IsSamePart (opening_part 0) (get_or (map {A = TenantQuota} {B = TenantBook} (λ t. opening_part t.quota) xs) t (opening_part 0))
opened [] t = record { next = refl; uploads = refl }
opened (x ∷ xs) zero = record { next = refl; uploads = refl }
opened (x ∷ xs) (suc t) = opened xs t

both : (p q : TenantBook) → IsSamePart (opening_part 0) p → IsSamePart (opening_part 0) q → IsSamePart p q
both p q of_p of_q = record { next = of_q.next ∙ sym of_p.next; uploads = of_q.uploads ∙ sym of_p.uploads }

pub makes-the-same : (old new : Settings) → MayFollow old new → MakesTheSame old new
makes-the-same old new follows events was is tenant within =
    (all_accepted (length old.tenants) (opening_book old) (opening_book new) events (record {
      ends = record { lifetime = follows.lifetime; finished = follows.finished };
      old_long = omega (arith, length-map old.tenants (λ (t : TenantQuota). opening_part {K = Upload} t.quota));
      new_long = omega (
        arith,
        length-map new.tenants (λ (t : TenantQuota). opening_part {K = Upload} t.quota),
        length-map old.tenants (λ (t : TenantQuota). t.name),
        length-map new.tenants (λ (t : TenantQuota). t.name),
        ap length follows.tenants.1,
        length-append (names_of old) follows.tenants.0,
      );
      parts = λ t here. both _ _ (opened old.tenants t) (opened new.tenants t);
    }) was is).parts tenant within
