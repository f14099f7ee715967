-- Each field that is read is spelled so; and so are changes.
use Rattle.std.proofs.Common.{◌≡◌, ◌⊎◌, ℕ, zero, suc, ◌+◌, ◌^◌, ◌<◌, ◌≤◌, Bool, true, false, cond, ltb, eqb, List, [], ◌∷◌, ◌++◌, length, take, drop, Option, Some, None, refl, sym, ap, subst, ◌∙◌, append_assoc, arith, inl, inr}
use Rattle.std.specs.Prelude.{IfSome}
use Rattle.std.specs.Int.{w64, from_be_bytes}
use Rattle.std.specs.List.{flat_map, AllByRecursion}
use Rattle.std.proofs.lemmas.Bool.{cases_lt, ltb-false, eqb-true}
use Rattle.std.proofs.lemmas.List.{append-nil, get_or-drop, get_or-take, get_or_past, length-take, take-append-drop}
use Rattle.std.proofs.lemmas.List.Concat.{flat_map-cons}
use Rattle.std.proofs.lemmas.Nat.{be_bytes_8}
use Rattle.tus_text.specs.declared.checksum.Checksum.{Checksum}
use Rattle.tus_text.specs.declared.checksum.Checksum.TheVariants.{Sha1, Other}
use Rattle.upload_book.specs.Chunk.{Chunk}
use Rattle.upload_book.specs.FirstChunk.{FirstChunk}
use Rattle.upload_book.specs.NewFinal.{NewFinal}
use Rattle.upload_book.specs.NewUpload.{NewUpload}
use Rattle.upload_book.specs.declared.change.Change.{Change}
use Rattle.upload_book.specs.declared.change.Change.TheVariants.{Create, Append, Concat, Terminate, Sweep, Restore}
use Rattle.upload_book.specs.declared.head_row.Kind.{Kind}
use Rattle.upload_book.specs.declared.head_row.Kind.TheVariants.{Plain, Partial, Final}
use Rattle.upload_book.specs.declared.head_row.Name.{Name}
use Rattle.upload_book.specs.declared.restored.Restored.TheVariants as piece
use Rattle.upload_book.specs.snapshot.Restored.{RestoredSegment, RestoredUpload}
use Rattle.journal_records.specs.Laws.{RecordsAreSpelledSo}
use Rattle.journal_records.specs.Reading.{◌>>=◌, byte_at, number_at, bytes_at, flag_at, flag_more_at, nonzero_at, optional_at, text_at, check_at, name_at, many_at, parts_at, expires_at, kind_at, optional_text_at, segment_at, segments_at, upload_at, first_at, chunk_at, final_at, fields_at, back_at, at_end, create_at, append_at, concat_at, terminate_at, sweep_at, restore_at, next_at, totals_at, other_at, change_at, moment_at, record_at}
use Rattle.journal_records.specs.Records.{AreBytes, number, flag, flag_more, optional, text, check, name_bytes, parts, kind_byte, optional_text, segment_bytes, segments_bytes, upload_bytes, first_bytes, chunk_bytes, final_bytes, back_bytes, change_bytes, record_bytes, IsNumber, FitsCheck, FitsUpload, FitsFirst, FitsChunk, FitsFinal, FitsSegment, FitsBack, FitsChange}

AreBytes-drop : (n : ℕ) (bytes : List ℕ) → AreBytes bytes → AreBytes (drop n bytes)
AreBytes-drop n bytes are i = rw get_or-drop (are (n + i))

AreBytes-take : (n : ℕ) (bytes : List ℕ) → AreBytes bytes → AreBytes (take n bytes)
AreBytes-take n bytes are i =
    elim (cases_lt i n) [
      | inl lt ↦ rw (get_or-take n bytes i 0 lt) (are i)
      | inr le ↦ rw (get_or_past (take n bytes) i 0 (omega (arith, length-take n bytes))) (omega arith)
    ]

AreBytes-rest : (b : ℕ) (bytes : List ℕ) → AreBytes (b ∷ bytes) → AreBytes bytes
AreBytes-rest b bytes are i = are (suc i)

-- the value of a step that found one
bind_some : {A B : Type 0} (o : Option A) (f : A → Option B) (y : B) → (o >>= f) ≡ Some y → (x : A) × (o ≡ Some x) × (f x ≡ Some y)
bind_some (Some x) f y is = (x, refl, is)
bind_some None f y is = absurd cc

-- a test that did not refuse
not_none : {A : Type 0} (b : Bool) (o : Option A) (y : A) → cond b None o ≡ Some y → (b ≡ false) × (o ≡ Some y)
not_none true o y is = absurd cc
not_none false o y is = (refl, is)

abbrev some : {A : Type 0} → A → Option A
some x = Some x

some_is : {A : Type 0} (x y : A) → some x ≡ some y → x ≡ y
some_is x y is = cc

-- what a reader took from the front
record Takes (bytes text rest : List ℕ) : Type 0 where
  parts : bytes ≡ text ++ rest
  rest_are : AreBytes rest

then_takes : (a x b y c : List ℕ) → Takes a x b → Takes b y c → Takes a (x ++ y) c
then_takes a x b y c p q = record { parts = p.parts ∙ ap (λ (t : List ℕ). x ++ t) q.parts ∙ sym (append_assoc x y c); rest_are = q.rest_are }

-- ---- fields

byte_takes : (bytes : List ℕ) (x : ℕ × List ℕ) → AreBytes bytes → byte_at bytes ≡ Some x → Takes bytes (x.0 ∷ []) x.1
byte_takes [] x are is = absurd cc
byte_takes (b ∷ rest) x are is = subst (λ (y : ℕ × List ℕ). Takes (b ∷ rest) (y.0 ∷ []) y.1) (some_is (b, rest) x is) (record { parts = refl; rest_are = AreBytes-rest b rest are })

number_takes : (bytes : List ℕ) (x : ℕ × List ℕ) → AreBytes bytes → number_at bytes ≡ Some x → Takes bytes (number x.0) x.1 × IsNumber x.0
unfolding number_at
number_takes bytes x are is =
    let a = not_none (ltb (length bytes) 8) (Some (from_be_bytes w64 (take 8 bytes), drop 8 bytes)) x is in
    let long : 8 ≤ length bytes = ltb-false _ _ a.0 in
    let front = take 8 bytes in
    let n = from_be_bytes w64 front in
    let are_front = AreBytes-take 8 bytes are in
    let spelled : number n ≡ front = be_bytes_8 front n (omega (arith, length-take 8 bytes)) are_front refl in
    let below : n < 2 ^ 64 = omega (arith, are_front 0, are_front 1, are_front 2, are_front 3, are_front 4, are_front 5, are_front 6, are_front 7) in
    subst (λ (y : ℕ × List ℕ). Takes bytes (number y.0) y.1 × IsNumber y.0) (some_is (n, drop 8 bytes) x a.1)
    (record { parts = sym (take-append-drop 8 bytes) ∙ ap (λ (t : List ℕ). t ++ drop 8 bytes) (sym spelled); rest_are = AreBytes-drop 8 bytes are }, below)

bytes_takes : (n : ℕ) (bytes : List ℕ) (x : List ℕ × List ℕ) → AreBytes bytes → bytes_at n bytes ≡ Some x → Takes bytes x.0 x.1 × (length x.0 ≡ n)
unfolding bytes_at
bytes_takes n bytes x are is =
    let a = not_none (ltb (length bytes) n) (Some (take n bytes, drop n bytes)) x is in
    let long : n ≤ length bytes = ltb-false _ _ a.0 in
    subst (λ (y : List ℕ × List ℕ). Takes bytes y.0 y.1 × (length y.0 ≡ n)) (some_is (take n bytes, drop n bytes) x a.1)
    (record { parts = sym (take-append-drop n bytes); rest_are = AreBytes-drop n bytes are }, omega (arith, length-take n bytes))

flag_takes : (bytes : List ℕ) (x : Bool × List ℕ) → AreBytes bytes → flag_at bytes ≡ Some x → Takes bytes (flag x.0) x.1
unfolding flag_at
flag_takes [] x are is = absurd cc
flag_takes (zero ∷ rest) x are is = subst (λ (y : Bool × List ℕ). Takes (0 ∷ rest) (flag y.0) y.1) (some_is (false, rest) x is) (record { parts = refl; rest_are = AreBytes-rest 0 rest are })
flag_takes (suc zero ∷ rest) x are is = subst (λ (y : Bool × List ℕ). Takes (1 ∷ rest) (flag y.0) y.1) (some_is (true, rest) x is) (record { parts = refl; rest_are = AreBytes-rest 1 rest are })
flag_takes (suc (suc b) ∷ rest) x are is = absurd cc

nonzero_takes : (bytes : List ℕ) (x : ℕ × List ℕ) → AreBytes bytes → nonzero_at bytes ≡ Some x → Takes bytes (number x.0) x.1 × IsNumber x.0 × (eqb x.0 0 ≡ false)
unfolding nonzero_at
nonzero_takes bytes x are is =
    let a = bind_some (number_at bytes) (λ n. cond (eqb n.0 0) None (Some (n.0, n.1))) x is in
    let b = not_none (eqb a.0.0 0) (Some (a.0.0, a.0.1)) x a.2 in
    let t = number_takes bytes a.0 are a.1 in
    subst (λ (y : ℕ × List ℕ). Takes bytes (number y.0) y.1 × IsNumber y.0 × (eqb y.0 0 ≡ false)) (some_is (a.0.0, a.0.1) x b.1) (t.0, t.1, b.0)

behind_takes : (b : ℕ) (rest front left : List ℕ) → AreBytes (b ∷ rest) → Takes rest front left → Takes (b ∷ rest) (b ∷ front) left
behind_takes b rest front left are t = record { parts = ap (λ l. b ∷ l) t.parts; rest_are = t.rest_are }

flag_more_takes : (bytes : List ℕ) (x : (Bool × ℕ) × List ℕ) → AreBytes bytes → flag_more_at bytes ≡ Some x → Takes bytes (flag_more x.0.0 x.0.1) x.1 × IsNumber x.0.1
unfolding flag_more_at
flag_more_takes [] x are is = absurd cc
flag_more_takes (zero ∷ rest) x are is = subst (λ (y : (Bool × ℕ) × List ℕ). Takes (0 ∷ rest) (flag_more y.0.0 y.0.1) y.1 × IsNumber y.0.1) (some_is ((false, 0), rest) x is) (record { parts = refl; rest_are = AreBytes-rest 0 rest are }, omega arith)
flag_more_takes (suc zero ∷ rest) x are is = subst (λ (y : (Bool × ℕ) × List ℕ). Takes (1 ∷ rest) (flag_more y.0.0 y.0.1) y.1 × IsNumber y.0.1) (some_is ((true, 0), rest) x is) (record { parts = refl; rest_are = AreBytes-rest 1 rest are }, omega arith)
flag_more_takes (suc (suc zero) ∷ rest) x are is =
    let a = bind_some (nonzero_at rest) (λ n. Some ((false, n.0), n.1)) x is in
    let t = nonzero_takes rest a.0 (AreBytes-rest 2 rest are) a.1 in
    subst (λ (y : (Bool × ℕ) × List ℕ). Takes (2 ∷ rest) (flag_more y.0.0 y.0.1) y.1 × IsNumber y.0.1) (some_is ((false, a.0.0), a.0.1) x a.2) (rw t.2 (behind_takes 2 rest (number a.0.0) a.0.1 are t.0), t.1)
flag_more_takes (suc (suc (suc zero)) ∷ rest) x are is =
    let a = bind_some (nonzero_at rest) (λ n. Some ((true, n.0), n.1)) x is in
    let t = nonzero_takes rest a.0 (AreBytes-rest 3 rest are) a.1 in
    subst (λ (y : (Bool × ℕ) × List ℕ). Takes (3 ∷ rest) (flag_more y.0.0 y.0.1) y.1 × IsNumber y.0.1) (some_is ((true, a.0.0), a.0.1) x a.2) (rw t.2 (behind_takes 3 rest (number a.0.0) a.0.1 are t.0), t.1)
flag_more_takes (suc (suc (suc (suc b))) ∷ rest) x are is = absurd cc

optional_takes : (bytes : List ℕ) (x : Option ℕ × List ℕ) → AreBytes bytes → optional_at bytes ≡ Some x → Takes bytes (optional x.0) x.1 × IfSome x.0 IsNumber
unfolding optional_at
optional_takes [] x are is = absurd cc
optional_takes (zero ∷ rest) x are is = subst (λ (y : Option ℕ × List ℕ). Takes (0 ∷ rest) (optional y.0) y.1 × IfSome y.0 IsNumber) (some_is (None, rest) x is) (record { parts = refl; rest_are = AreBytes-rest 0 rest are }, tt)
optional_takes (suc zero ∷ rest) x are is =
    let a = bind_some (number_at rest) (λ n. Some (Some n.0, n.1)) x is in
    let t = number_takes rest a.0 (AreBytes-rest 1 rest are) a.1 in
    subst (λ (y : Option ℕ × List ℕ). Takes (1 ∷ rest) (optional y.0) y.1 × IfSome y.0 IsNumber) (some_is (Some a.0.0, a.0.1) x a.2) (record { parts = ap (λ (w : List ℕ). 1 ∷ w) t.0.parts; rest_are = t.0.rest_are }, t.1)
optional_takes (suc (suc b) ∷ rest) x are is = absurd cc

text_takes : (bytes : List ℕ) (x : List ℕ × List ℕ) → AreBytes bytes → text_at bytes ≡ Some x → Takes bytes (text x.0) x.1 × IsNumber (length x.0)
unfolding text_at
text_takes bytes x are is =
    let a = bind_some (number_at bytes) (λ n. bytes_at n.0 n.1) x is in
    let t = number_takes bytes a.0 are a.1 in
    let b = bytes_takes a.0.0 a.0.1 x t.0.rest_are a.2 in
    (subst (λ (n : ℕ). Takes bytes (number n ++ x.0) x.1) (sym b.1) (then_takes bytes (number a.0.0) a.0.1 x.0 x.1 t.0 b.0), subst IsNumber (sym b.1) t.1)

check_takes : (bytes : List ℕ) (x : Option Checksum × List ℕ) → AreBytes bytes → check_at bytes ≡ Some x → Takes bytes (check x.0) x.1 × FitsCheck x.0
unfolding check_at
check_takes [] x are is = absurd cc
check_takes (zero ∷ rest) x are is = subst (λ (y : Option Checksum × List ℕ). Takes (0 ∷ rest) (check y.0) y.1 × FitsCheck y.0) (some_is (None, rest) x is) (record { parts = refl; rest_are = AreBytes-rest 0 rest are }, tt)
check_takes (suc zero ∷ rest) x are is =
    let a = bind_some (bytes_at 20 rest) (λ digest. Some (Some (Sha1 digest.0), digest.1)) x is in
    let t = bytes_takes 20 rest a.0 (AreBytes-rest 1 rest are) a.1 in
    subst (λ (y : Option Checksum × List ℕ). Takes (1 ∷ rest) (check y.0) y.1 × FitsCheck y.0) (some_is (Some (Sha1 a.0.0), a.0.1) x a.2) (record { parts = ap (λ (w : List ℕ). 1 ∷ w) t.0.parts; rest_are = t.0.rest_are }, t.1)
check_takes (suc (suc zero) ∷ rest) x are is = subst (λ (y : Option Checksum × List ℕ). Takes (2 ∷ rest) (check y.0) y.1 × FitsCheck y.0) (some_is (Some Other, rest) x is) (record { parts = refl; rest_are = AreBytes-rest 2 rest are }, tt)
check_takes (suc (suc (suc b)) ∷ rest) x are is = absurd cc

name_takes : (bytes : List ℕ) (x : Name × List ℕ) → AreBytes bytes → name_at bytes ≡ Some x → Takes bytes (name_bytes x.0) x.1 × IsNumber x.0.id
unfolding name_at
name_takes bytes x are is =
    let a = bind_some (byte_at bytes) (λ tenant. number_at tenant.1 >>= λ id. Some (record { tenant = tenant.0; id = id.0 }, id.1)) x is in
    let b = bind_some (number_at a.0.1) (λ id. Some (record { tenant = a.0.0; id = id.0 }, id.1)) x a.2 in
    let first = byte_takes bytes a.0 are a.1 in
    let second = number_takes a.0.1 b.0 first.rest_are b.1 in
    let made : Name × List ℕ = (record { tenant = a.0.0; id = b.0.0 }, b.0.1) in
    subst (λ (y : Name × List ℕ). Takes bytes (name_bytes y.0) y.1 × IsNumber y.0.id) (some_is made x b.2) (then_takes bytes (a.0.0 ∷ []) a.0.1 (number b.0.0) b.0.1 first second.0, second.1)

-- several of one form, one after another
module _ {A : Type 0} (read : List ℕ → Option (A × List ℕ)) (write : A → List ℕ) (Fits : A → Type 0) (one : (bytes : List ℕ) (x : A × List ℕ) → AreBytes bytes → read bytes ≡ Some x → Takes bytes (write x.0) x.1 × Fits x.0) where
  many_take : (n : ℕ) (bytes : List ℕ) (x : List A × List ℕ) → AreBytes bytes → many_at read n bytes ≡ Some x → Takes bytes (flat_map write x.0) x.1 × (length x.0 ≡ n) × AllByRecursion Fits x.0
  unfolding many_at
  many_take zero bytes x are is = subst (λ (y : List A × List ℕ). Takes bytes (flat_map write y.0) y.1 × (length y.0 ≡ 0) × AllByRecursion Fits y.0) (some_is ([], bytes) x is) (record { parts = refl; rest_are = are }, refl, tt)
  many_take (suc n) bytes x are is =
      let a = bind_some (read bytes) (λ first. many_at read n first.1 >>= λ others. Some (first.0 ∷ others.0, others.1)) x is in
      let b = bind_some (many_at read n a.0.1) (λ others. Some (a.0.0 ∷ others.0, others.1)) x a.2 in
      let first = one bytes a.0 are a.1 in
      let second = many_take n a.0.1 b.0 first.0.rest_are b.1 in
      let both = then_takes bytes (write a.0.0) a.0.1 (flat_map write b.0.0) b.0.1 first.0 second.0 in
      let made : List A × List ℕ = (a.0.0 ∷ b.0.0, b.0.1) in
      subst (λ (y : List A × List ℕ). Takes bytes (flat_map write y.0) y.1 × (length y.0 ≡ suc n) × AllByRecursion Fits y.0) (some_is made x b.2) (rw flat_map-cons both, ap suc second.1, (first.1, second.2))

parts_take : (bytes : List ℕ) (x : List (Option ℕ) × List ℕ) → AreBytes bytes → parts_at bytes ≡ Some x → Takes bytes (parts x.0) x.1 × (length x.0 ≤ 32) × AllByRecursion (λ id. IfSome id IsNumber) x.0
unfolding parts_at
parts_take bytes x are is =
    let a = bind_some (number_at bytes) (λ n. cond (ltb 32 n.0) None (many_at optional_at n.0 n.1)) x is in
    let b = not_none (ltb 32 a.0.0) (many_at optional_at a.0.0 a.0.1) x a.2 in
    let few : a.0.0 ≤ 32 = ltb-false _ _ b.0 in
    let first = number_takes bytes a.0 are a.1 in
    let second = many_take optional_at optional (λ id. IfSome id IsNumber) optional_takes a.0.0 a.0.1 x first.0.rest_are b.1 in
    (subst (λ (n : ℕ). Takes bytes (number n ++ flat_map optional x.0) x.1) (sym second.1) (then_takes bytes (number a.0.0) a.0.1 (flat_map optional x.0) x.1 first.0 second.0), omega (arith, second.1), second.2)

moment_takes : (bytes : List ℕ) (x : ℕ × List ℕ) → AreBytes bytes → moment_at bytes ≡ Some x → Takes bytes (number x.0) x.1 × (x.0 ≤ 253402300799)
unfolding moment_at
moment_takes bytes x are is =
    let a = bind_some (number_at bytes) (λ secs. cond (ltb 253402300799 secs.0) None (Some (secs.0, secs.1))) x is in
    let b = not_none (ltb 253402300799 a.0.0) (Some (a.0.0, a.0.1)) x a.2 in
    let t = number_takes bytes a.0 are a.1 in
    let within : a.0.0 ≤ 253402300799 = ltb-false _ _ b.0 in
    subst (λ (y : ℕ × List ℕ). Takes bytes (number y.0) y.1 × (y.0 ≤ 253402300799)) (some_is (a.0.0, a.0.1) x b.1) (t.0, within)

expires_takes : (bytes : List ℕ) (x : Option ℕ × List ℕ) → AreBytes bytes → expires_at bytes ≡ Some x → Takes bytes (optional x.0) x.1 × IfSome x.0 (λ secs. secs ≤ 253402300799)
unfolding expires_at
expires_takes [] x are is = absurd cc
expires_takes (zero ∷ rest) x are is = subst (λ (y : Option ℕ × List ℕ). Takes (0 ∷ rest) (optional y.0) y.1 × IfSome y.0 (λ secs. secs ≤ 253402300799)) (some_is (None, rest) x is) (record { parts = refl; rest_are = AreBytes-rest 0 rest are }, tt)
expires_takes (suc zero ∷ rest) x are is =
    let a = bind_some (moment_at rest) (λ secs. Some (Some secs.0, secs.1)) x is in
    let t = moment_takes rest a.0 (AreBytes-rest 1 rest are) a.1 in
    subst (λ (y : Option ℕ × List ℕ). Takes (1 ∷ rest) (optional y.0) y.1 × IfSome y.0 (λ secs. secs ≤ 253402300799)) (some_is (Some a.0.0, a.0.1) x a.2) (record { parts = ap (λ (w : List ℕ). 1 ∷ w) t.0.parts; rest_are = t.0.rest_are }, t.1)
expires_takes (suc (suc b) ∷ rest) x are is = absurd cc

kind_takes : (bytes : List ℕ) (x : Kind × List ℕ) → AreBytes bytes → kind_at bytes ≡ Some x → Takes bytes (kind_byte x.0 ∷ []) x.1
unfolding kind_at
kind_takes [] x are is = absurd cc
kind_takes (zero ∷ rest) x are is = subst (λ (y : Kind × List ℕ). Takes (0 ∷ rest) (kind_byte y.0 ∷ []) y.1) (some_is (Plain, rest) x is) (record { parts = refl; rest_are = AreBytes-rest 0 rest are })
kind_takes (suc zero ∷ rest) x are is = subst (λ (y : Kind × List ℕ). Takes (1 ∷ rest) (kind_byte y.0 ∷ []) y.1) (some_is (Partial, rest) x is) (record { parts = refl; rest_are = AreBytes-rest 1 rest are })
kind_takes (suc (suc zero) ∷ rest) x are is = subst (λ (y : Kind × List ℕ). Takes (2 ∷ rest) (kind_byte y.0 ∷ []) y.1) (some_is (Final, rest) x is) (record { parts = refl; rest_are = AreBytes-rest 2 rest are })
kind_takes (suc (suc (suc b)) ∷ rest) x are is = absurd cc

optional_text_takes : (bytes : List ℕ) (x : Option (List ℕ) × List ℕ) → AreBytes bytes → optional_text_at bytes ≡ Some x → Takes bytes (optional_text x.0) x.1 × IfSome x.0 (λ bytes. IsNumber (length bytes))
unfolding optional_text_at
optional_text_takes [] x are is = absurd cc
optional_text_takes (zero ∷ rest) x are is = subst (λ (y : Option (List ℕ) × List ℕ). Takes (0 ∷ rest) (optional_text y.0) y.1 × IfSome y.0 (λ bytes. IsNumber (length bytes))) (some_is (None, rest) x is) (record { parts = refl; rest_are = AreBytes-rest 0 rest are }, tt)
optional_text_takes (suc zero ∷ rest) x are is =
    let a = bind_some (text_at rest) (λ bytes. Some (Some bytes.0, bytes.1)) x is in
    let t = text_takes rest a.0 (AreBytes-rest 1 rest are) a.1 in
    subst (λ (y : Option (List ℕ) × List ℕ). Takes (1 ∷ rest) (optional_text y.0) y.1 × IfSome y.0 (λ bytes. IsNumber (length bytes))) (some_is (Some a.0.0, a.0.1) x a.2) (record { parts = ap (λ (w : List ℕ). 1 ∷ w) t.0.parts; rest_are = t.0.rest_are }, t.1)
optional_text_takes (suc (suc b) ∷ rest) x are is = absurd cc

segment_takes : (bytes : List ℕ) (x : RestoredSegment × List ℕ) → AreBytes bytes → segment_at bytes ≡ Some x → Takes bytes (segment_bytes x.0) x.1 × FitsSegment x.0
unfolding segment_at
segment_takes bytes x are is =
    let a = bind_some (number_at bytes) (λ origin. optional_text_at origin.1 >>= λ brought. Some (record { origin = origin.0; bytes = brought.0 }, brought.1)) x is in
    let b = bind_some (optional_text_at a.0.1) (λ brought. Some (record { origin = a.0.0; bytes = brought.0 }, brought.1)) x a.2 in
    let t0 = number_takes bytes a.0 are a.1 in
    let t1 = optional_text_takes a.0.1 b.0 t0.0.rest_are b.1 in
    let made : RestoredSegment × List ℕ = (record { origin = a.0.0; bytes = b.0.0 }, b.0.1) in
    subst (λ (y : RestoredSegment × List ℕ). Takes bytes (segment_bytes y.0) y.1 × FitsSegment y.0) (some_is made x b.2) (then_takes bytes (number a.0.0) a.0.1 (optional_text b.0.0) b.0.1 t0.0 t1.0, record { origin = t0.1; bytes = t1.1 })

segments_take : (bytes : List ℕ) (x : List RestoredSegment × List ℕ) → AreBytes bytes → segments_at bytes ≡ Some x → Takes bytes (segments_bytes x.0) x.1 × (length x.0 ≤ 32) × AllByRecursion FitsSegment x.0
unfolding segments_at
segments_take bytes x are is =
    let a = bind_some (number_at bytes) (λ n. cond (ltb 32 n.0) None (many_at segment_at n.0 n.1)) x is in
    let b = not_none (ltb 32 a.0.0) (many_at segment_at a.0.0 a.0.1) x a.2 in
    let few : a.0.0 ≤ 32 = ltb-false _ _ b.0 in
    let first = number_takes bytes a.0 are a.1 in
    let second = many_take segment_at segment_bytes FitsSegment segment_takes a.0.0 a.0.1 x first.0.rest_are b.1 in
    (subst (λ (n : ℕ). Takes bytes (number n ++ flat_map segment_bytes x.0) x.1) (sym second.1) (then_takes bytes (number a.0.0) a.0.1 (flat_map segment_bytes x.0) x.1 first.0 second.0), omega (arith, second.1), second.2)

-- ---- changes

upload_takes : (bytes : List ℕ) (x : NewUpload × List ℕ) → AreBytes bytes → upload_at bytes ≡ Some x → Takes bytes (upload_bytes x.0) x.1 × FitsUpload x.0
unfolding upload_at upload_bytes
upload_takes bytes x are is =
    let a = bind_some (flag_at bytes) (λ partial. optional_at partial.1 >>= λ told. text_at told.1 >>= λ metadata. text_at metadata.1 >>= λ concat. Some (record { partial = partial.0; length = told.0; metadata = metadata.0; concat = concat.0 }, concat.1)) x is in
    let b = bind_some (optional_at a.0.1) (λ told. text_at told.1 >>= λ metadata. text_at metadata.1 >>= λ concat. Some (record { partial = a.0.0; length = told.0; metadata = metadata.0; concat = concat.0 }, concat.1)) x a.2 in
    let d = bind_some (text_at b.0.1) (λ metadata. text_at metadata.1 >>= λ concat. Some (record { partial = a.0.0; length = b.0.0; metadata = metadata.0; concat = concat.0 }, concat.1)) x b.2 in
    let e = bind_some (text_at d.0.1) (λ concat. Some (record { partial = a.0.0; length = b.0.0; metadata = d.0.0; concat = concat.0 }, concat.1)) x d.2 in
    let t0 = flag_takes bytes a.0 are a.1 in
    let t1 = optional_takes a.0.1 b.0 t0.rest_are b.1 in
    let t2 = text_takes b.0.1 d.0 t1.0.rest_are d.1 in
    let t3 = text_takes d.0.1 e.0 t2.0.rest_are e.1 in
    let u1 = then_takes bytes (flag a.0.0) a.0.1 (optional b.0.0) b.0.1 t0 t1.0 in
    let u2 = then_takes bytes (flag a.0.0 ++ optional b.0.0) b.0.1 (text d.0.0) d.0.1 u1 t2.0 in
    let u3 = then_takes bytes (flag a.0.0 ++ optional b.0.0 ++ text d.0.0) d.0.1 (text e.0.0) e.0.1 u2 t3.0 in
    let made : NewUpload × List ℕ = (record { partial = a.0.0; length = b.0.0; metadata = d.0.0; concat = e.0.0 }, e.0.1) in
    subst (λ (y : NewUpload × List ℕ). Takes bytes (upload_bytes y.0) y.1 × FitsUpload y.0) (some_is made x e.2) (u3, record { told = t1.1; metadata = t2.1; concat = t3.1 })

first_spelled : (bytes : List ℕ) (x : FirstChunk) → AreBytes bytes → first_at bytes ≡ Some x → (bytes ≡ first_bytes x) × FitsFirst x
unfolding first_at first_bytes
first_spelled bytes x are is =
    let a = bind_some (flag_more_at bytes) (λ typed. check_at typed.1 >>= λ told. Some (record { typed = typed.0.0; check = told.0; bytes = told.1; more = typed.0.1 })) x is in
    let b = bind_some (check_at a.0.1) (λ told. Some (record { typed = a.0.0.0; check = told.0; bytes = told.1; more = a.0.0.1 })) x a.2 in
    let t0 = flag_more_takes bytes a.0 are a.1 in
    let t1 = check_takes a.0.1 b.0 t0.0.rest_are b.1 in
    let made : FirstChunk = record { typed = a.0.0.0; check = b.0.0; bytes = b.0.1; more = a.0.0.1 } in
    subst (λ (y : FirstChunk). (bytes ≡ first_bytes y) × FitsFirst y) (some_is made x b.2)
    ((then_takes bytes (flag_more a.0.0.0 a.0.0.1) a.0.1 (check b.0.0) b.0.1 t0.0 t1.0).parts, record { more = t0.1; check = t1.1 })

chunk_spelled : (bytes : List ℕ) (x : Chunk) → AreBytes bytes → chunk_at bytes ≡ Some x → (bytes ≡ chunk_bytes x) × FitsChunk x
unfolding chunk_at chunk_bytes
chunk_spelled bytes x are is =
    let a = bind_some (number_at bytes) (λ offset. optional_at offset.1 >>= λ told. flag_more_at told.1 >>= λ typed. check_at typed.1 >>= λ sum. Some (record { offset = offset.0; length = told.0; typed = typed.0.0; check = sum.0; bytes = sum.1; more = typed.0.1 })) x is in
    let b = bind_some (optional_at a.0.1) (λ told. flag_more_at told.1 >>= λ typed. check_at typed.1 >>= λ sum. Some (record { offset = a.0.0; length = told.0; typed = typed.0.0; check = sum.0; bytes = sum.1; more = typed.0.1 })) x a.2 in
    let d = bind_some (flag_more_at b.0.1) (λ typed. check_at typed.1 >>= λ sum. Some (record { offset = a.0.0; length = b.0.0; typed = typed.0.0; check = sum.0; bytes = sum.1; more = typed.0.1 })) x b.2 in
    let e = bind_some (check_at d.0.1) (λ sum. Some (record { offset = a.0.0; length = b.0.0; typed = d.0.0.0; check = sum.0; bytes = sum.1; more = d.0.0.1 })) x d.2 in
    let t0 = number_takes bytes a.0 are a.1 in
    let t1 = optional_takes a.0.1 b.0 t0.0.rest_are b.1 in
    let t2 = flag_more_takes b.0.1 d.0 t1.0.rest_are d.1 in
    let t3 = check_takes d.0.1 e.0 t2.0.rest_are e.1 in
    let u1 = then_takes bytes (number a.0.0) a.0.1 (optional b.0.0) b.0.1 t0.0 t1.0 in
    let u2 = then_takes bytes (number a.0.0 ++ optional b.0.0) b.0.1 (flag_more d.0.0.0 d.0.0.1) d.0.1 u1 t2.0 in
    let u3 = then_takes bytes (number a.0.0 ++ optional b.0.0 ++ flag_more d.0.0.0 d.0.0.1) d.0.1 (check e.0.0) e.0.1 u2 t3.0 in
    let made : Chunk = record { offset = a.0.0; length = b.0.0; typed = d.0.0.0; check = e.0.0; bytes = e.0.1; more = d.0.0.1 } in
    subst (λ (y : Chunk). (bytes ≡ chunk_bytes y) × FitsChunk y) (some_is made x e.2) (u3.parts, record { offset = t0.1; told = t1.1; more = t2.1; check = t3.1 })

final_spelled : (bytes : List ℕ) (x : NewFinal) → AreBytes bytes → final_at bytes ≡ Some x → (bytes ≡ final_bytes x) × FitsFinal x
unfolding final_at final_bytes
final_spelled bytes x are is =
    let a = bind_some (parts_at bytes) (λ ids. text_at ids.1 >>= λ metadata. Some (record { parts = ids.0; metadata = metadata.0; concat = metadata.1 })) x is in
    let b = bind_some (text_at a.0.1) (λ metadata. Some (record { parts = a.0.0; metadata = metadata.0; concat = metadata.1 })) x a.2 in
    let t0 = parts_take bytes a.0 are a.1 in
    let t1 = text_takes a.0.1 b.0 t0.0.rest_are b.1 in
    let made : NewFinal = record { parts = a.0.0; metadata = b.0.0; concat = b.0.1 } in
    subst (λ (y : NewFinal). (bytes ≡ final_bytes y) × FitsFinal y) (some_is made x b.2) ((then_takes bytes (parts a.0.0) a.0.1 (text b.0.0) b.0.1 t0.0 t1.0).parts, record { few = t0.1; parts = t0.2; metadata = t1.1 })

-- the fields of a change are spelled so behind its kind
abbrev Spelled : ℕ → List ℕ → Change → Type 0
Spelled kind fields change = (kind ∷ fields ≡ change_bytes change) × FitsChange change

create_spelled : (bytes : List ℕ) (x : Change) → AreBytes bytes → create_at bytes ≡ Some x → Spelled 0 bytes x
unfolding create_at
create_spelled bytes x are is =
    let a = bind_some (byte_at bytes) (λ tenant. upload_at tenant.1 >>= λ new. first_at new.1 >>= λ first. Some (Create tenant.0 new.0 first)) x is in
    let b = bind_some (upload_at a.0.1) (λ new. first_at new.1 >>= λ first. Some (Create a.0.0 new.0 first)) x a.2 in
    let d = bind_some (first_at b.0.1) (λ first. Some (Create a.0.0 b.0.0 first)) x b.2 in
    let t0 = byte_takes bytes a.0 are a.1 in
    let t1 = upload_takes a.0.1 b.0 t0.rest_are b.1 in
    let t2 = first_spelled b.0.1 d.0 t1.0.rest_are d.1 in
    let whole : bytes ≡ a.0.0 ∷ (upload_bytes b.0.0 ++ first_bytes d.0) = t0.parts ∙ ap (λ (t : List ℕ). a.0.0 ∷ t) (t1.0.parts ∙ ap (λ (t : List ℕ). upload_bytes b.0.0 ++ t) t2.0) in
    subst (Spelled 0 bytes) (some_is (Create a.0.0 b.0.0 d.0) x d.2) (ap (λ (t : List ℕ). 0 ∷ t) whole, (t1.1, t2.1))

append_spelled : (bytes : List ℕ) (x : Change) → AreBytes bytes → append_at bytes ≡ Some x → Spelled 1 bytes x
unfolding append_at
append_spelled bytes x are is =
    let a = bind_some (name_at bytes) (λ name. chunk_at name.1 >>= λ chunk. Some (Append name.0 chunk)) x is in
    let b = bind_some (chunk_at a.0.1) (λ chunk. Some (Append a.0.0 chunk)) x a.2 in
    let t0 = name_takes bytes a.0 are a.1 in
    let t1 = chunk_spelled a.0.1 b.0 t0.0.rest_are b.1 in
    let whole : bytes ≡ name_bytes a.0.0 ++ chunk_bytes b.0 = t0.0.parts ∙ ap (λ (t : List ℕ). name_bytes a.0.0 ++ t) t1.0 in
    subst (Spelled 1 bytes) (some_is (Append a.0.0 b.0) x b.2) (ap (λ (t : List ℕ). 1 ∷ t) whole, (t0.1, t1.1))

concat_spelled : (bytes : List ℕ) (x : Change) → AreBytes bytes → concat_at bytes ≡ Some x → Spelled 2 bytes x
unfolding concat_at
concat_spelled bytes x are is =
    let a = bind_some (byte_at bytes) (λ tenant. final_at tenant.1 >>= λ new. Some (Concat tenant.0 new)) x is in
    let b = bind_some (final_at a.0.1) (λ new. Some (Concat a.0.0 new)) x a.2 in
    let t0 = byte_takes bytes a.0 are a.1 in
    let t1 = final_spelled a.0.1 b.0 t0.rest_are b.1 in
    let whole : bytes ≡ a.0.0 ∷ final_bytes b.0 = t0.parts ∙ ap (λ (t : List ℕ). a.0.0 ∷ t) t1.0 in
    subst (Spelled 2 bytes) (some_is (Concat a.0.0 b.0) x b.2) (ap (λ (t : List ℕ). 2 ∷ t) whole, t1.1)

end_spelled : {A : Type 0} (value : A) (rest : List ℕ) (x : A) → at_end (value, rest) ≡ Some x → (rest ≡ []) × (value ≡ x)
end_spelled value [] x is = (refl, some_is value x is)
end_spelled value (b ∷ rest) x is = absurd cc

terminate_spelled : (bytes : List ℕ) (x : Change) → AreBytes bytes → terminate_at bytes ≡ Some x → Spelled 3 bytes x
unfolding terminate_at
terminate_spelled bytes x are is =
    let a = bind_some (name_at bytes) (λ name. at_end name >>= λ ended. Some (Terminate ended)) x is in
    let b = bind_some (at_end a.0) (λ ended. Some (Terminate ended)) x a.2 in
    let t0 = name_takes bytes a.0 are a.1 in
    let e = end_spelled a.0.0 a.0.1 b.0 b.1 in
    let whole : bytes ≡ name_bytes a.0.0 = t0.0.parts ∙ ap (λ (t : List ℕ). name_bytes a.0.0 ++ t) e.0 ∙ append-nil (name_bytes a.0.0) in
    subst (Spelled 3 bytes) (ap (λ (n : Name). Terminate n) e.1 ∙ some_is (Terminate b.0) x b.2) (ap (λ (t : List ℕ). 3 ∷ t) whole, t0.1)

sweep_spelled : (bytes : List ℕ) (x : Change) → sweep_at bytes ≡ Some x → Spelled 4 bytes x
sweep_spelled [] x is = subst (Spelled 4 []) (some_is Sweep x is) (refl, tt)
sweep_spelled (b ∷ rest) x is = absurd cc

-- what else an upload has that is put back with these segments
fields_made : List RestoredSegment → ℕ → Kind → Option ℕ → Option ℕ → List ℕ → List ℕ → RestoredUpload
fields_made segments id kind declared expires metadata concat = record { id = id; kind = kind; declared = declared; segments = segments; metadata = metadata; concat = concat; expires = expires }

record Fields (segments : List RestoredSegment) (bytes : List ℕ) (r : RestoredUpload) : Type 0 where
  parts : bytes ≡ number r.id ++ (kind_byte r.kind ∷ []) ++ optional r.declared ++ optional r.expires ++ text r.metadata ++ r.concat
  same : r.segments ≡ segments
  id : IsNumber r.id
  declared : IfSome r.declared IsNumber
  expires : IfSome r.expires (λ secs. secs ≤ 253402300799)
  metadata : IsNumber (length r.metadata)

fields_spelled : (segments : List RestoredSegment) (bytes : List ℕ) (x : RestoredUpload) → AreBytes bytes → fields_at segments bytes ≡ Some x → Fields segments bytes x
unfolding fields_at fields_made
fields_spelled segments bytes x are is =
    let made = fields_made segments in
    let a = bind_some (number_at bytes) (λ id. kind_at id.1 >>= λ kind. optional_at kind.1 >>= λ declared. expires_at declared.1 >>= λ expires. text_at expires.1 >>= λ metadata. Some (made id.0 kind.0 declared.0 expires.0 metadata.0 metadata.1)) x is in
    let b = bind_some (kind_at a.0.1) (λ kind. optional_at kind.1 >>= λ declared. expires_at declared.1 >>= λ expires. text_at expires.1 >>= λ metadata. Some (made a.0.0 kind.0 declared.0 expires.0 metadata.0 metadata.1)) x a.2 in
    let d = bind_some (optional_at b.0.1) (λ declared. expires_at declared.1 >>= λ expires. text_at expires.1 >>= λ metadata. Some (made a.0.0 b.0.0 declared.0 expires.0 metadata.0 metadata.1)) x b.2 in
    let e = bind_some (expires_at d.0.1) (λ expires. text_at expires.1 >>= λ metadata. Some (made a.0.0 b.0.0 d.0.0 expires.0 metadata.0 metadata.1)) x d.2 in
    let f = bind_some (text_at e.0.1) (λ metadata. Some (made a.0.0 b.0.0 d.0.0 e.0.0 metadata.0 metadata.1)) x e.2 in
    let t0 = number_takes bytes a.0 are a.1 in
    let t1 = kind_takes a.0.1 b.0 t0.0.rest_are b.1 in
    let t2 = optional_takes b.0.1 d.0 t1.rest_are d.1 in
    let t3 = expires_takes d.0.1 e.0 t2.0.rest_are e.1 in
    let t4 = text_takes e.0.1 f.0 t3.0.rest_are f.1 in
    let one : List ℕ = number a.0.0 in
    let two : List ℕ = kind_byte b.0.0 ∷ [] in
    let u1 = then_takes bytes one a.0.1 two b.0.1 t0.0 t1 in
    let u2 = then_takes bytes (one ++ two) b.0.1 (optional d.0.0) d.0.1 u1 t2.0 in
    let u3 = then_takes bytes (one ++ two ++ optional d.0.0) d.0.1 (optional e.0.0) e.0.1 u2 t3.0 in
    let u4 = then_takes bytes (one ++ two ++ optional d.0.0 ++ optional e.0.0) e.0.1 (text f.0.0) f.0.1 u3 t4.0 in
    subst (Fields segments bytes) (some_is (made a.0.0 b.0.0 d.0.0 e.0.0 f.0.0 f.0.1) x f.2)
    (record { parts = u4.parts; same = refl; id = t0.1; declared = t2.1; expires = t3.1; metadata = t4.1 })

grouped : (a b c d e f g : List ℕ) → a ++ (b ++ c ++ d ++ e ++ f ++ g) ≡ a ++ b ++ c ++ d ++ e ++ f ++ g
grouped a b c d e f g = simp append_assoc

back_spelled : (bytes : List ℕ) (x : RestoredUpload) → AreBytes bytes → back_at bytes ≡ Some x → (bytes ≡ back_bytes x) × FitsBack x
unfolding back_at back_bytes
back_spelled bytes x are is =
    let a = bind_some (segments_at bytes) (λ segments. fields_at segments.0 segments.1) x is in
    let t = segments_take bytes a.0 are a.1 in
    let f = fields_spelled a.0.0 a.0.1 x t.0.rest_are a.2 in
    let back = f.same in
    let one = segments_bytes x.segments in
    let two = number x.id in
    let three : List ℕ = kind_byte x.kind ∷ [] in
    let four = optional x.declared in
    let five = optional x.expires in
    let six = text x.metadata in
    let whole : bytes ≡ one ++ (two ++ three ++ four ++ five ++ six ++ x.concat) = rw back (t.0.parts ∙ ap (λ (rest : List ℕ). segments_bytes a.0.0 ++ rest) f.parts) in
    (whole ∙ grouped one two three four five six x.concat, record { id = f.id; declared = f.declared; metadata = f.metadata; expires = f.expires; few = rw back t.1; segments = rw back t.2 })

restore_spelled : (bytes : List ℕ) (x : Change) → AreBytes bytes → restore_at bytes ≡ Some x → Spelled 5 bytes x
unfolding restore_at
restore_spelled bytes x are is =
    let a = bind_some (byte_at bytes) (λ tenant. back_at tenant.1 >>= λ r. Some (Restore (piece.Upload tenant.0 r))) x is in
    let b = bind_some (back_at a.0.1) (λ r. Some (Restore (piece.Upload a.0.0 r))) x a.2 in
    let t0 = byte_takes bytes a.0 are a.1 in
    let t1 = back_spelled a.0.1 b.0 t0.rest_are b.1 in
    let whole : bytes ≡ a.0.0 ∷ back_bytes b.0 = t0.parts ∙ ap (λ (t : List ℕ). a.0.0 ∷ t) t1.0 in
    subst (Spelled 5 bytes) (some_is (Restore (piece.Upload a.0.0 b.0)) x b.2) (ap (λ (t : List ℕ). 5 ∷ t) whole, t1.1)

next_spelled : (bytes : List ℕ) (x : Change) → AreBytes bytes → next_at bytes ≡ Some x → Spelled 6 bytes x
unfolding next_at
next_spelled bytes x are is =
    let a = bind_some (name_at bytes) (λ name. at_end name >>= λ ended. Some (Restore (piece.Next ended.tenant ended.id))) x is in
    let b = bind_some (at_end a.0) (λ ended. Some (Restore (piece.Next ended.tenant ended.id))) x a.2 in
    let t0 = name_takes bytes a.0 are a.1 in
    let e = end_spelled a.0.0 a.0.1 b.0 b.1 in
    let whole : bytes ≡ name_bytes a.0.0 = t0.0.parts ∙ ap (λ (t : List ℕ). name_bytes a.0.0 ++ t) e.0 ∙ append-nil (name_bytes a.0.0) in
    subst (Spelled 6 bytes) (ap (λ (n : Name). Restore (piece.Next n.tenant n.id)) e.1 ∙ some_is (Restore (piece.Next b.0.tenant b.0.id)) x b.2) (ap (λ (t : List ℕ). 6 ∷ t) whole, t0.1)

totals_spelled : (bytes : List ℕ) (x : Change) → AreBytes bytes → totals_at bytes ≡ Some x → Spelled 7 bytes x
unfolding totals_at
totals_spelled bytes x are is =
    let a = bind_some (number_at bytes) (λ released. at_end released >>= λ ended. Some (Restore (piece.Totals ended))) x is in
    let b = bind_some (at_end a.0) (λ ended. Some (Restore (piece.Totals ended))) x a.2 in
    let t0 = number_takes bytes a.0 are a.1 in
    let e = end_spelled a.0.0 a.0.1 b.0 b.1 in
    let whole : bytes ≡ number a.0.0 = t0.0.parts ∙ ap (λ (t : List ℕ). number a.0.0 ++ t) e.0 ∙ append-nil (number a.0.0) in
    subst (Spelled 7 bytes) (ap (λ (n : ℕ). Restore (piece.Totals n)) e.1 ∙ some_is (Restore (piece.Totals b.0)) x b.2) (ap (λ (t : List ℕ). 7 ∷ t) whole, t0.1)

-- which way a test went
chosen : {A : Type 0} (b : Bool) (o p : Option A) (y : A) → cond b o p ≡ Some y → ((b ≡ true) × (o ≡ Some y)) ⊎ ((b ≡ false) × (p ≡ Some y))
chosen true o p y is = inl (refl, is)
chosen false o p y is = inr (refl, is)

-- the changes behind a sweep, by their kinds, and those behind a PATCH
abbrev after_sweep : ℕ → List ℕ → Option Change
after_sweep kind fields = cond (eqb kind 6) (next_at fields) (cond (eqb kind 7) (totals_at fields) None)

abbrev after_append : ℕ → List ℕ → Option Change
after_append kind fields = cond (eqb kind 3) (terminate_at fields) (cond (eqb kind 4) (sweep_at fields) (after_sweep kind fields))

other_spelled : (kind : ℕ) (fields : List ℕ) (x : Change) → AreBytes fields → other_at kind fields ≡ Some x → Spelled kind fields x
other_spelled kind fields x are is = elim (chosen (eqb kind 0) (create_at fields) (cond (eqb kind 1) (append_at fields) (after_append kind fields)) x is) [
  | inl here ↦ subst (λ (k : ℕ). Spelled k fields x) (sym (eqb-true _ _ here.0)) (create_spelled fields x are here.1)
  | inr a ↦ elim (chosen (eqb kind 1) (append_at fields) (after_append kind fields) x a.1) [
    | inl here ↦ subst (λ (k : ℕ). Spelled k fields x) (sym (eqb-true _ _ here.0)) (append_spelled fields x are here.1)
    | inr b ↦ elim (chosen (eqb kind 3) (terminate_at fields) (cond (eqb kind 4) (sweep_at fields) (after_sweep kind fields)) x b.1) [
      | inl here ↦ subst (λ (k : ℕ). Spelled k fields x) (sym (eqb-true _ _ here.0)) (terminate_spelled fields x are here.1)
      | inr d ↦ elim (chosen (eqb kind 4) (sweep_at fields) (after_sweep kind fields) x d.1) [
        | inl here ↦ subst (λ (k : ℕ). Spelled k fields x) (sym (eqb-true _ _ here.0)) (sweep_spelled fields x here.1)
        | inr e ↦ elim (chosen (eqb kind 6) (next_at fields) (cond (eqb kind 7) (totals_at fields) None) x e.1) [
          | inl here ↦ subst (λ (k : ℕ). Spelled k fields x) (sym (eqb-true _ _ here.0)) (next_spelled fields x are here.1)
          | inr f ↦ elim (chosen (eqb kind 7) (totals_at fields) None x f.1) [
            | inl here ↦ subst (λ (k : ℕ). Spelled k fields x) (sym (eqb-true _ _ here.0)) (totals_spelled fields x are here.1)
            | inr none ↦ absurd (no_change none.1)
          ]
        ]
      ]
    ]
  ]
]
  where
    no_change : None ≡ some x → ⊥
    no_change same = cc

change_spelled : (bytes : List ℕ) (x : Change) → AreBytes bytes → change_at bytes ≡ Some x → (bytes ≡ change_bytes x) × FitsChange x
unfolding change_at
change_spelled bytes x are is =
    let a = bind_some (byte_at bytes) (λ kind. cond (eqb kind.0 2) (concat_at kind.1) (cond (eqb kind.0 5) (restore_at kind.1) (other_at kind.0 kind.1))) x is in
    let t0 = byte_takes bytes a.0 are a.1 in
    let spelled : Spelled a.0.0 a.0.1 x = elim (chosen (eqb a.0.0 2) (concat_at a.0.1) (cond (eqb a.0.0 5) (restore_at a.0.1) (other_at a.0.0 a.0.1)) x a.2) [
      | inl here ↦ subst (λ (k : ℕ). Spelled k a.0.1 x) (sym (eqb-true _ _ here.0)) (concat_spelled a.0.1 x t0.rest_are here.1)
      | inr other ↦ elim (chosen (eqb a.0.0 5) (restore_at a.0.1) (other_at a.0.0 a.0.1) x other.1) [
        | inl here ↦ subst (λ (k : ℕ). Spelled k a.0.1 x) (sym (eqb-true _ _ here.0)) (restore_spelled a.0.1 x t0.rest_are here.1)
        | inr last ↦ other_spelled a.0.0 a.0.1 x t0.rest_are last.1
      ]
    ] in
    (t0.parts ∙ spelled.0, spelled.1)

pub record_spelled : RecordsAreSpelledSo
unfolding record_at moment_at
record_spelled bytes now change are is =
    let a = bind_some (moment_at bytes) (λ moment. change_at moment.1 >>= λ found. Some (moment.0, found)) (now, change) is in
    let b = bind_some (change_at a.0.1) (λ found. Some (a.0.0, found)) (now, change) a.2 in
    let d = bind_some (number_at bytes) (λ secs. cond (ltb 253402300799 secs.0) None (Some (secs.0, secs.1))) a.0 a.1 in
    let e = not_none (ltb 253402300799 d.0.0) (Some (d.0.0, d.0.1)) a.0 d.2 in
    let t0 = number_takes bytes d.0 are d.1 in
    let within : d.0.0 ≤ 253402300799 = ltb-false _ _ e.0 in
    let same : (d.0.0, d.0.1) ≡ a.0 = some_is (d.0.0, d.0.1) a.0 e.1 in
    let rest_is : d.0.1 ≡ a.0.1 = ap (λ (p : ℕ × List ℕ). p.1) same in
    let moment_is : d.0.0 ≡ a.0.0 = ap (λ (p : ℕ × List ℕ). p.0) same in
    let t1 = change_spelled a.0.1 b.0 (subst AreBytes rest_is t0.0.rest_are) b.1 in
    let whole : bytes ≡ number a.0.0 ++ change_bytes b.0 = t0.0.parts ∙ ap (λ (t : List ℕ). number d.0.0 ++ t) (rest_is ∙ t1.0) ∙ ap (λ (n : ℕ). number n ++ change_bytes b.0) moment_is in
    let found : (a.0.0, b.0) ≡ (now, change) = some_is (a.0.0, b.0) (now, change) b.2 in
    subst (λ (p : ℕ × Change). (bytes ≡ record_bytes p.0 p.1) × (p.0 ≤ 253402300799) × FitsChange p.1) found (whole, omega (arith, moment_is), t1.1)
