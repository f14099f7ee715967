-- The text of settings, and the lines of a text.
use Rattle.std.proofs.Common.{◌≡◌, ◌≢◌, ℕ, zero, suc, ◌+◌, ◌<◌, List, [], ◌∷◌, ◌++◌, get_or, length, map, take, Option, Some, None, Result, Ok, Err, OnOk, inl, inr, refl, sym, subst, ap, ap₂, ◌∙◌, ◌==◌, arith, add-one, append_assoc, length-append, length-take-le}
use Rattle.std.specs.Prelude.{codes, decimal, slice_get}
use Rattle.std.specs.List.{AllByRecursion, after_first, before_first, position_or_len}
use Rattle.std.specs.Str.{byte}
use Rattle.std.proofs.lemmas.Grind.{flat_map-append}
use Rattle.std.proofs.lemmas.List.{append-nil, get_or-take}
use Rattle.std.proofs.lemmas.List.Sums.{fails_before_first, passes_at_first, position_or_len_is, split_at_first}
use Rattle.std.proofs.lemmas.Bool.{eqb-true}
use Rattle.std.proofs.lemmas.Bool.Decides.{eqb_tells}
use Rattle.clap.specs.Kinds.{HasKind, IsAmong, Kinds}
use Rattle.clap.specs.Values.{kind_of}
use Rattle.clap.specs.Words.{Text}
use Rattle.clap.specs.declared.error.Error.{Error}
use Rattle.clap.specs.declared.error.kind.ErrorKind.{ErrorKind}
use Rattle.clap.specs.declared.error.kind.ErrorKind.TheVariants as kind
use Rattle.upload_book.specs.declared.settings.Numbers.{Numbers}
use Rattle.upload_book.specs.declared.settings.TenantQuota.{TenantQuota}
use Rattle.server_words.specs.Arguments.{CommandArguments, arguments_in}
use Rattle.server_words.specs.CommandLine.{faults_in}
use Rattle.server_words.specs.SettingsFile.{AreLines, IsFirstLine, IsWord, command_for, finished_words, lines, number_words, settings_given_by, settings_in, settings_where, size_words, tenant_word}

-- one line more
pub lines-more : (words : List Text) (word : Text) → lines (words ++ word ∷ []) ≡ lines words ++ (word ++ codes "\n")
lines-more words word = flat_map-append (λ (w : List ℕ). w ++ codes "\n") words (word ∷ []) ∙ ap (λ (rest : List ℕ). lines words ++ rest) (append-nil (word ++ codes "\n"))

-- the words of one tenant more
tenants-more : (xs : List TenantQuota) (place : ℕ) (name : List ℕ) (quota : ℕ) → slice_get (map {A = TenantQuota} {B = List ℕ} (λ t. t.name) xs) place ≡ Some name → slice_get (map {A = TenantQuota} {B = ℕ} (λ t. t.quota) xs) place ≡ Some quota
    → map {A = TenantQuota} {B = List ℕ} tenant_word (take (suc place) xs) ≡ map {A = TenantQuota} {B = List ℕ} tenant_word (take place xs) ++ (name ++ codes ":" ++ decimal quota) ∷ []
tenants-more [] place name quota named paid = cc
tenants-more (t ∷ xs) zero name quota named paid =
    let is_name : t.name ≡ name = cc in
    let is_quota : t.quota ≡ quota = cc in
    ap₂ (λ (n : List ℕ) (q : ℕ). (n ++ codes ":" ++ decimal q) ∷ []) is_name is_quota
tenants-more (t ∷ xs) (suc place) name quota named paid = ap (λ (rest : List (List ℕ)). tenant_word t ∷ rest) (tenants-more xs place name quota named paid)

-- the text of one tenant more
pub text-more : (front : List Text) (xs : List TenantQuota) (place : ℕ) (name : List ℕ) (quota : ℕ) (text more : List ℕ) → slice_get (map {A = TenantQuota} {B = List ℕ} (λ t. t.name) xs) place ≡ Some name
    → slice_get (map {A = TenantQuota} {B = ℕ} (λ t. t.quota) xs) place ≡ Some quota → text ≡ lines (front ++ map {A = TenantQuota} {B = List ℕ} tenant_word (take place xs)) → more ≡ text ++ name ++ codes ":" ++ decimal quota ++ codes "\n"
    → more ≡ lines (front ++ map {A = TenantQuota} {B = List ℕ} tenant_word (take (place + 1) xs))
text-more front xs place name quota text more named paid is added =
    let so_far = map {A = TenantQuota} {B = List ℕ} tenant_word (take place xs) in
    let word = name ++ codes ":" ++ decimal quota in
    added ∙ regroup text name (codes ":") (decimal quota) (codes "\n") ∙ ap (λ (t : List ℕ). t ++ (word ++ codes "\n")) is ∙ sym (lines-more (front ++ so_far) word)
    ∙ ap lines (append_assoc front so_far (word ∷ []) ∙ ap (λ (w : List Text). front ++ w) (sym (tenants-more xs place name quota named paid) ∙ ap (λ (k : ℕ). map {A = TenantQuota} {B = List ℕ} tenant_word (take k xs)) (sym (add-one place))))
  where
    regroup : (a b c d e : List ℕ) → a ++ b ++ c ++ d ++ e ≡ a ++ (b ++ c ++ d ++ e)
    regroup a b c d e = simp append_assoc

-- the text of the others
size-lines : (n : Numbers) (t0 t1 t2 t3 t4 t5 t6 : List ℕ) → t1 ≡ t0 ++ codes "--blocks\n" ++ decimal n.blocks ++ codes "\n" → t2 ≡ t1 ++ codes "--block-size\n" ++ decimal n.block_size ++ codes "\n"
    → t3 ≡ t2 ++ codes "--lifetime\n" ++ decimal n.lifetime ++ codes "\n" → t4 ≡ t3 ++ codes "--max-size\n" ++ decimal n.max_size ++ codes "\n" → t5 ≡ t4 ++ codes "--uploads\n" ++ decimal n.uploads ++ codes "\n"
    → t6 ≡ t5 ++ codes "--\n" → t6 ≡ t0 ++ lines (size_words n)
size-lines n t0 t1 t2 t3 t4 t5 t6 e1 e2 e3 e4 e5 e6 =
    all t0 t1 t2 t3 t4 t5 t6 (codes "--blocks\n") (decimal n.blocks) (codes "--block-size\n") (decimal n.block_size) (codes "--lifetime\n") (decimal n.lifetime) (codes "--max-size\n") (decimal n.max_size) (codes "--uploads\n") (decimal n.uploads) (codes "--\n") (codes "\n")
    e1 e2 e3 e4 e5 e6
  where
    all : (t0 t1 t2 t3 t4 t5 t6 a1 d1 a2 d2 a3 d3 a4 d4 a5 d5 z e : List ℕ) → t1 ≡ t0 ++ a1 ++ d1 ++ e → t2 ≡ t1 ++ a2 ++ d2 ++ e → t3 ≡ t2 ++ a3 ++ d3 ++ e → t4 ≡ t3 ++ a4 ++ d4 ++ e → t5 ≡ t4 ++ a5 ++ d5 ++ e → t6 ≡ t5 ++ z
        → t6 ≡ t0 ++ (a1 ++ ((d1 ++ e) ++ (a2 ++ ((d2 ++ e) ++ (a3 ++ ((d3 ++ e) ++ (a4 ++ ((d4 ++ e) ++ (a5 ++ ((d5 ++ e) ++ z))))))))))
    all t0 t1 t2 t3 t4 t5 t6 a1 d1 a2 d2 a3 d3 a4 d4 a5 d5 z e e1 e2 e3 e4 e5 e6 = rw (e6, e5, e4, e3, e2, e1) (simp append_assoc)

-- the text of the lifetime of finished uploads, where it is told
pub finished-lines : {E : Type 0} (result : Result (Unit {0}) E) (seconds : ℕ) (before after : List ℕ) → seconds ≢ 0
    → OnOk result (after ≡ before ++ codes "--finished-lifetime\n" ++ decimal seconds ++ codes "\n") → OnOk result (after ≡ before ++ lines (finished_words seconds))
finished-lines (Err fault) seconds before after some added = tt
finished-lines (Ok told) seconds before after some added = elim (eqb_tells seconds 0) [
  | inl none ↦ absurd (some none.1)
  | inr more ↦ rw more.0 (added ∙ regroup before (codes "--finished-lifetime\n") (decimal seconds) (codes "\n"))
]
  where
    regroup : (b a d e : List ℕ) → b ++ a ++ d ++ e ≡ b ++ (a ++ ((d ++ e) ++ []))
    regroup b a d e = append_assoc (b ++ a) d e ∙ append_assoc b a (d ++ e) ∙ ap (λ (t : List ℕ). b ++ (a ++ t)) (sym (append-nil (d ++ e)))

-- the text of the numbers behind that of the lifetime of finished uploads
pub number-lines : (n : Numbers) (text t0 t1 t2 t3 t4 t5 t6 : List ℕ) → t0 ≡ text ++ lines (finished_words n.finished_lifetime) → t1 ≡ t0 ++ codes "--blocks\n" ++ decimal n.blocks ++ codes "\n" → t2 ≡ t1 ++ codes "--block-size\n" ++ decimal n.block_size ++ codes "\n"
    → t3 ≡ t2 ++ codes "--lifetime\n" ++ decimal n.lifetime ++ codes "\n" → t4 ≡ t3 ++ codes "--max-size\n" ++ decimal n.max_size ++ codes "\n" → t5 ≡ t4 ++ codes "--uploads\n" ++ decimal n.uploads ++ codes "\n"
    → t6 ≡ t5 ++ codes "--\n" → t6 ≡ text ++ lines (number_words n)
number-lines n text t0 t1 t2 t3 t4 t5 t6 e0 e1 e2 e3 e4 e5 e6 =
    let finished = finished_words n.finished_lifetime in
    size-lines n t0 t1 t2 t3 t4 t5 t6 e1 e2 e3 e4 e5 e6 ∙ ap (λ (t : List ℕ). t ++ lines (size_words n)) e0
    ∙ append_assoc text (lines finished) (lines (size_words n)) ∙ ap (λ (t : List ℕ). text ++ t) (sym (flat_map-append (λ (w : List ℕ). w ++ codes "\n") finished (size_words n)))

-- the words so far are those before, and the lines of a text up to a rest
pub record LinesSoFar (before words : List Text) (text rest : List ℕ) : Type 0 where
  pub more : List Text
  pub each : AllByRecursion IsWord more
  pub text_is : lines more ++ rest ≡ text
  pub words_are : words ≡ before ++ more

-- more lines, all of a text
abbrev pub AddsLines : List Text → List Text → List ℕ → Type 0
AddsLines before words text = (more : List Text) × AreLines more text × (words ≡ before ++ more)

each-append : (xs : List Text) (x : Text) → AllByRecursion IsWord xs → IsWord x → AllByRecursion IsWord (xs ++ x ∷ [])
each-append [] x all is = (is, tt)
each-append (y ∷ xs) x all is = (all.0, each-append xs x all.1 is)

-- what stands before the end of a line has none
first-word : (rest : List ℕ) → position_or_len (λ b. b == byte "\n") rest < length rest → IsWord (before_first (λ b. b == byte "\n") rest)
first-word rest there =
    let n = position_or_len (λ (b : ℕ). b == byte "\n") rest in
    let long : length (take n rest) ≡ n = length-take-le n rest (omega arith) in
    position_or_len_is (λ (b : ℕ). b == byte "\n") (take n rest) (length (take n rest)) 0 (omega arith)
    (λ k below. let within : k < n = omega arith in rw (get_or-take n rest k 0 within) (fails_before_first (λ (b : ℕ). b == byte "\n") rest k 0 within))
    (λ past. absurd (omega arith))

-- and behind it the text goes on
first-line : (rest : List ℕ) → position_or_len (λ b. b == byte "\n") rest < length rest → (before_first (λ b. b == byte "\n") rest ++ codes "\n") ++ after_first (λ b. b == byte "\n") rest ≡ rest
first-line rest there =
    let test = λ (b : ℕ). b == byte "\n" in
    let ends = eqb-true (get_or rest (position_or_len test rest) 0) 10 (passes_at_first test rest 0 there) in
    append_assoc (before_first test rest) (codes "\n") (after_first test rest)
    ∙ ap (λ (b : ℕ). before_first test rest ++ (b ∷ after_first test rest)) (sym ends)
    ∙ sym (split_at_first test rest 0 there)

-- at first there are none
pub no-lines : (before : List Text) (text : List ℕ) → LinesSoFar before before text text
no-lines before text = record { more = []; each = tt; text_is = refl; words_are = sym (append-nil before) }

-- a line more
pub next-line : (before words after : List Text) (text rest line later : List ℕ) → LinesSoFar before words text rest → IsFirstLine rest line later → after ≡ words ++ line ∷ [] → LinesSoFar before after text later
next-line before words after text rest line later so_far first is_after = record {
  more = so_far.more ++ line ∷ [];
  each = each-append so_far.more line so_far.each (subst IsWord (sym first.line_is) (first-word rest first.ends));
  text_is =
      ap (λ (t : List ℕ). t ++ later) (lines-more so_far.more line) ∙ append_assoc (lines so_far.more) (line ++ codes "\n") later
      ∙ ap (λ (t : List ℕ). lines so_far.more ++ t) (ap₂ (λ (x y : List ℕ). (x ++ codes "\n") ++ y) first.line_is first.rest_is ∙ first-line rest first.ends) ∙ so_far.text_is;
  words_are = is_after ∙ ap (λ (w : List Text). w ++ line ∷ []) so_far.words_are ∙ append_assoc before so_far.more (line ∷ []);
}

-- what is left is shorter
pub shorter : (rest line later : List ℕ) → IsFirstLine rest line later → length later < length rest
shorter rest line later first =
    let whole = first-line rest first.ends in
    omega (
      arith,
      ap length first.rest_is,
      ap length whole,
      length-append (before_first (λ (b : ℕ). b == byte "\n") rest ++ codes "\n") (after_first (λ (b : ℕ). b == byte "\n") rest),
      length-append (before_first (λ (b : ℕ). b == byte "\n") rest) (codes "\n"),
    )

-- nothing is left
pub all-lines : (before words : List Text) (text rest : List ℕ) → LinesSoFar before words text rest → rest ≡ [] → AddsLines before words text
all-lines before words text rest so_far none =
    (so_far.more, record { each = so_far.each; whole = inl (sym (append-nil (lines so_far.more)) ∙ ap (λ (t : List ℕ). lines so_far.more ++ t) (sym none) ∙ so_far.text_is) }, so_far.words_are)

-- a line without an end is left
pub last-line : (before words after : List Text) (text rest : List ℕ) → LinesSoFar before words text rest → rest ≢ [] → IsWord rest → after ≡ words ++ rest ∷ [] → AddsLines before after text
last-line before words after text rest so_far some none is_after = (
  so_far.more ++ rest ∷ [],
  record {
    each = each-append so_far.more rest so_far.each none;
    whole = inr (record { front = so_far.more; last = rest; some = some; words_are = refl; text_is = so_far.text_is });
  },
  is_after ∙ ap (λ (w : List Text). w ++ rest ∷ []) so_far.words_are ∙ append_assoc before so_far.more (rest ∷ []),
)

-- ---- the settings that words give

where_faults : (faults : Kinds) (kind : ErrorKind) (asked : Option CommandArguments) → IsAmong kind faults → settings_where faults asked ≡ None
where_faults [] kind asked among = absurd among
where_faults (fault ∷ faults) kind asked among = refl

-- words that are not taken give none
pub not-taken : (words : List Text) (error : Error) → HasKind (faults_in words) error → kind_of error ≢ kind.OutOfMemory → None ≡ settings_in words
unfolding settings_in
not-taken words error (inl memory) other = absurd (other memory)
not-taken words error (inr among) other = sym (where_faults (faults_in words) (kind_of error) (arguments_in words) among)

-- the words of a file, behind those of the program and its command
pub given-by : (command : Text) (t0 t1 t2 t3 all more : List Text) → t0 ≡ [] → t1 ≡ t0 ++ more → command ≡ command_for t1 → t2 ≡ command ∷ t1 → t3 ≡ codes "tus-server" ∷ t2 → all ≡ t3 → settings_in all ≡ settings_given_by more
unfolding settings_given_by
given-by command t0 t1 t2 t3 all more e0 e1 is e2 e3 e =
    let lines_are : t1 ≡ more = e1 ∙ ap (λ (t : List Text). t ++ more) e0 in
    ap settings_in (e ∙ e3 ∙ ap (λ (t : List Text). codes "tus-server" ∷ t) (e2 ∙ ap₂ (λ (c : Text) (t : List Text). c ∷ t) (is ∙ ap command_for lines_are) lines_are))
