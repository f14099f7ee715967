-- Words that ask for help.
use Rattle.std.proofs.Common.{◌≡◌, ◌∙◌, ℕ, drop, if◌then◌else◌, Bool, true, false, codes, List, [], ◌∷◌, Option, Some, None, refl, sym, ap, subst, true≢false}
use Rattle.std.specs.Option.{option_map_or}
use Rattle.std.specs.Prelude.{bytes_eq, slice_get}
use Rattle.std.proofs.lemmas.Slice.Eq.{bytes_eq-Decides}
use Rattle.clap.proofs.WalkLemmas.{both}
use Rattle.clap.specs.Faults.{walk_fault}
use Rattle.clap.specs.Words.{Kinds, Text, fault_of}
use Rattle.server_words.specs.CommandLine.{are_of_journal, ask_help_of_journal, faults_in, help_kinds, is_word, journal_program, program}

is_text : (words : List Text) (place : ℕ) (text : Text) → is_word words place text ≡ true → slice_get words place ≡ Some text
is_text words place text = by (slice_get words place)
  where
    by : (found : Option Text) → option_map_or (λ word. bytes_eq word text) found false ≡ true → found ≡ Some text
    by None is = absurd (true≢false (sym is))
    by (Some word) is = ap {A = Text} {B = Option Text} (λ word. Some word) ((bytes_eq-Decides word text).0 is)

-- what is so of all words whose second is a text
at_second : (f : List Text → Kinds) (words : List Text) (text : Text) (kinds : Kinds) → slice_get words 1 ≡ Some text → ((name : Text) (rest : List Text) → f (name ∷ text ∷ rest) ≡ kinds) → f words ≡ kinds
at_second f [] text kinds is all = let no : ⊥ = cc in absurd no
at_second f (name ∷ []) text kinds is all = let no : ⊥ = cc in absurd no
at_second f (name ∷ word ∷ rest) text kinds is all = let same : text ≡ word = cc in subst (λ (w : Text). f (name ∷ w ∷ rest) ≡ kinds) same (all name rest)

journal_shown : (name : Text) (rest : List Text) → fault_of journal_program (name ∷ codes "help" ∷ rest) ≡ help_kinds
unfolding walk_fault
journal_shown name rest = refl

program_shown : (name : Text) (rest : List Text) → fault_of program (name ∷ codes "help" ∷ rest) ≡ help_kinds
unfolding walk_fault
program_shown name rest = refl

pub help-in-journal : (words : List Text) → is_word words 1 (codes "help") ≡ true → fault_of journal_program words ≡ help_kinds
help-in-journal words is = at_second (fault_of journal_program) words (codes "help") help_kinds (is_text words 1 (codes "help") is) journal_shown

help-of-program : (words : List Text) → ask_help_of_journal words ≡ true → fault_of program words ≡ help_kinds
help-of-program words asked = at_second (fault_of program) words (codes "help") help_kinds (is_text words 1 (codes "help") (both _ _ asked).0) program_shown

pub faults-of-help : (words : List Text) → are_of_journal words ≡ false → ask_help_of_journal words ≡ true → faults_in words ≡ help_kinds
faults-of-help words other asked = ap (λ (of_journal : Bool). if of_journal then fault_of journal_program (drop 1 words) else fault_of program words) other ∙ help-of-program words asked
