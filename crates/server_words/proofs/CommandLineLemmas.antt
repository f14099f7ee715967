-- What clap finds in words, and the rules of arguments as they are built.
use Rattle.std.proofs.Common.{◌≡◌, ℕ, ◌&&◌, not, Bool, true, false, List, Option, Some, Result, refl, sym, ap, ◌∙◌, true≢false, ap₂, subst}
use Rattle.std.specs.Borrow.{Bor}
use Rattle.clap.proofs.WalkLemmas.{both}
use Rattle.clap.specs.Words.{AddsArg, App, FailsBy, HasMatchesOf, fault_of, is_simple, is_simple_and_free, subcommand_of, subcommand_rows_of, Rule, Text, app_of, rule_of, with_rule}
use Rattle.clap.specs.declared.builder.arg.Arg.{Arg}
use Rattle.clap.specs.declared.builder.command.Command.{Command}
use Rattle.clap.specs.declared.builder.value_parser.ValueParser.{ValueParser}
use Rattle.clap.specs.declared.error.Error.{Error}
use Rattle.clap.specs.declared.parser.matches.ArgMatches.{ArgMatches}
use Rattle.server_words.specs.CommandLine.{journal_program, program, option_rule}

pub program_is_simple : is_simple program ≡ true
program_is_simple = refl

pub program_is_free : is_simple_and_free program ≡ true
program_is_free = refl

pub journal_is_simple : is_simple journal_program ≡ true
journal_is_simple = refl

pub journal_is_free : is_simple_and_free journal_program ≡ true
journal_is_free = refl

-- what was found is what a program finds in the words
pub matches_found : (of : App) → is_simple of ≡ true → (a : App) (words : List Text) (m : ArgMatches) → a ≡ of → HasMatchesOf a words m → subcommand_rows_of m ≡ subcommand_of of words
matches_found of simple a words m is h = (subst (λ x. HasMatchesOf x words m) is h simple).1

-- and its faults are the program's
pub fails_by : {T : Type 0} (of : App) → is_simple_and_free of ≡ true → (a : App) (words : List Text) (r : Result T Error) → a ≡ of → (is_simple_and_free a ≡ true → FailsBy (fault_of a words) r) → FailsBy (fault_of of words) r
fails_by of free a words r is h = subst (λ x. is_simple_and_free x ≡ true → FailsBy (fault_of x words) r) is h free

-- what help shows of an argument is no part of its rule
pub helped : (base shown : Arg) (text : Option (Bor Text)) (rule : Rule) → rule_of base ≡ rule → base.global ≡ false → shown ≡ record base { help = text }
    → (rule_of shown ≡ rule) × (shown.global ≡ false)
helped base shown text rule is local same = (ap rule_of same ∙ is, ap (λ (a : Arg). a.global) same ∙ local)

-- an option with another range
pub ranged : (base narrowed : Arg) (name default : Text) (most : ℕ) (q : ValueParser) → rule_of base ≡ option_rule name default most → base.global ≡ false
    → narrowed ≡ record base { value_parser = narrowed.value_parser } → narrowed.value_parser ≡ Some q
    → (rule_of narrowed ≡ record (option_rule name default most) { parser = Some q }) × (narrowed.global ≡ false)
ranged base narrowed name default most q rule local others given = (
  ap rule_of others ∙ ap₂ (λ (r : Rule) (p : Option ValueParser). record r { parser = p }) rule given,
  ap (λ (a : Arg). a.global) others ∙ local,
)

-- a command with one more argument
pub added : (old : Command) (a : Arg) (new : Command) (rule : Rule) → AddsArg old a new → a.global ≡ false → rule_of a ≡ rule → app_of new ≡ with_rule (app_of old) rule
added old a new rule adds local is = adds.shape local ∙ ap (with_rule (app_of old)) is

negated : (b : Bool) → not b ≡ true → b ≡ false
negated false h = refl
negated true h = absurd (true≢false (sym h))

-- a command whose rules are plain has no global argument
pub third : (groups external globals rest : Bool) → (groups && (not external && (not globals && rest))) ≡ true → globals ≡ false
third groups external globals rest h = negated globals (both _ _ (both _ _ (both _ _ h).1).1).0
