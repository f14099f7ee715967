use Rattle.std.proofs.Common.{◌≡◌, ◌≢◌, ◌⊎◌, List, ℕ, Option, None, Some, codes, length, inl, inr, sym, ap, ◌∙◌, arith}
use Rattle.std.proofs.lemmas.Bool.{false≢true}
use Rattle.std.proofs.lemmas.Bool.Decides.{nat_tests}
use Rattle.tus_text.specs.Path.{Origin, HasOrigin, print_origin}
use Rattle.tus_text_tests.proofs.PlainLemmas.{IsSchemeAndAuthority, IsPrintedOrigin}
use Rattle.tus_text_tests.proofs.plain.path.is_origin.Goals as goal

printed-http : (text : List ℕ) → IsSchemeAndAuthority (codes "http://") text → IsPrintedOrigin text
printed-http text parts =
    (Some (record { scheme = parts.0; authority = parts.1 }), record { scheme = inl parts.2; some = parts.3; authority = parts.4 }, parts.5)

printed-https : (text : List ℕ) → IsSchemeAndAuthority (codes "https://") text → IsPrintedOrigin text
printed-https text parts =
    (Some (record { scheme = parts.0; authority = parts.1 }), record { scheme = inr parts.2; some = parts.3; authority = parts.4 }, parts.5)

printed-reading : (text : List ℕ) (o : Option Origin) → HasOrigin o → text ≡ print_origin o → length text ≢ 0 → IsSchemeAndAuthority (codes "http://") text ⊎ IsSchemeAndAuthority (codes "https://") text
printed-reading text None valid printed some = absurd (some (ap length printed))
printed-reading text (Some o) valid printed some = elim valid.scheme [
  | inl http ↦ inl (o.scheme, o.authority, http, valid.some, valid.authority, printed)
  | inr https ↦ inr (o.scheme, o.authority, https, valid.some, valid.authority, printed)
]

pub returns-then-is_scheme_and_authority : goal.returns-then-is_scheme_and_authority
returns-then-is_scheme_and_authority c =
    (λ _. printed-http c.args.text.now (c.is_scheme_and_authority.ensures.0 c.if-is_scheme_and_authority.true), λ _. c.if-is_scheme_and_authority.true)

pub returns-else-is_scheme_and_authority : goal.returns-else-is_scheme_and_authority
returns-else-is_scheme_and_authority c =
    let text = c.args.text.now in
    let some : length text ≢ 0 = grind (arith, nat_tests) in (
      λ is. printed-https text (c.is_scheme_and_authority-else-is_scheme_and_authority.ensures.0 is),
      λ origin. elim (printed-reading text origin.0 origin.1 origin.2 some) [
        | inl http ↦ absurd (false≢true (sym c.if-is_scheme_and_authority.false ∙ c.is_scheme_and_authority.ensures.1 http))
        | inr https ↦ c.is_scheme_and_authority-else-is_scheme_and_authority.ensures.1 https
      ],
    )
