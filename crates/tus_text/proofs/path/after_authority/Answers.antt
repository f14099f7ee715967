use Rattle.std.proofs.Common.{◌≡◌, ℕ, ◌||◌, Bool, List, Some, None, drop, cond, sym, ap, ◌∙◌, refl, rules, tests, arith}
use Rattle.std.specs.Bool.{◌==◌}
use Rattle.std.specs.List.{prefix_len}
use Rattle.std.specs.Str.{byte}
use Rattle.std.proofs.lemmas.Bool.Decides.{nat_tests}
use Rattle.std.proofs.lemmas.Iterator.{YieldsList-from_slice}
use Rattle.std.proofs.lemmas.Iterator.Search.{position_from_yields_List}
use Rattle.std.proofs.lemmas.List.{take_rest}
use Rattle.tus_text.specs.Path.{is_authority_byte}
use Rattle.tus_text.proofs.PositionLemmas.{position-or_len}
use Rattle.tus_text.proofs.path.after_authority.Goals as goal

abbrev ends_authority : ℕ → Bool
ends_authority b = b == byte "/" || b == byte "?" || b == byte "#" || b == byte " "

none-at : (text : List ℕ) (len : ℕ) → len ≡ 0 → None ≡ cond (len == 0) None (Some (drop len text))
none-at text len zero = rw zero refl

some-at : (text : List ℕ) (len : ℕ) → (len ≡ 0 → ⊥) → Some (drop len text) ≡ cond (len == 0) None (Some (drop len text))
some-at text len some = grind (arith, nat_tests)

pub returns-then-len-eq0 : goal.returns-then-len-eq0
returns-then-len-eq0 c =
    let text = c.args.text.now in
    let answer = position_from_yields_List ends_authority _ _ c.position-end.result c.position-end.ensures.ran (YieldsList-from_slice text cc) (λ x b q k. search (rules, tests)) in
    let len = c.unwrap_or-len.ensures ∙ position-or_len ends_authority text _ answer in
    none-at text (prefix_len is_authority_byte text) (sym len ∙ c.if-len-eq0.true)

pub returns-else-len-eq0 : goal.returns-else-len-eq0
returns-else-len-eq0 c =
    let text = c.args.text.now in
    let answer = position_from_yields_List ends_authority _ _ c.position-end.result c.position-end.ensures.ran (YieldsList-from_slice text cc) (λ x b q k. search (rules, tests)) in
    let len = c.unwrap_or-len.ensures ∙ position-or_len ends_authority text _ answer in
    let rest = take_rest text c.unwrap_or-len.result ∙ ap (λ n. drop n text) len in
    ap Some rest ∙ some-at text (prefix_len is_authority_byte text) (λ zero. c.if-len-eq0.false (len ∙ zero))
