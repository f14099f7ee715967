use Rattle.std.proofs.Common.{◌++◌, length, take-append-drop, sym, ◌∙◌}
use Rattle.tus_text_tests.proofs.PlainLemmas.{scheme-cut}
use Rattle.tus_text_tests.proofs.plain.path.is_scheme_and_authority.Goals as goal

pub returns-then-eq_ignore_ascii_case : goal.returns-then-eq_ignore_ascii_case
returns-then-eq_ignore_ascii_case c =
    let scheme = c.args.scheme.now in
    let text = c.args.text.now in
    let cut = c.in-Some.ensures.cases in
    let same = c.eq_ignore_ascii_case.ensures.test.0 c.if-eq_ignore_ascii_case.true in
    let whole = sym (take-append-drop (length scheme) text) ∙ (λ i. sym cut.1 i ++ sym cut.2 i) in (
      λ is. (c.in-Some.front.now, c.in-Some.authority.now, same, (c.is_authority.ensures.0 is).0, (c.is_authority.ensures.0 is).1, whole),
      λ parts.
          let authority = cut.2 ∙ (scheme-cut scheme text parts.0 parts.1 parts.2 parts.5).1 in
          c.is_authority.ensures.1 (rw authority (parts.3, parts.4)),
    )
