use Rattle.std.proofs.Common.{◌≡◌, ℕ, List, [], ◌∷◌, length, get_or, refl, sym, ◌∙◌, rules}
use Rattle.std.proofs.lemmas.Slice.Eq.{text_from_reads}
use Rattle.tus_text_tests.proofs.plain.date.print_date.Goals as goal

three_items : (items : List ℕ) → length items ≡ 3 → items ≡ get_or items 0 0 ∷ get_or items 1 0 ∷ get_or items 2 0 ∷ []
three_items items len = text_from_reads items _ len (refl, (refl, (refl, tt)))

pub returns : goal.returns
returns c =
    let day = sym c.day_name.ensures ∙ three_items c.day_name.result (search rules) in
    let month = sym c.month_name.ensures ∙ three_items c.month_name.result (search rules) in
    rw (day, month) cc
