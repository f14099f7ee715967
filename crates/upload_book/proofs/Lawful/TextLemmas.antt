-- Texts that are kept fit their tables.
use Rattle.std.proofs.Common.{ℕ, ◌≤◌, Bool, true, false, List, [], ◌∷◌, length, IsTrue, inl, inr, arith}
use Rattle.std.proofs.lemmas.Bool.{cases_lt}
use Rattle.std.proofs.lemmas.Bool.Decides.{nat_tests}
use Rattle.tus_text.specs.Concat.{concat_of}
use Rattle.tus_text.specs.Metadata.{is_metadata}
use Rattle.upload_book.specs.Create.{new_kind}
use Rattle.upload_book.specs.declared.head_row.Kind.{Kind}
use Rattle.upload_book.specs.declared.head_row.Kind.TheVariants.{Final, Partial, Plain}
use Rattle.upload_book.specs.Lawful.{IsConcatText, is_kept_metadata}

-- metadata has at most 1,024 bytes
pub kept_metadata-fits : (text : List ℕ) → IsTrue (is_kept_metadata text) → length text ≤ 1024
unfolding is_metadata
kept_metadata-fits [] kept = omega arith
kept_metadata-fits (b ∷ text) kept = grind (arith, nat_tests)

-- the concat text of a new upload is short
pub new_concat-fits : (partial : Bool) (text : List ℕ) → IsConcatText (new_kind partial) text → length text ≤ 2048
new_concat-fits true text is = rw is (omega arith)
new_concat-fits false text is = rw is (omega arith)

-- and so is that of a final one
pub final_concat-fits : (text : List ℕ) → IsConcatText Final text → length text ≤ 2048
unfolding concat_of
final_concat-fits text is =
    let reads = is.1 in
    elim (cases_lt 2048 (length text)) [
      | inl long ↦ absurd (grind (arith, nat_tests))
      | inr short ↦ short
    ]

-- so the text of an upload of each kind fits
pub concat-fits : (kind : Kind) (text : List ℕ) → IsConcatText kind text → length text ≤ 2048
concat-fits Plain text is = new_concat-fits false text is
concat-fits Partial text is = new_concat-fits true text is
concat-fits Final text is = final_concat-fits text is
