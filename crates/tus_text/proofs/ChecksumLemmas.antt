-- What decoding Base64 into 20 bytes tells of a text.
use Rattle.std.proofs.Common.{◌≡◌, ℕ, ◌*◌, ◌<◌, Bool, true, false, cond, ltb, List, [], ◌++◌, length, drop, Option, Some, None, Result, Ok, Err, inl, inr, refl, sym, ap, ◌∙◌, arith}
use Rattle.std.proofs.Math.ListN.{length-append}
use Rattle.std.proofs.lemmas.Bool.Decides.{eqb_tells, nat_tests}
use Rattle.std.proofs.lemmas.List.{append-nil, nil_from_length, length-drop}
use Rattle.base64.proofs.Decoding.{length-groups_bytes}
use Rattle.base64.specs.declared.decode.DecodeError.{DecodeError}
use Rattle.base64.specs.declared.decode.DecodeSliceError.{DecodeSliceError}
use Rattle.base64.specs.declared.decode.DecodeSliceError.TheVariants.{OutputSliceTooSmall}
use Rattle.base64.specs.Decode.{or_else, or_error, bytes_fit, decode_outcome, decoded_bytes, groups_before_last, groups_bytes, groups_error, lone_error, suffix_bytes, suffix_error}
use Rattle.base64.specs.Engines.{standard}
use Rattle.base64.specs.GeneralPurpose.{decode_slice_of}
use Rattle.tus_text.specs.Checksum.{digest_of, twenty_bytes}

-- how many bytes were written, if they are no longer than the room
abbrev bytes_read : Bool → ℕ → Result ℕ DecodeSliceError
bytes_read longer n = cond longer (Err OutputSliceTooSmall) (Ok n)

-- 20 bytes that fit are all
fits_whole : (n : ℕ) (longer : Bool) → bytes_read longer n ≡ Ok 20 → n ≡ 20
fits_whole n true is = absurd cc
fits_whole n false is = cc

-- where 20 bytes were written there is no error, and they are all
written_whole : (lone inner : Option DecodeError) (short : Bool) (n : ℕ) → or_error lone (cond short (Err OutputSliceTooSmall) (or_error inner (bytes_fit n 20))) ≡ Ok 20 → (or_else lone inner ≡ None) × (n ≡ 20)
written_whole (Some e) inner short n is = absurd cc
written_whole None inner true n is = absurd cc
written_whole None (Some e) false n is = absurd cc
written_whole None None false n is = (refl, fits_whole n (ltb 20 n) is)

not_twenty : (bytes : List ℕ) → (length bytes ≡ 20 → ⊥) → twenty_bytes (Ok bytes) ≡ None
not_twenty bytes differ = elim (eqb_tells (length bytes) 20) [ inl same ↦ absurd (differ same.1) | inr other ↦ rw other.0 refl ]

-- and where they were not, there is one, or there are more bytes or fewer
not_written : (lone inner : Option DecodeError) (short : Bool) (bytes : List ℕ) → (short ≡ true → 20 < length bytes) → (or_error lone (cond short (Err OutputSliceTooSmall) (or_error inner (bytes_fit (length bytes) 20))) ≡ Ok 20 → ⊥)
    → twenty_bytes (decode_outcome (or_else lone inner) bytes) ≡ None
not_written (Some e) inner short bytes long not = refl
not_written None (Some e) short bytes long not = refl
not_written None None true bytes long not =
    let more : 20 < length bytes = long refl in
    not_twenty bytes (λ is. omega arith)
not_written None None false bytes long not = not_twenty bytes (λ is. not (ap (λ n. bytes_fit n 20) is))

twenty_is : (bytes : List ℕ) → length bytes ≡ 20 → twenty_bytes (Ok bytes) ≡ Some bytes
twenty_is bytes is = elim (eqb_tells (length bytes) 20) [ inl same ↦ rw same.0 refl | inr other ↦ absurd (other.1 is) ]

module _ (text : List ℕ) where
  abbrev bytes : List ℕ
  bytes = decoded_bytes standard.decode_table standard.padding.value text

  abbrev lone : Option DecodeError
  lone = lone_error standard.decode_table standard.padding.value text

  abbrev inner : Option DecodeError
  inner = or_else (groups_error standard.decode_table text (groups_before_last (length text)))
      (suffix_error standard.decode_table standard.padding.value standard.config.decode_allow_trailing_bits standard.config.decode_padding_mode (4 * groups_before_last (length text)) text)

  -- a text of so many groups gives more than 20 bytes
  many : ltb 6 (groups_before_last (length text)) ≡ true → 20 < length bytes
  many test =
      let groups = groups_before_last (length text) in
      let more : 6 < groups = grind (arith, nat_tests) in
      omega (arith, length-append (groups_bytes standard.decode_table text groups) (suffix_bytes standard.decode_table standard.padding.value (4 * groups) text), length-groups_bytes standard.decode_table text groups)

  -- 20 bytes that were written are the digest
  pub digest-written : (old new : List ℕ) → length old ≡ 20 → decode_slice_of standard text 20 ≡ Ok 20 → new ≡ bytes ++ drop (length bytes) old → Some new ≡ digest_of text
  unfolding digest_of
  digest-written old new len is written =
      let whole = written_whole _ _ _ _ is in
      let rest : drop (length bytes) old ≡ [] = nil_from_length _ (omega (arith, length-drop (length bytes) old, whole.1)) in
      let all : new ≡ bytes = written ∙ ap (λ rest. bytes ++ rest) rest ∙ append-nil bytes in
      ap Some all ∙ sym (ap (λ error. twenty_bytes (decode_outcome error bytes)) whole.0 ∙ twenty_is bytes whole.1)

  -- otherwise there is none
  pub digest-none : (decode_slice_of standard text 20 ≡ Ok 20 → ⊥) → None ≡ digest_of text
  unfolding digest_of
  digest-none not = sym (not_written _ _ _ bytes many not)
