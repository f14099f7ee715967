-- Words that name no tenant.
use Rattle.std.proofs.Common.{◌≡◌, ℕ, ◌+◌, List, [], length, None, refl, ap, ◌∙◌, arith}
use Rattle.std.specs.Prelude.{option_and_then}
use Rattle.std.specs.List.{position_or_len, before_first}
use Rattle.std.proofs.lemmas.List.{drop_all}
use Rattle.tus_text.specs.Number.{number_of}
use Rattle.server_words.specs.Quota.{quota_of}
use Rattle.server_words.specs.Tenants.{is_colon, tenant_named, tenant_in}

no_quota : (size : ℕ) → quota_of size [] ≡ None
unfolding number_of
no_quota size = refl

-- a word without `:` names no tenant
pub no_colon : (size : ℕ) (word : List ℕ) → position_or_len is_colon word ≡ length word → tenant_in size word ≡ None
no_colon size word h =
    let all = drop_all (position_or_len is_colon word + 1) word (omega arith) in
    ap (λ text. option_and_then (tenant_named (before_first is_colon word)) (quota_of size text)) all
    ∙ ap (option_and_then (tenant_named (before_first is_colon word))) (no_quota size)
