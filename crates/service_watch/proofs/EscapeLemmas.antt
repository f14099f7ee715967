-- The percent-encoding of the bytes that a log escapes gives the texts of `Escape`.
use Rattle.std.proofs.Common.{◌≡◌, ℕ, ◌<◌, true, not, List, All, refl}
use Rattle.std.proofs.lemmas.Bool.{agree_below}
use Rattle.percent_encoding.specs.AsciiSet.{should_percent_encode}
use Rattle.percent_encoding.specs.Percent.{percent_encode}
use Rattle.service_watch.specs.declared.escape.TheConstants.{ESCAPED}
use Rattle.service_watch.specs.Escape.{escaped, is_plain}
use Rattle.tus_text.proofs.EscapeLemmas as escape

-- what is escaped are the bytes that don't stand for themselves
sets_agree : agree_below (should_percent_encode ESCAPED) (λ b. not (is_plain b)) 256 ≡ true
unfolding should_percent_encode
sets_agree = refl

pub texts_agree : (text : List ℕ) → All (λ b. b < 256) text → percent_encode ESCAPED text ≡ escaped text
unfolding escaped
texts_agree text small = escape.texts_agree ESCAPED is_plain sets_agree text small
