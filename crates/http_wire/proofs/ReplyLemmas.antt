-- A reply is its page and then the bytes of an upload.
use Rattle.std.proofs.Common.{◌≡◌, ℕ, ◌++◌, Bool, true, false, refl, sym, ap, ◌∙◌, append-nil, append_assoc}
use Rattle.std.specs.Prelude.{◌||◌, ◌==◌}
use Rattle.tus_steps.specs.declared.range.Extent.TheVariants.{Plain, Whole, Range}
use Rattle.tus_steps.specs.declared.reply.Reply.{Reply}
use Rattle.tus_steps.specs.declared.reply.Reply.TheVariants.{Options, Created, Head, Content, Unsatisfiable, Patched, Deleted, Refused}
use Rattle.http_wire.specs.inside.ReplyPage.{word_in, content_in, page_text, content_sent}
use Rattle.http_wire.specs.ReplyText.{reply_head, reply_text, reply_status, body_in, body_sent, is_bare}
use Rattle.http_wire.specs.declared.framing.Framing.{Framing}

body_parts : (bare : Bool) (r : Reply) → body_sent (bare || reply_status r == 204) (body_in r) ≡ body_sent (bare || reply_status r == 204) (word_in r) ++ body_sent bare (content_in r)
body_parts true r = refl
body_parts false (Options max_size) = sym (append-nil _)
body_parts false (Created tenant id offset expires) = sym (append-nil _)
body_parts false (Head row) = sym (append-nil _)
body_parts false (Content bytes Plain metadata) = refl
body_parts false (Content bytes Whole metadata) = refl
body_parts false (Content bytes (Range first last len) metadata) = refl
body_parts false (Unsatisfiable len) = sym (append-nil _)
body_parts false (Patched offset expires) = sym (append-nil _)
body_parts false Deleted = sym (append-nil _)
body_parts false (Refused why head at expires) = sym (append-nil _)

pub reply_text-sent : (r : Reply) (now : ℕ) (framing : Framing) → reply_text r now framing ≡ page_text r now framing ++ content_sent r framing
unfolding reply_text
reply_text-sent r now framing =
    ap (λ l. reply_head r now framing ++ l) (body_parts framing.bare r)
    ∙ sym (append_assoc (reply_head r now framing) (body_sent (is_bare framing (reply_status r)) (word_in r)) (content_sent r framing))
