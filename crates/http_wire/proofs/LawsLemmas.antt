-- The laws of conversations, and of what an input begins with.
use Rattle.std.proofs.Common.{◌≡◌, ◌≤◌, ◌⊎◌, ℕ, ◌+◌, Bool, true, false, List, [], length, drop, Option, None, Some, Result, Ok, Err, refl, sym, ap, ◌∙◌, subst, inl, inr, arith, le-leb, length-drop}
use Rattle.std.proofs.lemmas.Bool.{cases_Bool, cases_lt}
use Rattle.httparse.specs.Grammar.{RequestHead}
use Rattle.httparse.proofs.GrammarLemmas.{request_unique}
use Rattle.tus_steps.specs.Request.{Request}
use Rattle.tus_steps.specs.declared.reply.Reply.{Reply}
use Rattle.http_wire.specs.Asking.{asked, unasked}
use Rattle.http_wire.specs.RequestLimits.{AreWithin}
use Rattle.http_wire.specs.Conversation.{Conversation}
use Rattle.http_wire.specs.Exchange.{followed}
use Rattle.http_wire.specs.NextMessage.{NextMessage, message, refused, cut_patch, cut_other, clean_end, Begins, BeginsWhole, LacksMemory, Parses, closing, framing_of, unknown_framing, judged, judged_message, parsed_message, with_body}
use Rattle.http_wire.specs.HeadText.{HeadText, whole, too_long, cut, nothing, head_text, has_many_lines}
use Rattle.http_wire.specs.Laws.{BodiesComeFirst, InputsJoin, MessagesAreShort, OneMessage, RefusesForMemory, TurnsJoin}
use Rattle.http_wire.specs.Turns.{Turns}
use Rattle.http_wire.specs.declared.framing.Framing.{Framing}
use Rattle.http_wire.specs.declared.refusal.WireRefusal.{WireRefusal}
use Rattle.http_wire.specs.declared.refusal.WireRefusal.TheVariants.{Head, HeadSize}
use Rattle.http_wire.proofs.FindLemmas.{whole_short}
use Rattle.http_wire.proofs.NextMessageLemmas.{is_message, judged-bound, lacks_none, no_message}
use Rattle.http_wire.proofs.ConversationLemmas.{Turns-Conversation, Turns-followed, Turns-join}
use Rattle.http_wire.specs.declared.request_limits.RequestLimits.{RequestLimits}

module _ {A : Type 0} (steps : A → Request → ℕ → Reply → A → Type 0) where
  pub inputs_join : InputsJoin steps
  inputs_join limits before after x y e meets turns goes =
      Turns-Conversation steps limits before after (followed x y.input) y.input y.text y.after e (Turns-followed steps limits before y.input x [] turns)
      (subst (λ (b : A). Conversation steps limits after (record y { before = b }) e) meets goes)

  pub turns_join : TurnsJoin steps
  turns_join limits before after x y rest meets turns others =
      Turns-join steps limits before after (followed x y.input) y.input y.text y.after rest (Turns-followed steps limits before y.input x [] turns)
      (subst (λ (b : A). Turns steps limits after (record y { before = b }) rest) meets others)

-- a text is one head at most
pub Parses-unique : (text : List ℕ) (h k : Option RequestHead) → Parses text h → Parses text k → h ≡ k
Parses-unique text None None p q = refl
Parses-unique text None (Some k) p q = absurd (p k q.0 q.1)
Parses-unique text (Some h) None p q = absurd (q h p.0 p.1)
Parses-unique text (Some h) (Some k) p q = ap (λ x. Some x) (request_unique text h k [] [] p.0 q.0).0

-- what lacks memory is refused for it
lacks_memory : (limits : RequestLimits) (text : List ℕ) (h : Option RequestHead) (f : NextMessage) → LacksMemory limits text h f → RefusesForMemory f
lacks_memory limits text None f l = absurd l
lacks_memory limits text (Some h) f l = (closing (framing_of h), l.1)

Begins-unique : (limits : RequestLimits) (t : HeadText) (f g : NextMessage) → Begins limits t f → Begins limits t g → (f ≡ g) ⊎ (RefusesForMemory f ⊎ RefusesForMemory g)
Begins-unique limits (whole text rest) f g b d =
    elim (cases_Bool (has_many_lines text)) [
      | inl many ↦ inl (rw many at b ∙ sym (rw many at d))
      | inr few ↦ by (rw few at b) (rw few at d)
    ]
  where
    parsed : (h k : Option RequestHead) → h ≡ k → f ≡ parsed_message limits h rest → g ≡ parsed_message limits k rest → f ≡ g
    parsed h k e x y = x ∙ ap (λ (z : Option RequestHead). parsed_message limits z rest) e ∙ sym y

    by : BeginsWhole limits text rest f → BeginsWhole limits text rest g → (f ≡ g) ⊎ (RefusesForMemory f ⊎ RefusesForMemory g)
    by v w =
        elim v.2 [
          | inl x ↦ elim w.2 [
            | inl y ↦ inl (parsed v.0 w.0 (Parses-unique text v.0 w.0 v.1 w.1) x y)
            | inr l ↦ inr (inr (lacks_memory limits text w.0 g l))
          ]
          | inr l ↦ inr (inl (lacks_memory limits text v.0 f l))
        ]
Begins-unique limits too_long f g b d = inl (b ∙ sym d)
Begins-unique limits cut f g b d = inl (b ∙ sym d)
Begins-unique limits nothing f g b d = inl (b ∙ sym d)

pub one_message : OneMessage
one_message limits input f g b d = Begins-unique limits (head_text input) f g b d

-- a cut message that is not applied is no PATCH that is
apart : (waiting : Bool) (request : Request) (framing : Framing) (waits : Bool) → (cut_other waiting ≡ cut_patch request framing waits) ⊎ (RefusesForMemory (cut_other waiting) ⊎ RefusesForMemory (cut_patch request framing waits)) → ⊥
apart waiting request framing waits (inl same) = absurd cc
apart waiting request framing waits (inr (inl (closes, same))) = absurd cc
apart waiting request framing waits (inr (inr (closes, same))) = absurd cc

pub bodies_come_first : {A C : Type 0} (steps : A → Request → ℕ → Reply → A → Type 0) (tells : C → ℕ → C → Type 0) → BodiesComeFirst steps tells
bodies_come_first steps tells limits before after x waiting here (asked now told h) =
    absurd (apart waiting h.request h.framing h.waiting (one_message limits x.input (cut_other waiting) (cut_patch h.request h.framing h.waiting) here h.next_message))
bodies_come_first steps tells limits before after x waiting here (unasked same kept next_message) = (same, kept)

-- what follows a message
abbrev rest_of : NextMessage → List ℕ
rest_of (message request framing waiting rest) = rest
rest_of (refused why framing) = []
rest_of (cut_patch request framing waiting) = []
rest_of (cut_other waiting) = []
rest_of clean_end = []

-- the body of a message, and what follows it
with_body-short : (limits : RequestLimits) (most : ℕ) (h : RequestHead) (n : ℕ) (rest : List ℕ) (f : NextMessage) → n ≤ most → is_message f ≡ true → f ≡ with_body limits h n rest → length rest ≤ most + length (rest_of f)
with_body-short limits most h n rest f bound is same =
    elim (cases_lt (length rest) n) [
      | inl short ↦ omega (arith, short, bound)
      | inr fits ↦
          let left : rest_of f ≡ drop n rest = ap rest_of same ∙ rw (le-leb n (length rest) fits) refl in
          omega (arith, ap length left, length-drop n rest, bound)
    ]

judged-short : (limits : RequestLimits) (most : ℕ) (h : RequestHead) (r : Result ℕ WireRefusal) (rest : List ℕ) (f : NextMessage) → AreWithin limits most → judged limits h ≡ r → is_message f ≡ true → f ≡ judged_message limits h r rest
    → length rest ≤ most + length (rest_of f)
judged-short limits most h (Err why) rest f within is is_one same = absurd (no_message f (refused why (closing (framing_of h))) is_one same refl)
judged-short limits most h (Ok n) rest f within is is_one same =
    with_body-short limits most h n rest f (judged-bound limits most h n within is) is_one same

parsed-short : (limits : RequestLimits) (most : ℕ) (h : Option RequestHead) (rest : List ℕ) (f : NextMessage) → AreWithin limits most → is_message f ≡ true → f ≡ parsed_message limits h rest → length rest ≤ most + length (rest_of f)
parsed-short limits most None rest f within is_one same = absurd (no_message f (refused Head unknown_framing) is_one same refl)
parsed-short limits most (Some h) rest f within is_one same = judged-short limits most h (judged limits h) rest f within refl is_one same

Begins-short : (limits : RequestLimits) (most : ℕ) (t : HeadText) (f : NextMessage) → AreWithin limits most → is_message f ≡ true → Begins limits t f → (text rest : List ℕ) × (t ≡ whole text rest) × (length rest ≤ most + length (rest_of f))
Begins-short limits most (whole text rest) f within is_one b = (
  text,
  rest,
  refl,
  elim (cases_Bool (has_many_lines text)) [
    | inl many ↦ absurd (no_message f (refused HeadSize unknown_framing) is_one (rw many at b) refl)
    | inr few ↦ by (rw few at b)
  ],
)
  where
    by : BeginsWhole limits text rest f → length rest ≤ most + length (rest_of f)
    by w =
        elim w.2 [
          | inl same ↦ parsed-short limits most w.0 rest f within is_one same
          | inr lacks ↦ absurd (lacks_none limits text w.0 f is_one lacks)
        ]
Begins-short limits most too_long f within is_one b = absurd (no_message f (refused HeadSize unknown_framing) is_one b refl)
Begins-short limits most cut f within is_one b = absurd (no_message f (cut_other false) is_one b refl)
Begins-short limits most nothing f within is_one b = absurd (no_message f clean_end is_one b refl)

pub messages_are_short : MessagesAreShort
messages_are_short limits most input request framing waiting rest within next_message =
    let b = Begins-short limits most (head_text input) (message request framing waiting rest) within refl next_message in
    omega (arith, whole_short input b.0 b.1 b.2, b.3)
