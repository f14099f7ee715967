-- A reading of a message, look by look and read by read.
use Rattle.std.proofs.Common.{◌≡◌, ◌≤◌, ◌+◌, length, ℕ, Bool, true, false, List, [], ◌++◌, Result, Ok, Err, IfOk, IfErr, inl, inr, refl, subst, arith, length-append, append_assoc}
use Rattle.http_wire.specs.RequestLimits.{AreWithin}
use Rattle.http_wire.specs.Conversation.{continue_text}
use Rattle.tus_steps.specs.Method.{is_applied_when_cut}
use Rattle.http_wire.specs.NextMessage.{NextMessage, clean_end, cut_other, IsNextMessage}
use Rattle.http_wire.specs.Layout.{field_at}
use Rattle.http_wire.specs.OnConnection.{HasNoMessage}
use Rattle.http_wire.specs.ReadOnWire.{waits}
use Rattle.http_wire.specs.inside.Ahead.{Ahead}
use Rattle.http_wire.specs.inside.HeadLayout.{BeginsHead}
use Rattle.http_wire.specs.HeadText.{head_limit}
use Rattle.http_wire.specs.declared.phase.Phase.TheVariants.{Waiting}
use Rattle.http_wire.specs.inside.Phases.{lacking}
use Rattle.http_wire.specs.inside.Standing.{Fits, Standing, Wants}
use Rattle.http_wire.specs.declared.read.stage.Stage.{Stage}
use Rattle.http_wire.specs.declared.read.stage.Stage.TheVariants.{Head, Body, Pieces}
use Rattle.http_wire.proofs.FindLemmas.{Searching-more, Searching-unfinished, unfinished_short}
use Rattle.http_wire.specs.PiecedBody.{IsTaken}
use Rattle.http_wire.proofs.PieceLemmas.{applied, IsTaken-more, IsTaken-short, IsTaken-unfinished, IsTaken-waits}
use Rattle.http_wire.proofs.NextMessageLemmas.{BeginsHead-more, BeginsHead-short, BreaksMessage-unfinished, IsNextMessage-cut_other, IsNextMessage-cut_patch, IsNextMessage-waits}
use Rattle.http_wire.specs.declared.request_limits.RequestLimits.{RequestLimits}

-- more bytes came
pub Standing-more : (limits : RequestLimits) (start read got said : List ℕ) (old new : Ahead) (s : Stage) → Standing limits (start ++ read) said old s → Fits old s → new.held ≡ old.held ++ got
    → Standing limits (start ++ (read ++ got)) said new s
Standing-more limits start read got said old new (Head s) h fits e = (h.0, Searching-more start read old.held got new.held s h.1 e)
Standing-more limits start read got said old new (Body p) h fits e =
    (h.0, subst (λ i. BeginsHead limits i p new.held) (append_assoc start read got) (BeginsHead-more limits (start ++ read) p old.held got new.held h.1 fits.held e))
Standing-more limits start read got said old new (Pieces b) h fits e =
    (h.0, subst (λ i. IsTaken limits i said h.0 b new.held) (append_assoc start read got) (IsTaken-more limits (start ++ read) got said h.0 b old.held new.held h.1 e))

-- the same bytes are held
pub Standing-kept : (limits : RequestLimits) (bytes said : List ℕ) (old new : Ahead) (s : Stage) → Standing limits bytes said old s → new.held ≡ old.held → Standing limits bytes said new s
Standing-kept limits bytes said old new (Head s) h e = rw e h
Standing-kept limits bytes said old new (Body p) h e = rw e h
Standing-kept limits bytes said old new (Pieces b) h e = rw e h

pub Fits-more : (got : List ℕ) (old new : Ahead) (s : Stage) → Fits old s → new.held ≡ old.held ++ got → new.room ≡ old.room → Fits new s
Fits-more got old new (Head s) fits e room = (fits.0, rw e (omega (arith, length-append old.held got, fits.1)))
Fits-more got old new (Body p) fits e room = record {
  head = fits.head;
  body = fits.body;
  held = rw e (omega (arith, length-append old.held got, fits.held));
  room = rw room fits.room;
  within = fits.within;
}
Fits-more got old new (Pieces b) fits e room = record {
  body = rw room fits.body;
  held = rw e (omega (arith, length-append old.held got, fits.held));
}

pub Wants-unended : (a : Ahead) (s : Stage) → Wants a s → a.ended ≡ false
Wants-unended a (Head s) w = w.unended
Wants-unended a (Body p) w = w.1
Wants-unended a (Pieces b) w = w.1

-- `100 Continue` is due where a client waits
continue-due : (w : Bool) → continue_text true ≡ continue_text w → w ≡ true
continue-due true e = refl
continue-due false e = absurd cc

-- a client that waits is told to go on, and what came is a message that waits
pub Standing-waits : (limits : RequestLimits) (bytes : List ℕ) (a : Ahead) (s : Stage) → Standing limits bytes (continue_text true) a s → (f : NextMessage) × IsNextMessage limits bytes f × (waits f ≡ true)
Standing-waits limits bytes a (Head s) h = absurd (said h.0)
  where
    said : continue_text true ≡ [] → ⊥
    said e = absurd cc
Standing-waits limits bytes a (Body p) h = IsNextMessage-waits limits bytes p a.held h.1 (continue-due p.is_waiting h.0)
Standing-waits limits bytes a (Pieces b) h = IsTaken-waits limits bytes (continue_text true) h.0 b a.held h.1 (continue-due b.layout.is_waiting h.1.waits)

-- where more is needed, there is no message yet
pub Standing-unfinished : (limits : RequestLimits) (bytes said : List ℕ) (a : Ahead) (s : Stage) → Standing limits bytes said a s → Fits a s → Wants a s → HasNoMessage limits bytes
Standing-unfinished limits bytes said a (Head s) h fits wants = elim (BreaksMessage-unfinished limits bytes said h.0 (Searching-unfinished bytes a s h.1 wants)) [
  | inl cut ↦ (cut_other cut.0, cut.2, tt)
  | inr none ↦ (clean_end, none.1, tt)
]
Standing-unfinished limits bytes said a (Body p) h fits wants = by (applied p.method p.fields.checksum)
  where
    by : (b : Bool) × ((head : List ℕ) → is_applied_when_cut p.method (field_at head p.fields.checksum) ≡ b) → HasNoMessage limits bytes
    by (true, is) = (_, IsNextMessage-cut_patch limits bytes p a.held h.1 (record a { lent = a.held }) wants.0 fits.held is refl, tt)
    by (false, is) = (_, IsNextMessage-cut_other limits bytes p a.held h.1 wants.0 fits.held is, tt)
Standing-unfinished limits bytes said a (Pieces b) h fits wants =
    IsTaken-unfinished limits bytes said h.0 b a.held h.1 fits.body.given (omega (arith, wants.0))

-- what holds of what was given, from what held of it
pub IfOk-from : {T E : Type 0} {P Q : T → Type 0} (r : Result T E) → IfOk r P → ((x : T) → P x → Q x) → IfOk r Q
IfOk-from (Ok x) p all = all x p
IfOk-from (Err e) p all = tt

pub IfErr-from : {T E : Type 0} {P Q : E → Type 0} (r : Result T E) → IfErr r P → ((e : E) → P e → Q e) → IfErr r Q
IfErr-from (Ok x) p all = tt
IfErr-from (Err e) p all = all e p

-- what came of a message that needs more, and what its body lacks, are at most a head and the greatest body
pub Standing-few : (limits : RequestLimits) (most : ℕ) (bytes said : List ℕ) (a : Ahead) (s : Stage) → AreWithin limits most → Standing limits bytes said a s → Fits a s → Wants a s → length bytes + lacking a (Waiting s) ≤ head_limit + most
Standing-few limits most bytes said a (Head s) within h fits wants = omega (arith, unfinished_short bytes (Searching-unfinished bytes a s h.1 wants))
Standing-few limits most bytes said a (Body p) within h fits wants = BeginsHead-short limits most bytes p a.held within h.1 fits.held wants.0
Standing-few limits most bytes said a (Pieces b) within h fits wants =
    omega (arith, IsTaken-short limits most bytes said h.0 b a.held within h.1 fits.body.given (omega (arith, wants.0)), fits.body.given)
