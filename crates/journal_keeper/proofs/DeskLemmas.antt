-- What a desk is after it was told what is kept.
use Rattle.std.proofs.Common.{◌≡◌, ◌⊎◌, ℕ, Bool, List, Option, refl, sym, ap, ◌∙◌, inl, inr}
use Rattle.std.specs.Coded.{Coded, code_by, coded_bool, coded_list, coded_option, coded_ℕ, coded×}
use Rattle.std.proofs.Math.Decide.{ℕ_discrete}
use base.Stored.{Gv, gnil, gnum, gcons}
use mathlib.Core.List.{IsPrefix}
use Rattle.head_board.specs.contracts.event.Event.{the_row}
use Rattle.head_board.specs.Event.{Event}
use Rattle.tus_shared.specs.Desk.{Desk}

-- ---- values that have a code are the same, or are not

same_num : (m n : ℕ) → Dec (m ≡ n) → (gnum m ≡ gnum n) ⊎ ¬ (gnum m ≡ gnum n)
same_num m n (yes is) = inl (ap gnum is)
same_num m n (no isn't) = inr (λ is. isn't (cc is))

same_pair : (a b c d : Gv) → (a ≡ c) ⊎ ¬ (a ≡ c) → (b ≡ d) ⊎ ¬ (b ≡ d) → (gcons a b ≡ gcons c d) ⊎ ¬ (gcons a b ≡ gcons c d)
same_pair a b c d (inl first) (inl second) = inl (cc (first, second))
same_pair a b c d (inl first) (inr other) = inr (λ is. other (cc is))
same_pair a b c d (inr other) second = inr (λ is. other (cc is))

same_code : (a b : Gv) → (a ≡ b) ⊎ ¬ (a ≡ b)
same_code gnil gnil = inl refl
same_code gnil (gnum n) = inr (λ is. absurd (cc is))
same_code gnil (gcons c d) = inr (λ is. absurd (cc is))
same_code (gnum m) gnil = inr (λ is. absurd (cc is))
same_code (gnum m) (gnum n) = same_num m n (ℕ_discrete m n)
same_code (gnum m) (gcons c d) = inr (λ is. absurd (cc is))
same_code (gcons a b) gnil = inr (λ is. absurd (cc is))
same_code (gcons a b) (gnum n) = inr (λ is. absurd (cc is))
same_code (gcons a b) (gcons c d) = same_pair a b c d (same_code a c) (same_code b d)

-- so what can't be otherwise is so
stable : {A : Type 0} (c : Coded A) (x y : A) → ¬ ¬ (x ≡ y) → x ≡ y
stable c x y not_other = by_code (same_code (c.code x) (c.code y))
  where
    by_code : (c.code x ≡ c.code y) ⊎ ¬ (c.code x ≡ c.code y) → x ≡ y
    by_code (inl is) = c.inj x y is
    by_code (inr other) = absurd (not_other (λ is. other (ap c.code is)))

-- ---- desks

coded_events : Coded (List Event)
coded_events = coded_list the_row.coded

abbrev Parts : Type 0
Parts = ℕ × (Option ℕ × (ℕ × (ℕ × (ℕ × (List Event × (List Event × (ℕ × (Bool × ℕ))))))))

coded_desk : Coded Desk
coded_desk = code_by Parts
    (coded× coded_ℕ (coded× (coded_option coded_ℕ) (coded× coded_ℕ (coded× coded_ℕ (coded× coded_ℕ (coded× coded_events (coded× coded_events (coded× coded_ℕ (coded× coded_bool coded_ℕ)))))))))
    (λ d. (d.number, (d.journal, (d.charged, (d.released, (d.made, (d.seen, (d.kept, (d.room, (d.missed, d.steps))))))))))
    (λ p. record {
      number = p.0;
      journal = p.1.0;
      charged = p.1.1.0;
      released = p.1.1.1.0;
      made = p.1.1.1.1.0;
      seen = p.1.1.1.1.1.0;
      kept = p.1.1.1.1.1.1.0;
      room = p.1.1.1.1.1.1.1.0;
      missed = p.1.1.1.1.1.1.1.1.0;
      steps = p.1.1.1.1.1.1.1.1.1;
    })
    (λ d. refl)

told_on : (old new : Desk) (kept : List Event) → new ≡ record old { kept = kept } → new ≡ record old { kept = new.kept }
told_on old new kept is = is ∙ ap (λ (events : List Event). record old { kept = events }) (sym (ap (λ (d : Desk). d.kept) is))

-- it is as it was, but for what it knows to be kept
pub only-told : (old new : Desk) (kept : List Event) → (IsPrefix old.kept kept → new ≡ record old { kept = kept }) → (¬ (IsPrefix old.kept kept) → new ≡ old) → new ≡ record old { kept = new.kept }
only-told old new kept learns stays =
    stable coded_desk new (record old { kept = new.kept }) (λ other. other (told_on old new old.kept (stays (λ begins. other (told_on old new kept (learns begins))))))

pub same-seen : (old new : Desk) (kept : List Event) → (IsPrefix old.kept kept → new ≡ record old { kept = kept }) → (¬ (IsPrefix old.kept kept) → new ≡ old) → new.seen ≡ old.seen
same-seen old new kept learns stays = ap (λ (d : Desk). d.seen) (only-told old new kept learns stays)
