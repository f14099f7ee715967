-- Two texts that were written one after the other, or broke off.
use Rattle.std.proofs.Common.{◌≡◌, ℕ, ◌+◌, ◌≤◌, Bool, true, false, List, [], ◌∷◌, ◌++◌, length, take, Option, Err, refl, sym, ap, subst, arith, length-append, zero-add, suc-add}
use Rattle.std.proofs.lemmas.List.{take-append-le}
use Rattle.std.specs.Io.KnownBytes.{Appends}
use Rattle.http_wire.proofs.AheadLemmas.{Appends-more}
use Rattle.http_wire.specs.Writes.{Writes}
use Rattle.http_wire.specs.declared.fault.WireFault.{WireFault}
use Rattle.journal_folders.specs.StreamUse.{WritesOrFails}

-- what is taken past a text
take_past : (xs ys : List ℕ) (n : ℕ) → take (length xs + n) (xs ++ ys) ≡ xs ++ take n ys
take_past [] ys n = rw zero-add refl
take_past (x ∷ xs) ys n = rw suc-add (ap (λ (rest : List ℕ). x ∷ rest) (take_past xs ys n))

-- a text that was written, and then another or a prefix of it
pub written_after : (before between after : Option (List ℕ)) (failed : Bool) (first second : List ℕ) → Appends before between first → WritesOrFails between after failed second
    → WritesOrFails before after failed (first ++ second)
unfolding WritesOrFails
written_after before between after false first second whole h = Appends-more _ _ _ _ _ whole h
written_after before between after true first second whole (n, within, prefix) = (
  length first + n,
  rw length-append (omega (arith, within)),
  subst (Appends before after) (sym (take_past first second n)) (Appends-more _ _ _ _ _ whole prefix),
)

-- a prefix of a text is one of it and another
pub written_within : {T : Type 0} (before after : Option (List ℕ)) (failed : Bool) (first second : List ℕ) (e : WireFault) → Writes {T = T} before after failed first (Err e)
    → WritesOrFails before after failed (first ++ second)
unfolding WritesOrFails
written_within before after failed first second e h =
    let (n, within, prefix) = h.prefix in
    subst (λ f. WritesOrFails before after f (first ++ second)) (sym h.failed)
    (n, rw length-append (omega (arith, within)), subst (Appends before after) (sym (take-append-le n first second within)) prefix)
