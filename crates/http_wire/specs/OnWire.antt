-- A wire as its callers see it.
use Rattle.std.specs.Prelude.{ℕ, Bool, List, refl}
use Rattle.std.specs.Coded.{Coded, code_by, coded×, coded_ℕ, coded_bool, coded_list}

-- its reader and its writer, the bytes that were read and belong to no message yet, whether the reader gave its end, the most
-- bytes of a body, and whether it still reads and still writes
pub record OnWire (R W : Type 0) : Type 0 where
  pub reader : R
  pub writer : W
  pub held : List ℕ
  pub ended : Bool
  pub max_size : ℕ
  pub reads : Bool
  pub writes : Bool

-- a wire is told from another by these
module _ {R W : Type 0} where
  abbrev pub wire_code : Coded R → Coded W → Coded (OnWire R W)
  wire_code reader writer =
      code_by (R × (W × (List ℕ × (Bool × (ℕ × (Bool × Bool))))))
      (coded× reader (coded× writer (coded× (coded_list coded_ℕ) (coded× coded_bool (coded× coded_ℕ (coded× coded_bool coded_bool))))))
      (λ w. (w.reader, (w.writer, (w.held, (w.ended, (w.max_size, (w.reads, w.writes)))))))
      (λ p. record { reader = p.0; writer = p.1.0; held = p.1.1.0; ended = p.1.1.1.0; max_size = p.1.1.1.1.0; reads = p.1.1.1.1.1.0; writes = p.1.1.1.1.1.1 })
      (λ _. refl)
