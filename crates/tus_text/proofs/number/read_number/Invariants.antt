use Rattle.std.proofs.Common.{◌≡◌, ◌<◌, ◌^◌, take}
use Rattle.std.specs.Str.Parse.{AllDigits, digits_value}
use Rattle.tus_text.proofs.number.read_number.Given as goal

-- the bytes so far are digits, of this value
abbrev pub invariant-loop-byte : goal.invariant-loop-byte
invariant-loop-byte l = record {
  digits : AllDigits 10 (take l.byte-index l.text);
  value_is : l.value ≡ digits_value 10 (take l.byte-index l.text);
  fits : l.value < 2 ^ 64;
}
