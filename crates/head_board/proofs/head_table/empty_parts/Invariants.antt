use Rattle.std.proofs.Common.{◌≡◌, length, map, take, vec_len, vec_capacity}
use Rattle.std.specs.List.{All}
use Rattle.upload_book.specs.Heads.{HeadPart}
use Rattle.head_board.specs.inside.Rows.{Rows}
use Rattle.head_board.specs.inside.HeadTable.{opening_parts}
use Rattle.head_board.proofs.head_table.empty_parts.Given as goal

-- each tenant so far has a part, and there is room for those of the others
abbrev pub invariant-loop-tenant : goal.invariant-loop-tenant
invariant-loop-tenant l = record {
  room : vec_capacity l.parts ≡ length l.settings.tenants;
  some : vec_len l.parts ≡ l.tenant;
  opening : map {A = Rows} {B = HeadPart} (λ r. r.part) l.parts.items ≡ opening_parts (take l.tenant l.settings.tenants);
  roomy : All (λ (r : Rows). r.room ≡ l.settings.numbers.uploads) l.parts.items;
}
