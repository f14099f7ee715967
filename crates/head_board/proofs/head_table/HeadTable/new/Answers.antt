use Rattle.std.proofs.Common.{◌≡◌, subst, sym}
use Rattle.std.specs.List.{All}
use Rattle.upload_book.specs.Settings.{Settings}
use Rattle.head_board.specs.inside.Rows.{Rows}
use Rattle.head_board.proofs.BoundLemmas.{bounded-opening}
use Rattle.head_board.proofs.TableLemmas.{opening-table}
use Rattle.head_board.proofs.head_table.HeadTable.new.Goals as goal

pub returns : goal.returns
returns c = opening-table c.args.settings.now c.copied.result c.in_ok-empty_parts.field-0.items c.copied.ensures c.in_ok-empty_parts.ensures.parts

pub invariant_of-result : goal.invariant_of-result
invariant_of-result c = record {
  room = subst (λ (s : Settings). All (λ (r : Rows). r.room ≡ s.numbers.uploads) c.in_ok-empty_parts.field-0.items) (sym c.copied.ensures) c.in_ok-empty_parts.ensures.room;
  bound = bounded-opening c.args.settings.now.tenants c.in_ok-empty_parts.field-0.items c.in_ok-empty_parts.ensures.parts;
}
