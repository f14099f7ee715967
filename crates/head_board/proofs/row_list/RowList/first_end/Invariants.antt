use Rattle.std.proofs.Common.{take}
use Rattle.std.specs.List.{All}
use Rattle.upload_book.specs.TenantBook.{Entry}
use Rattle.head_board.specs.inside.BoardRow.{BoardRow}
use Rattle.head_board.specs.inside.Rows.{IsNotBefore}
use Rattle.head_board.proofs.row_list.RowList.first_end.Given as goal

-- the rows before this one do not end before the first
abbrev pub invariant-loop-row : goal.invariant-loop-row
invariant-loop-row l = All (λ (e : Entry BoardRow). IsNotBefore l.first e.kept.row.expires) (take l.row-index l.initial.row-items)
