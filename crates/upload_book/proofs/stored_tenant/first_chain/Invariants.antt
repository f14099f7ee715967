use Rattle.std.proofs.Common.{◌≡◌, drop}
use Rattle.std.specs.List.{flat_map}
use Rattle.upload_book.specs.inside.FinalBack.{chain_from}
use Rattle.upload_book.proofs.Store.Pieces.{kept_pieces}
use Rattle.upload_book.proofs.stored_tenant.first_chain.Given as goal

-- what is found in the rest is what is found in all
abbrev pub invariant-loop-place : goal.invariant-loop-place
invariant-loop-place l =
    chain_from (flat_map kept_pieces (drop l.place l.uploads)) l.origin ≡ chain_from (flat_map kept_pieces l.uploads) l.origin
