use Rattle.std.proofs.Common.{rules, tests}
use Rattle.std.proofs.lemmas.Iterator.{YieldsList-from_slice}
use Rattle.std.proofs.lemmas.Iterator.Search.{all_from_yields_List}
use Rattle.http_wire.specs.File.{is_quotable}
use Rattle.http_wire.proofs.write.file.are_quotable.Goals as goal

pub returns : goal.returns
returns c = all_from_yields_List is_quotable _ _ c.all.result c.all.ensures.ran (YieldsList-from_slice c.args.name.now cc) (λ x b q k. search (rules, tests))
