use Rattle.std.proofs.Common.{◌∙◌, arith}
use Rattle.std.proofs.lemmas.Bool.Decides.{nat_tests}
use Rattle.http_wire.proofs.FileLemmas.{valid-text}
use Rattle.http_wire.proofs.write.file.is_file_name.Goals as goal

pub returns-then-name-le-FILE_NAME_MAX : goal.returns-then-name-le-FILE_NAME_MAX
returns-then-name-le-FILE_NAME_MAX c =
    let valid = c.is_ok.ensures.value ∙ valid-text c.args.name.now _ _ c.from_utf8.result c.from_utf8.ensures.cases in
    grind (arith, nat_tests)
