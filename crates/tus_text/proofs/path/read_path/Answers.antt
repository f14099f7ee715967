use Rattle.std.proofs.Common.{sym, subst, arith}
use Rattle.std.proofs.lemmas.Grind.{common_steps}
use Rattle.tus_text.specs.Path.{Names, path_of}
use Rattle.tus_text.proofs.PathLemmas.{path_of-Names}
use Rattle.tus_text.proofs.path.read_path.Goals as goal

pub returns-in-Some-clause-value : goal.returns-in-Some-clause-value
unfolding path_of
returns-in-Some-clause-value c = grind (arith, common_steps)

pub returns-in-Some-clause-grammar : goal.returns-in-Some-clause-grammar
returns-in-Some-clause-grammar c =
    subst (λ path. Names c.args.target.now path) (sym (returns-in-Some-clause-value c)) (path_of-Names c.args.target.now)

pub returns-in-None-clause-value : goal.returns-in-None-clause-value
unfolding path_of
returns-in-None-clause-value c = grind (arith, common_steps)

pub returns-in-None-clause-grammar : goal.returns-in-None-clause-grammar
returns-in-None-clause-grammar c =
    subst (λ path. Names c.args.target.now path) (sym (returns-in-None-clause-value c)) (path_of-Names c.args.target.now)
