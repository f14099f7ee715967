use Rattle.tus_program.proofs.ServeLemmas.{ServeEnds-from}
use Rattle.tus_program.proofs.serve.serve.Goals as goal

pub returns : goal.returns
returns g c =
    ServeEnds-from _ _ _ c.in_ok-settings.settings c.serve_with.result c.in_ok-settings.ensures.settings c.in_ok-check_ports.ensures.apart c.serve_with.ensures.fault c.serve_with.ensures.memory c.serve_with.ensures.wire c.serve_with.ensures.all
