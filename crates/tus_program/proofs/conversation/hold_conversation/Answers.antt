use Rattle.tus_program.proofs.conversation.hold_conversation.Goals as goal

pub returns-in_ok-converse-in-None-clause-known : goal.returns-in_ok-converse-in-None-clause-known
returns-in_ok-converse-in-None-clause-known g c none input before left wrote =
    let known = c.in_ok-converse-in-None.ensures.known input before left wrote in
    (c.in_ok-converse-in-None.field-0, known.0, known.1, known.2)
