use Rattle.tus_text_tests.proofs.plain.cut.+part_at.Given as goal

abbrev pub decreases-part_at : goal.decreases-part_at
decreases-part_at l = l.number
