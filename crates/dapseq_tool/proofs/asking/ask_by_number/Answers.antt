use Rattle.dapseq_tool.proofs.asking.ask_by_number.Goals as goal

pub returns-clause-asked : goal.returns-clause-asked
returns-clause-asked c = rw (c.in_ok-new.ensures, c.as_bytes.ensures, c.in_ok-text.ensures) at c.ask_for_run.ensures.asked
