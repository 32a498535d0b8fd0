use Rattle.dapseq_tool.proofs.answering.write_head.Goals as goal

pub returns-in-Some-clause-puts : goal.returns-in-Some-clause-puts
returns-in-Some-clause-puts g c = rw c.in-Some.is (c.put_line.ensures.puts _ c.head_line.ensures)
