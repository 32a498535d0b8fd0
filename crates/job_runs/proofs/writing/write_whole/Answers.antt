use Rattle.job_runs.proofs.TextLemmas.{differs_whole}
use Rattle.job_runs.proofs.writing.write_whole.Goals as goal

pub returns-in-Differs-clause-text : goal.returns-in-Differs-clause-text
returns-in-Differs-clause-text g c =
    differs_whole _ _ _ c.differs_text.result c.args.is_traced c.args.ran.now.ended c.args.ran.now.close c.in-Differs.address c.in-Differs.wanted c.in-Differs.found c.args.ran.now.sent c.args.ran.now.got c.args.job.now
    c.in-Differs.is c.differs_text.ensures.puts.text
