use Rattle.job_text.proofs.bench.only_bench_keys.Goals as goal

pub returns : goal.returns
returns c = c.only_keys_of.ensures
