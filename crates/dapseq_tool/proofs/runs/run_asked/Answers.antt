use Rattle.std.proofs.Common.{◌∙◌, inl, inr, refl}
use Rattle.access_calls.specs.Causes.{code_of_cause}
use Rattle.dapseq_tool.specs.RunEnds.{not_loaded, ran}
use Rattle.dapseq_tool.specs.declared.status.Status.TheVariants as status
use Rattle.dapseq_tool.proofs.FrameLemmas.{none_of_sink}
use Rattle.dapseq_tool.proofs.RunLemmas.{bad_before, bench_after, got_before, load_failed, load_refused, loaded_state}
use Rattle.dapseq_tool.proofs.runs.run_asked.Goals as goal

pub returns-in-Ok-clause-run : goal.returns-in-Ok-clause-run
returns-in-Ok-clause-run g c =
    let h = c.run_loaded.ensures.run in
    let job = c.args.run.now.valid.job.bench in
    ran h.0 (record {
      comes = λ some. h.1.comes (loaded_state job (g.B.Bench.state c.args.bench) (g.B.Bench.state c.load.new.self) some c.in-Ok.ensures.state);
      alone = h.1.alone;
      lines = h.1.lines;
      front = h.1.front;
      status = h.1.status;
      nothing = h.1.nothing;
      unclosed = h.1.unclosed;
      cut = λ report cut. got_before (code_of_cause report.cause) (g.B.Bench.reported c.args.bench) (g.B.Bench.reported c.load.new.self) (g.B.Bench.reported c.run_loaded.result.bench) job
          c.in-Ok.ensures.reported (h.1.cut report cut);
      bad = λ bad. bad_before (g.B.Bench.reported c.args.bench) (g.B.Bench.reported c.load.new.self) (g.B.Bench.reported c.run_loaded.result.bench) job h.0.sent h.0.got
          c.in-Ok.ensures.reported (h.1.bad bad);
    })

pub returns-in-Ok-clause-keeps : goal.returns-in-Ok-clause-keeps
returns-in-Ok-clause-keeps g c = record {
  identity = c.run_loaded.ensures.keeps.identity ∙ c.load.ensures.identity;
  sink = c.run_loaded.ensures.keeps.sink;
  bench = bench_after (g.B.Bench.reported c.args.bench).faults (g.B.Bench.reported c.load.new.self).faults (g.B.Bench.reported c.run_loaded.result.bench).faults c.run_loaded.result.status
      c.in-Ok.ensures.cause.ok c.run_loaded.ensures.keeps.bench;
  among = c.run_loaded.ensures.keeps.among;
}

pub returns-in-Err-Failed-clause-run : goal.returns-in-Err-Failed-clause-run
returns-in-Err-Failed-clause-run g c = not_loaded (inl refl) refl c.in-Err-Failed.ensures.failed.state

pub returns-in-Err-Failed-clause-keeps : goal.returns-in-Err-Failed-clause-keeps
returns-in-Err-Failed-clause-keeps g c = record {
  identity = c.load.ensures.identity;
  sink = none_of_sink (g.K.Sink.faults c.args.sink.now) status.BenchFault (λ is. cc is);
  bench = load_failed c.in-Err-Failed.field-0 (g.B.Bench.reported c.args.bench).faults (g.B.Bench.reported c.load.new.self).faults c.in-Err-Failed.field-0-is c.in-Err-Failed.ensures.cause;
  among = tt;
}

pub returns-in-Err-OutOfMemory-clause-run : goal.returns-in-Err-OutOfMemory-clause-run
returns-in-Err-OutOfMemory-clause-run g c = not_loaded (inr refl) refl c.in-Err-OutOfMemory.ensures.failed.state

pub returns-in-Err-OutOfMemory-clause-keeps : goal.returns-in-Err-OutOfMemory-clause-keeps
returns-in-Err-OutOfMemory-clause-keeps g c = record {
  identity = c.load.ensures.identity;
  sink = none_of_sink (g.K.Sink.faults c.args.sink.now) status.OutOfMemory (λ is. cc is);
  bench = load_refused c.in-Err-OutOfMemory.field-0 (g.B.Bench.reported c.args.bench).faults (g.B.Bench.reported c.load.new.self).faults c.in-Err-OutOfMemory.field-0-is c.in-Err-OutOfMemory.ensures.cause;
  among = tt;
}
