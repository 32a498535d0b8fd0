use Rattle.std.proofs.Common.{refl}
use Rattle.dapseq_tool.specs.Frame.{known, unknown}
use Rattle.dapseq_tool.proofs.FrameLemmas.{no_bench_unasked, sound_by}
use Rattle.dapseq_tool.proofs.call.finish.Goals as goal

pub fulfil-requires : goal.fulfil-requires
fulfil-requires g c = sound_by c.args.asked.now c.in-Ok.asked c.in-Ok.is c.requires

pub returns-in-Ok-clause-done : goal.returns-in-Ok-clause-done
returns-in-Ok-clause-done g c = known c.in-Ok.asked c.in-Ok.is c.fulfil.ensures.done

pub returns-in-Ok-clause-keeps : goal.returns-in-Ok-clause-keeps
returns-in-Ok-clause-keeps g c = record {
  identity = c.fulfil.ensures.keeps.identity;
  sink = c.fulfil.ensures.keeps.sink;
  bench = c.fulfil.ensures.keeps.bench;
}

pub returns-in-Err-clause-done : goal.returns-in-Err-clause-done
returns-in-Err-clause-done g c = unknown c.in-Err.end c.in-Err.is c.unasked_status.ensures.unasked refl

pub returns-in-Err-clause-keeps : goal.returns-in-Err-clause-keeps
returns-in-Err-clause-keeps g c = record {
  identity = refl;
  sink = c.unasked_status.ensures.sink;
  bench = no_bench_unasked c.in-Err.end (g.K.Sink.written c.args.sink.now) (g.K.Sink.written c.unasked_status.new.sink) c.unasked_status.result (g.B.Bench.reported c.args.bench).faults
      c.unasked_status.ensures.unasked;
}
