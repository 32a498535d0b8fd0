use Rattle.std.proofs.Common.{refl}
use Rattle.dapseq_tool.specs.Frame.{not_headed, performed}
use Rattle.dapseq_tool.proofs.FrameLemmas.{failed_counts, failed_fails, putting_no_bench, sink_after}
use Rattle.dapseq_tool.proofs.call.fulfil.Goals as goal

pub perform-requires : goal.perform-requires
perform-requires g c = c.requires

pub returns-in-Ok-clause-done : goal.returns-in-Ok-clause-done
returns-in-Ok-clause-done g c = performed (g.K.Sink.written c.write_head.new.sink) c.in-Ok.ensures.puts.text c.perform.ensures.does c.perform.ensures.status

pub returns-in-Ok-clause-keeps : goal.returns-in-Ok-clause-keeps
returns-in-Ok-clause-keeps g c = record {
  identity = c.perform.ensures.keeps.identity;
  sink = sink_after (g.K.Sink.faults c.args.sink.now) (g.K.Sink.faults c.write_head.new.sink) (g.K.Sink.faults c.perform.new.sink) c.perform.result.status c.in-Ok.ensures.puts.sink.else c.perform.ensures.keeps.sink;
  bench = c.perform.ensures.keeps.bench;
}

pub returns-in-Err-clause-done : goal.returns-in-Err-clause-done
returns-in-Err-clause-done g c = not_headed c.in-Err.ensures.some (failed_fails c.in-Err.end c.failed_status.result c.failed_status.ensures) c.in-Err.ensures.puts.text refl

pub returns-in-Err-clause-keeps : goal.returns-in-Err-clause-keeps
returns-in-Err-clause-keeps g c = record {
  identity = refl;
  sink = failed_counts c.in-Err.end c.failed_status.result (g.K.Sink.faults c.args.sink.now) (g.K.Sink.faults c.write_head.new.sink) c.failed_status.ensures c.in-Err.ensures.puts.sink;
  bench = putting_no_bench (g.B.Bench.reported c.args.bench).faults c.failed_status.result (failed_fails c.in-Err.end c.failed_status.result c.failed_status.ensures);
}
