use Rattle.std.proofs.Common.{◌≡◌, ◌⊎◌, inl, inr, subst, sym}
use Rattle.dapseq_tool.specs.Headline.{FailsPutting}
use Rattle.dapseq_tool.specs.declared.status.Status.TheVariants as status
use Rattle.dapseq_tool.proofs.FrameLemmas.{failed_counts, failed_fails, own_no_fault, sink_same}
use Rattle.dapseq_tool.proofs.call.answer.Goals as goal

pub returns-in-Ok-clause-text : goal.returns-in-Ok-clause-text
returns-in-Ok-clause-text g c = inl (c.status_of.ensures, c.in-Ok.ensures.puts.text)

pub returns-in-Ok-clause-sink : goal.returns-in-Ok-clause-sink
returns-in-Ok-clause-sink g c =
    sink_same (g.K.Sink.faults c.args.sink.now) (g.K.Sink.faults c.write_answer.new.sink) c.status_of.result c.in-Ok.ensures.puts.sink.else
    (own_no_fault c.args.answer.now c.status_of.result c.status_of.ensures)

pub returns-in-Err-clause-text : goal.returns-in-Err-clause-text
returns-in-Err-clause-text g c = inr (failed_fails c.in-Err.end c.failed_status.result c.failed_status.ensures, c.in-Err.ensures.puts.text)

pub returns-in-Err-clause-sink : goal.returns-in-Err-clause-sink
returns-in-Err-clause-sink g c =
    failed_counts c.in-Err.end c.failed_status.result (g.K.Sink.faults c.args.sink.now) (g.K.Sink.faults c.write_answer.new.sink) c.failed_status.ensures c.in-Err.ensures.puts.sink
