use Rattle.text_lines.specs.declared.putting.TextError.TheVariants as errors
use Rattle.text_lines.proofs.PutLemmas.{puts_after, puts_first}
use Rattle.log_tool.proofs.answering.write_log.Goals as goal

pub returns-in-Ok : goal.returns-in-Ok
returns-in-Ok g c = record {
  puts = puts_after errors.Failed g.K.Sink.written g.K.Sink.faults _ _ _ tt _ c.args.log.now.log.text c.args.log.now.last (rw c.as_bytes.ensures at c.in-Ok.ensures.puts)
      (rw c.as_bytes-in-Ok.ensures at c.put_text-in-Ok.ensures.puts);
}

pub returns-in-Err : goal.returns-in-Err
returns-in-Err g c = record {
  puts = puts_first errors.Failed g.K.Sink.written g.K.Sink.faults _ _ _ c.args.log.now.log.text c.args.log.now.last (rw c.as_bytes.ensures at c.in-Err.ensures.puts);
}
