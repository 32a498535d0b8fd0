use Rattle.std.proofs.Common.{refl}
use Rattle.dapseq_tool.specs.Frame.{memory, source}
use Rattle.dapseq_tool.specs.declared.status.Status.TheVariants as status
use Rattle.dapseq_tool.proofs.FrameLemmas.{none_of_sink}
use Rattle.dapseq_tool.proofs.call.unasked_status.Goals as goal

pub returns-in-OutOfMemory-clause-unasked : goal.returns-in-OutOfMemory-clause-unasked
returns-in-OutOfMemory-clause-unasked g c = memory c.in-OutOfMemory.is refl refl

pub returns-in-OutOfMemory-clause-sink : goal.returns-in-OutOfMemory-clause-sink
returns-in-OutOfMemory-clause-sink g c = none_of_sink (g.K.Sink.faults c.args.sink.now) status.OutOfMemory (λ is. cc is)

pub returns-in-ReadFault-clause-unasked : goal.returns-in-ReadFault-clause-unasked
returns-in-ReadFault-clause-unasked g c = source c.in-ReadFault.is c.read_fault.ensures.text c.read_fault.ensures.ends

pub returns-in-ReadFault-clause-sink : goal.returns-in-ReadFault-clause-sink
returns-in-ReadFault-clause-sink g c = c.read_fault.ensures.sink
