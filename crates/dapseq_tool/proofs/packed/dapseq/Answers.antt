use Rattle.dapseq_tool.proofs.BadLemmas.{bad_reply}
use Rattle.dapseq_tool.proofs.SuccessLemmas.{success}
use Rattle.dapseq_tool.proofs.packed.dapseq.Goals as goal

pub returns-clause-asked : goal.returns-clause-asked
returns-clause-asked g c = c.call_lent.ensures.asked

pub returns-clause-success : goal.returns-clause-success
returns-clause-success g c = success _ _ _ c.call_lent.ensures.asked (record { write = c.call_lent.ensures.frame.sink.cause; bench = c.call_lent.ensures.frame.bench.cause })

pub returns-clause-bad_reply : goal.returns-clause-bad_reply
returns-clause-bad_reply g c = λ is. bad_reply _ _ _ c.call_lent.ensures.asked is

pub returns-clause-usage : goal.returns-clause-usage
returns-clause-usage g c = c.call_lent.ensures.frame.usage

pub returns-clause-usage_only : goal.returns-clause-usage_only
returns-clause-usage_only g c = c.call_lent.ensures.frame.usage_only

pub returns-clause-unread : goal.returns-clause-unread
returns-clause-unread g c = c.call_lent.ensures.frame.unread

pub returns-clause-taken : goal.returns-clause-taken
returns-clause-taken g c = c.call_lent.ensures.frame.taken

pub returns-clause-bench_only_in_run : goal.returns-clause-bench_only_in_run
returns-clause-bench_only_in_run g c = c.call_lent.ensures.frame.bench_only_in_run

pub returns-clause-refusal_keeps_bench : goal.returns-clause-refusal_keeps_bench
returns-clause-refusal_keeps_bench g c = c.call_lent.ensures.frame.refusal_keeps_bench

pub returns-clause-read_fault_keeps_bench : goal.returns-clause-read_fault_keeps_bench
returns-clause-read_fault_keeps_bench g c = c.call_lent.ensures.frame.read_fault_keeps_bench

pub returns-clause-source_fault_keeps_bench : goal.returns-clause-source_fault_keeps_bench
returns-clause-source_fault_keeps_bench g c = c.call_lent.ensures.frame.source_fault_keeps_bench

pub returns-clause-read : goal.returns-clause-read
returns-clause-read g c = c.call_lent.ensures.frame.read

pub returns-clause-write : goal.returns-clause-write
returns-clause-write g c = c.call_lent.ensures.frame.sink.cause

pub returns-clause-bench : goal.returns-clause-bench
returns-clause-bench g c = c.call_lent.ensures.frame.bench.cause

pub returns-clause-source_counted : goal.returns-clause-source_counted
returns-clause-source_counted g c = c.call_lent.ensures.frame.source_counted

pub returns-clause-sink_counted : goal.returns-clause-sink_counted
returns-clause-sink_counted g c = c.call_lent.ensures.frame.sink.counted

pub returns-clause-bench_counted : goal.returns-clause-bench_counted
returns-clause-bench_counted g c = c.call_lent.ensures.frame.bench.counted
