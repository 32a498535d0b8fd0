use Rattle.dapseq_tool.proofs.call.dapseq_over.Goals as goal

pub returns-clause-asked : goal.returns-clause-asked
returns-clause-asked g c = c.make_call.ensures.asked

pub returns-clause-usage : goal.returns-clause-usage
returns-clause-usage g c = c.make_call.ensures.frame.usage

pub returns-clause-usage_only : goal.returns-clause-usage_only
returns-clause-usage_only g c = c.make_call.ensures.frame.usage_only

pub returns-clause-unread : goal.returns-clause-unread
returns-clause-unread g c = c.make_call.ensures.frame.unread

pub returns-clause-taken : goal.returns-clause-taken
returns-clause-taken g c = c.make_call.ensures.frame.taken

pub returns-clause-bench_only_in_run : goal.returns-clause-bench_only_in_run
returns-clause-bench_only_in_run g c = c.make_call.ensures.frame.bench_only_in_run

pub returns-clause-refusal_keeps_bench : goal.returns-clause-refusal_keeps_bench
returns-clause-refusal_keeps_bench g c = c.make_call.ensures.frame.refusal_keeps_bench

pub returns-clause-read_fault_keeps_bench : goal.returns-clause-read_fault_keeps_bench
returns-clause-read_fault_keeps_bench g c = c.make_call.ensures.frame.read_fault_keeps_bench

pub returns-clause-source_fault_keeps_bench : goal.returns-clause-source_fault_keeps_bench
returns-clause-source_fault_keeps_bench g c = c.make_call.ensures.frame.source_fault_keeps_bench

pub returns-clause-identity : goal.returns-clause-identity
returns-clause-identity g c = c.make_call.ensures.identity

pub returns-clause-read : goal.returns-clause-read
returns-clause-read g c = c.make_call.ensures.frame.read

pub returns-clause-write : goal.returns-clause-write
returns-clause-write g c = c.make_call.ensures.frame.sink.cause

pub returns-clause-bench : goal.returns-clause-bench
returns-clause-bench g c = c.make_call.ensures.frame.bench.cause

pub returns-clause-source_counted : goal.returns-clause-source_counted
returns-clause-source_counted g c = c.make_call.ensures.frame.source_counted

pub returns-clause-sink_counted : goal.returns-clause-sink_counted
returns-clause-sink_counted g c = c.make_call.ensures.frame.sink.counted

pub returns-clause-bench_counted : goal.returns-clause-bench_counted
returns-clause-bench_counted g c = c.make_call.ensures.frame.bench.counted
