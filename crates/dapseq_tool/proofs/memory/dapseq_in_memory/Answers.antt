use Rattle.std.proofs.Common.{◌≡◌, ◌∙◌, ℕ, List, Some, ap, inl, inr, refl, subst, sym}
use Rattle.dap_base.specs.Memory.{SourceState, SinkState}
use Rattle.probe_core.specs.Memory.{IsBeforeLoad, MemoryBenchState, reported_of}
use Rattle.dapseq_tool.specs.Headline.{BenchCall, BenchMoment, bench_moment}
use Rattle.dapseq_tool.specs.declared.memory.InMemory.{InMemory}
use Rattle.dapseq_tool.proofs.MemoryLemmas.{done_in_memory, quiet_zero, quiet_sink}
use Rattle.dapseq_tool.proofs.memory.dapseq_in_memory.Goals as goal
use Rattle.dapseq_tool.specs.Packed.{packed_kind}

-- what is known of objects in memory
abbrev at : SourceState → SinkState → MemoryBenchState → BenchMoment
at source sink bench = bench_moment (λ (s : SourceState). Some s.left) (λ s. 0) (λ (k : SinkState). Some k.written) (λ (k : SinkState). k.faults) reported_of (λ (b : MemoryBenchState). Some b.state) source sink bench

-- a bench that stayed as it was made
before_load : (made : MemoryBenchState) → IsBeforeLoad made → (b : MemoryBenchState) → b ≡ made → IsBeforeLoad b
before_load made is b same = subst IsBeforeLoad (sym same) is

pub returns-clause-unloaded : goal.returns-clause-unloaded
returns-clause-unloaded c none =
    elim c.dapseq-status.ensures.bench_only_in_run [ inl same ↦ before_load _ c.new-bench.ensures _ same | inr line ↦ absurd (none line) ]

pub returns-clause-refused : goal.returns-clause-refused
returns-clause-refused c refused =
    before_load _ c.new-bench.ensures _ (c.dapseq-status.ensures.refusal_keeps_bench refused)

pub returns-clause-done : goal.returns-clause-done
returns-clause-done c =
    let call : BenchCall = record {
      words = c.args.words.now;
      old = at c.in_ok-source.source c.in_ok-sink.sink c.new-bench.result;
      new = at c.dapseq-status.new.source c.dapseq-status.new.sink c.dapseq-status.new.bench;
      end = c.dapseq-status.result;
    } in
    let end : InMemory = record { status = c.dapseq-status.result; sink = c.dapseq-status.new.sink; bench = c.dapseq-status.new.bench } in
    let none = ap (λ (k : SinkState). k.faults) c.in_ok-sink.ensures in
    let done = c.dapseq-status.ensures.success (record {
      source = quiet_zero 0 0 refl refl;
      sink = quiet_sink _ _ _ none c.dapseq-status.ensures.sink_counted c.if-is_out_of_room.ensures.1;
      bench = quiet_zero 0 0 refl refl;
      memory = c.if-is_out_of_room.ensures.0;
    }) refl in
    done_in_memory packed_kind c.args.words.now c.args.bytes.now end call (record {
      words_are = refl;
      bytes_are = ap Some c.in_ok-source.ensures;
      empty = ap (λ (k : SinkState). Some k.written) c.in_ok-sink.ensures;
      written = refl;
      bench = refl;
      status = refl;
    }) done.0 done.1 done.2 done.3 done.4
