use Rattle.std.proofs.Common.{◌≡◌}
use Rattle.job_runs.specs.Runs.{AccessKind, access_kind}
use Rattle.dapseq_tool.specs.Headline.{BenchCall, bench_moment}
use Rattle.dapseq_tool.proofs.FrameLemmas.{finished, finished_framed, sound_asked}
use Rattle.dapseq_tool.proofs.call.make_call.Goals as goal

pub finish-over-requires : goal.finish-over-requires
finish-over-requires g c = sound_asked c.args.words.now (g.S.Source.left c.args.source.now) c.ask-asked.result c.ask-asked.ensures.asked

pub returns-clause-asked : goal.returns-clause-asked
returns-clause-asked g c =
    let call : BenchCall = record {
      words = c.args.words.now;
      old = bench_moment g.S.Source.left g.S.Source.faults g.K.Sink.written g.K.Sink.faults g.B.Bench.reported g.B.Bench.state c.args.source.now c.args.sink.now c.args.bench;
      new = bench_moment g.S.Source.left g.S.Source.faults g.K.Sink.written g.K.Sink.faults g.B.Bench.reported g.B.Bench.state c.ask-asked.new.source c.finish-over.new.sink c.finish-over.result.bench;
      end = c.finish-over.result.status;
    } in
    let access : AccessKind = access_kind g.A.Access.journal g.A.Access.cost g.A.Access.is_sparing in
    finished access call (c.ask-asked.new.source ≡ c.args.source.now) (c.finish-over.result.bench ≡ c.args.bench) c.ask-asked.result c.ask-asked.ensures.asked c.ask-asked.ensures.source c.finish-over.ensures.done

pub returns-clause-frame : goal.returns-clause-frame
returns-clause-frame g c =
    let call : BenchCall = record {
      words = c.args.words.now;
      old = bench_moment g.S.Source.left g.S.Source.faults g.K.Sink.written g.K.Sink.faults g.B.Bench.reported g.B.Bench.state c.args.source.now c.args.sink.now c.args.bench;
      new = bench_moment g.S.Source.left g.S.Source.faults g.K.Sink.written g.K.Sink.faults g.B.Bench.reported g.B.Bench.state c.ask-asked.new.source c.finish-over.new.sink c.finish-over.result.bench;
      end = c.finish-over.result.status;
    } in
    let access : AccessKind = access_kind g.A.Access.journal g.A.Access.cost g.A.Access.is_sparing in
    finished_framed access call (c.ask-asked.new.source ≡ c.args.source.now) (c.finish-over.result.bench ≡ c.args.bench) c.ask-asked.result c.ask-asked.ensures.asked c.ask-asked.ensures.source
    c.ask-asked.ensures.unread c.ask-asked.ensures.taken c.ask-asked.ensures.fault c.finish-over.ensures.keeps.sink c.finish-over.ensures.keeps.bench c.finish-over.ensures.done

pub returns-clause-identity : goal.returns-clause-identity
returns-clause-identity g c = c.finish-over.ensures.keeps.identity
