use Rattle.std.proofs.Common.{◌≡◌, ap, rules, subst}
use Rattle.dapseq_tool.specs.Frame.{IsCall}
use Rattle.dapseq_tool.specs.Headline.{bench_moment}
use Rattle.dapseq_tool.specs.Packed.{packed_kind}
use Rattle.dapseq_tool.proofs.LentLemmas.{call_so}
use Rattle.dapseq_tool.proofs.packed.call_lent.Goals as goal

pub returns : goal.returns
returns g c =
    let back : c.make_call-over.result.bench.now ≡ c.bench-1.given.0 = search rules in
    subst (λ v. IsCall packed_kind (record {
      words = c.args.words.now;
      old = bench_moment g.S.Source.left g.S.Source.faults g.K.Sink.written g.K.Sink.faults g.B.Bench.reported g.B.Bench.state c.args.source.now c.args.sink.now c.args.bench.now;
      new = bench_moment g.S.Source.left g.S.Source.faults g.K.Sink.written g.K.Sink.faults g.B.Bench.reported g.B.Bench.state c.make_call-over.new.source c.make_call-over.new.sink v;
      end = c.make_call-over.result.status;
    }) (c.make_call-over.new.source ≡ c.args.source.now) (v ≡ c.args.bench.now)) back
    (call_so _ _ _ _ _ (λ same. ap (λ b. b.now) same) c.make_call-over.ensures.asked c.make_call-over.ensures.frame)
