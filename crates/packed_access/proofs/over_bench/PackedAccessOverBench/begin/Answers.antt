use Rattle.std.proofs.Common.{take}
use Rattle.packed_access.proofs.OverLemmas.{not_begun}
use Rattle.packed_access.proofs.over_bench.PackedAccessOverBench.begin.Goals as goal

pub returns-clause-refused : goal.returns-clause-refused
returns-clause-refused g c =
    not_begun c.begin_over.result (λ e. e.stop) (λ e. g.B.Bench.reported e.bench) (λ e. g.B.Bench.state e.bench) (λ e. take e.sent_length e.sent) (λ e. take e.got_length e.got) c.args.config
    (g.B.Bench.reported c.args.bench) (g.B.Bench.state c.args.bench) c.begin_over.ensures.refused c.begin_over.ensures.left c.begin_over.ensures.back_goes
