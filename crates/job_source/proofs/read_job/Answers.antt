use Rattle.std.proofs.Common.{◌<◌, ◌≤◌, ℕ, length, take, ap, arith, rules}
use Rattle.std.specs.Io.KnownBytes.{IsAtEnd}
use Rattle.job_source.proofs.ReadingLemmas.{taken_at_end, taken_too_far, too_long}
use Rattle.job_source.proofs.read_job.Goals as goal

pub returns-then-count-eq0-clause-taken : goal.returns-then-count-eq0-clause-taken
returns-then-count-eq0-clause-taken g c =
    let end : IsAtEnd (g.S.Source.left c.take.new.self) = search rules in
    let short : length c.loop-chunk.bytes.items ≤ 16777216 = search rules in
    taken_at_end (g.S.Source.left c.args.source.now) (g.S.Source.left c.loop-chunk.source) (g.S.Source.left c.take.new.self) c.loop-chunk.bytes.items (take c.in-Ok.count c.take.new.buf)
    c.loop-chunk.invariant.taken c.in-Ok.ensures.bytes.0 (ap (λ (n : ℕ). take n c.take.new.buf) c.if-count-eq0.true) end (omega (arith, short))

pub returns-clause-too_long : goal.returns-clause-too_long
returns-clause-too_long g c = λ e.
    let long : 16777216 < length c.loop-chunk.bytes.items = search rules in
    too_long (g.S.Source.left c.args.source.now) (g.S.Source.left c.loop-chunk.source) c.loop-chunk.bytes.items c.loop-chunk.invariant.taken long

pub returns-clause-taken_too_far : goal.returns-clause-taken_too_far
returns-clause-taken_too_far g c = λ e.
    let long : 16777216 < length c.loop-chunk.bytes.items = search rules in
    let few : length c.loop-chunk.bytes.items ≤ 16777217 = search rules in
    taken_too_far (g.S.Source.left c.args.source.now) (g.S.Source.left c.loop-chunk.source) c.loop-chunk.bytes.items c.loop-chunk.invariant.taken (omega (arith, long, few))
