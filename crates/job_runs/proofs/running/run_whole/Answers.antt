use Rattle.std.proofs.Common.{◌∙◌, ap, sym, subst, take}
use Rattle.probe_core.specs.declared.job.Config.{Config}
use Rattle.probe_core.specs.Bench.{BenchState, fresh}
use Rattle.access_calls.specs.Opening.{IsNotBegun, MayBegin, opened_bench}
use Rattle.access_calls.proofs.OpeningLemmas.{loaded_may_begin}
use Rattle.probe_core.specs.Bench.{seen_bench}
use Rattle.access_calls.specs.Left.{answered_by}
use Rattle.access_calls.proofs.KeepLemmas.{left_by}
use Rattle.control_flow.proofs.EndRules.{no_lines}
use Rattle.job_runs.specs.Runs.{access_kind, config_of, known_after, task_with}
use Rattle.job_runs.proofs.LeaveLemmas.{not_begun, nothing_written, opened_run, still_seen}
use Rattle.task_runs.specs.Tasks.{sequel_of}
use Rattle.job_runs.proofs.CloseLemmas.{closes_so, end_none, never_done}
use Rattle.job_runs.proofs.running.run_whole.Goals as goal

pub returns-in-Ok-clause-run : goal.returns-in-Ok-clause-run
returns-in-Ok-clause-run g c = λ is.
    let job = c.args.run_of.now.job.bench in
    let config : Config = config_of c.args.run_of.now.job.settings in
    let first : BenchState = opened_bench (config_of c.args.run_of.now.job.settings) (fresh c.args.run_of.now.job.bench) in
    let may : MayBegin (fresh c.args.run_of.now.job.bench) = loaded_may_begin c.args.run_of.now.job.bench c.requires.may.job c.args.run_of.now.job.in_range in
    let there = still_seen (λ m n. MayBegin m → g.A.Access.begun c.in-Ok.access (opened_bench c.config_of.result m)) (fresh job) _ _ is c.in-Ok.ensures.begun in
    let begun : g.A.Access.begun c.in-Ok.access first = subst (λ (k : Config). g.A.Access.begun c.in-Ok.access (opened_bench k (fresh c.args.run_of.now.job.bench))) c.config_of.ensures (there.2 may) in
    let a = g.A.Access.reported c.run_task-task.new.access in
    let stands = g.met.A.Access.stands c.run_task-task.new.access first (answered_by a) (c.run_task-task.ensures.keeps.on first begun) (left_by a) in
    let spares = g.met.A.Access.spares c.run_task-task.new.access first (answered_by a) (c.run_task-task.ensures.keeps.on first begun) (left_by a) in
    let began_limits = c.in-Ok.ensures.goes.limits in
    let r = opened_run (access_kind g.A.Access.journal g.A.Access.cost g.A.Access.is_sparing) g.met.A.Access.grows g.met.A.Access.settles (config_of c.args.run_of.now.job.settings) c.args.run_of.now.job.bench
    (task_with c.args.run_of.now c.args.sequence.now (sequel_of c.args.followed.now)) (g.K.Sink.written c.args.sink.now) (g.K.Sink.written c.run_task-task.new.sink) a c.run_task-task.result.ended (
      stands,
      (λ known knows. c.run_task-task.ensures.answer first known begun knows),
      (λ known knows none. c.run_task-task.ensures.needs first known begun knows none),
      spares,
      (λ n known left knows never. c.run_task-task.ensures.part first n known begun left knows never),
    )
    c.run_task-task.ensures.end c.run_task-task.ensures.skipped (c.run_task-task.ensures.keeps.goes.limits ∙ began_limits ∙ sym c.requires.may.limits) in
    (r.0, c.into_bench-bench.ensures.state ∙ r.1, r.2)

pub returns-in-Err-clause-run : goal.returns-in-Err-clause-run
returns-in-Err-clause-run g c = λ is.
    let old = g.K.Sink.written c.args.sink.now in
    let may : MayBegin (fresh c.args.run_of.now.job.bench) = loaded_may_begin c.args.run_of.now.job.bench c.requires.may.job c.args.run_of.now.job.in_range in
    let refused = subst (λ (k : Config). IsNotBegun k (seen_bench g.B.Bench.reported g.B.Bench.state c.args.bench) (seen_bench g.B.Bench.reported g.B.Bench.state c.in-Err.refused.bench) c.in-Err.refused.stop
    (take c.in-Err.refused.sent_length c.in-Err.refused.sent) (take c.in-Err.refused.got_length c.in-Err.refused.got)) c.config_of.ensures c.in-Err.ensures.refused in
    let r = not_begun (access_kind g.A.Access.journal g.A.Access.cost g.A.Access.is_sparing) (config_of c.args.run_of.now.job.settings) c.args.run_of.now.job.bench (task_with c.args.run_of.now c.args.sequence.now (sequel_of c.args.followed.now)) old c.in-Err.refused.stop
    (seen_bench g.B.Bench.reported g.B.Bench.state c.args.bench) (seen_bench g.B.Bench.reported g.B.Bench.state c.in-Err.refused.bench)
    (take c.in-Err.refused.sent_length c.in-Err.refused.sent) (take c.in-Err.refused.got_length c.in-Err.refused.got)
    c.end_begin.result.ended (known_after old old) is may refused c.end_begin.ensures.ending (nothing_written old) in
    (r.0, ap g.B.Bench.state c.end_begin.ensures.bench ∙ r.1, r.2)

pub returns-in-Err-clause-lines : goal.returns-in-Err-clause-lines
returns-in-Err-clause-lines g c = no_lines _ _

pub returns-in-Ok-clause-close : goal.returns-in-Ok-clause-close
returns-in-Ok-clause-close g c = λ is done.
    let job = c.args.run_of.now.job.bench in
    let first : BenchState = opened_bench (config_of c.args.run_of.now.job.settings) (fresh c.args.run_of.now.job.bench) in
    let may : MayBegin (fresh c.args.run_of.now.job.bench) = loaded_may_begin c.args.run_of.now.job.bench c.requires.may.job c.args.run_of.now.job.in_range in
    let there = still_seen (λ m n. MayBegin m → g.A.Access.begun c.in-Ok.access (opened_bench c.config_of.result m)) (fresh job) _ _ is c.in-Ok.ensures.begun in
    let begun : g.A.Access.begun c.in-Ok.access first = subst (λ (k : Config). g.A.Access.begun c.in-Ok.access (opened_bench k (fresh c.args.run_of.now.job.bench))) c.config_of.ensures (there.2 may) in
    closes_so (task_with c.args.run_of.now c.args.sequence.now (sequel_of c.args.followed.now)) first (g.A.Access.reported c.run_task-task.new.access) (g.K.Sink.written c.args.sink.now) c.run_task-task.result.close
    (end_none c.run_task-task.result.ended.ending _ done c.run_task-task.ensures.end) (λ known knows. c.run_task-task.ensures.close first known begun knows done)

pub returns-in-Err-clause-close : goal.returns-in-Err-clause-close
returns-in-Err-clause-close g c = λ is done. absurd (never_done c.in-Err.refused.stop (sym c.end_begin.ensures.ending ∙ done))

pub returns-in-Err-clause-closes : goal.returns-in-Err-clause-closes
returns-in-Err-clause-closes g c = λ done. absurd (never_done c.in-Err.refused.stop (sym c.end_begin.ensures.ending ∙ done))
