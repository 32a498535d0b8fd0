use Rattle.std.proofs.Common.{◌≡◌, refl}
use Rattle.dapseq_tool.specs.declared.asking.What.TheVariants as whats
use Rattle.dapseq_tool.proofs.FrameLemmas.{does_what, none_of_bench_answer, sound_by_answer, sound_by_run, status_for, status_of_answer, status_of_run}
use Rattle.dapseq_tool.proofs.call.perform.Goals as goal

pub answer-requires : goal.answer-requires
answer-requires g c = sound_by_answer c.args.what.now c.in-Answer.what c.in-Answer.is c.requires

pub run_asked-requires : goal.run_asked-requires
run_asked-requires g c = sound_by_run c.args.what.now c.in-Run.run' c.in-Run.is c.requires

pub returns-in-Answer-clause-does : goal.returns-in-Answer-clause-does
returns-in-Answer-clause-does g c = does_what _ c.args.what.now (whats.Answer c.in-Answer.what) _ _ _ _ c.in-Answer.is (c.answer.ensures.text, refl)

pub returns-in-Answer-clause-keeps : goal.returns-in-Answer-clause-keeps
returns-in-Answer-clause-keeps g c = record {
  identity = refl;
  sink = c.answer.ensures.sink;
  bench = none_of_bench_answer _ _ _ c.in-Answer.what c.answer.result c.answer.ensures.text (g.B.Bench.reported c.args.bench).faults;
}

pub returns-in-Answer-clause-status : goal.returns-in-Answer-clause-status
returns-in-Answer-clause-status g c =
    status_for c.args.what.now (whats.Answer c.in-Answer.what) c.answer.result c.in-Answer.is (status_of_answer _ _ _ c.in-Answer.what c.answer.result c.answer.ensures.text)

pub returns-in-Run-clause-does : goal.returns-in-Run-clause-does
returns-in-Run-clause-does g c = does_what _ c.args.what.now (whats.Run c.in-Run.run') _ _ _ _ c.in-Run.is c.run_asked.ensures.run

pub returns-in-Run-clause-keeps : goal.returns-in-Run-clause-keeps
returns-in-Run-clause-keeps g c = record {
  identity = c.run_asked.ensures.keeps.identity;
  sink = c.run_asked.ensures.keeps.sink;
  bench = c.run_asked.ensures.keeps.bench;
}

pub returns-in-Run-clause-status : goal.returns-in-Run-clause-status
returns-in-Run-clause-status g c =
    status_for c.args.what.now (whats.Run c.in-Run.run') c.run_asked.result.status c.in-Run.is (status_of_run c.in-Run.run' c.run_asked.result.status c.run_asked.ensures.keeps.among)
