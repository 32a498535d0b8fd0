use Rattle.tool_calls.proofs.CallLemmas.{does_of, read_by, success_of, taken_of}
use Rattle.faults_tool.specs.Calls.{faults_program}
use Rattle.faults_tool.proofs.AnswerLemmas.{read_apart, undisturbed}
use Rattle.faults_tool.proofs.CallLemmas.{done_by, usage_alone, usage_by, valid_by}
use Rattle.faults_tool.proofs.call.dapseq_faults.Goals as goal

pub returns-clause-asked : goal.returns-clause-asked
returns-clause-asked g c = does_of faults_program _ c.ask-asked.result c.ask-asked.ensures.asked c.ask-asked.ensures.fault c.ask-asked.ensures.source c.finish-status.ensures.done

pub returns-clause-success : goal.returns-clause-success
returns-clause-success g c = λ quiet still memory. success_of faults_program _ (returns-clause-asked g c) c.finish-status.ensures.sink quiet still memory

pub returns-clause-valid : goal.returns-clause-valid
returns-clause-valid g c = valid_by _ (returns-clause-asked g c)

pub returns-clause-valid_only : goal.returns-clause-valid_only
returns-clause-valid_only g c = done_by _ (returns-clause-asked g c)

pub returns-clause-usage : goal.returns-clause-usage
returns-clause-usage g c = usage_by _ (returns-clause-asked g c)

pub returns-clause-usage_only : goal.returns-clause-usage_only
returns-clause-usage_only g c = usage_alone _ (returns-clause-asked g c)

pub returns-clause-taken : goal.returns-clause-taken
returns-clause-taken g c = taken_of faults_program _ c.ask-asked.result _ _ _ _ _ _ c.ask-asked.ensures.taken c.ask-asked.ensures.source c.finish-status.ensures.done

pub returns-clause-read : goal.returns-clause-read
returns-clause-read g c = read_by faults_program undisturbed read_apart _ (returns-clause-asked g c)
