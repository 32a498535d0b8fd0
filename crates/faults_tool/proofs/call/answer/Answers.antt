use Rattle.std.proofs.Common.{inr, inl}
use Rattle.tool_calls.proofs.CallLemmas.{put_part, put_whole}
use Rattle.faults_tool.specs.Calls.{faults_fault_statuses}
use Rattle.faults_tool.proofs.AnswerLemmas.{memory_apart, undisturbed}
use Rattle.faults_tool.proofs.call.answer.Goals as goal

pub returns-in-Ok : goal.returns-in-Ok
returns-in-Ok g c = put_whole faults_fault_statuses _ _ _ tt _ _ _ _ c.in-Ok.ensures.puts c.status_of.ensures (λ is. undisturbed c.args.answer.now (inr (inl is)))

pub returns-in-Err : goal.returns-in-Err
returns-in-Err g c = put_part faults_fault_statuses _ _ _ c.in-Err.end _ _ _ _ c.in-Err.ensures.puts c.failed_status.ensures memory_apart
