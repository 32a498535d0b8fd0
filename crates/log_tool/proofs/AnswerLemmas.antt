-- The statuses of answers.
use Rattle.std.proofs.Common.{◌≡◌, inl, inr, refl, subst, sym}
use Rattle.tool_calls.specs.Calls.{FailsPutting, IsDisturbed}
use Rattle.log_tool.specs.Answers.{log_answer_status, of_run}
use Rattle.log_tool.specs.Calls.{log_fault_statuses}
use Rattle.log_tool.specs.declared.asking.LogAnswer.{LogAnswer}
use Rattle.log_tool.specs.declared.asking.LogAnswer.TheVariants as answers
use Rattle.log_tool.specs.declared.log.RunStatus.{RunStatus}
use Rattle.log_tool.specs.declared.log.RunStatus.TheVariants as came
use Rattle.log_tool.specs.declared.status.LogStatus.{LogStatus}
use Rattle.log_tool.specs.declared.status.LogStatus.TheVariants as status

-- ---- the status of an answer

-- a status of a fault outside
abbrev pub IsFault : LogStatus → Type 0
IsFault status.ReadFault = Unit {0}
IsFault status.WriteFault = Unit {0}
IsFault status.OutOfMemory = Unit {0}
IsFault other = ⊥

pub is_fault : (end : LogStatus) → IsDisturbed log_fault_statuses end → IsFault end
is_fault end (inl is) = subst IsFault (sym is) tt
is_fault end (inr (inl is)) = subst IsFault (sym is) tt
is_fault end (inr (inr is)) = subst IsFault (sym is) tt

run_is_own : (s : RunStatus) → IsFault (of_run s) → ⊥
run_is_own came.Done is = is
run_is_own came.Failed is = is
run_is_own came.Stopped is = is

is_own : (answer : LogAnswer) → IsFault (log_answer_status answer) → ⊥
unfolding log_answer_status
is_own answers.Usage is = is
is_own answers.TooLong is = is
is_own answers.NoSequence is = is
is_own (answers.Refused refusal) is = is
is_own (answers.Log log) is = run_is_own log.status is

-- it is none of a fault outside
pub undisturbed : (answer : LogAnswer) → IsDisturbed log_fault_statuses (log_answer_status answer) → ⊥
undisturbed answer is = is_own answer (is_fault (log_answer_status answer) is)

run_unused : (s : RunStatus) → of_run s ≡ status.Usage → ⊥
run_unused came.Done e = cc
run_unused came.Failed e = cc
run_unused came.Stopped e = cc

-- that of the usage comes with it alone
pub used : (answer : LogAnswer) → log_answer_status answer ≡ status.Usage → answer ≡ answers.Usage
unfolding log_answer_status
used answers.Usage e = refl
used answers.TooLong e = absurd (cc)
used answers.NoSequence e = absurd (cc)
used (answers.Refused refusal) e = absurd (cc)
used (answers.Log log) e = absurd (run_unused log.status e)

pub usage_status : log_answer_status answers.Usage ≡ status.Usage
unfolding log_answer_status
usage_status = refl

-- ---- the statuses of faults

pub read_apart : FailsPutting log_fault_statuses log_fault_statuses.read → ⊥
read_apart (inl is) = absurd (cc)
read_apart (inr is) = absurd (cc)

pub memory_apart : log_fault_statuses.memory ≡ log_fault_statuses.write → ⊥
memory_apart is = absurd (cc)
