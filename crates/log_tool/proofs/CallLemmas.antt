-- What follows from what a whole call does.
use Rattle.std.proofs.Common.{◌≡◌, ◌∙◌, ◌⊎◌, ℕ, List, Some, ap, sym, subst}
use Rattle.job_source.proofs.SourceLemmas.{same_bytes}
use Rattle.tool_calls.specs.Calls.{Call, Does, FailsPutting, IsDisturbed}
use Rattle.tool_calls.proofs.CallLemmas.{answered, comes_or, only_usage}
use Rattle.job_check.specs.declared.running.RunRefusal.{RunRefusal}
use Rattle.job_check.specs.declared.running.RunRefusal.TheVariants as refusals
use Rattle.log_tool.specs.Answers.{log_answer_status}
use Rattle.log_tool.specs.Asked.{AsksForLog, IsLogUsage, RunsWithStatus, answer_of_run_refusal, job, no_run, run, too_long, usage}
use Rattle.log_tool.specs.Calls.{IsOfRun, SourceRunsTo, log_fault_statuses, log_program}
use Rattle.log_tool.specs.declared.asking.LogAnswer.{LogAnswer}
use Rattle.log_tool.specs.declared.asking.LogAnswer.TheVariants as answers
use Rattle.log_tool.specs.declared.status.LogStatus.{LogStatus}
use Rattle.log_tool.specs.declared.status.LogStatus.TheVariants as status
use Rattle.log_tool.proofs.AnswerLemmas.{IsFault, is_fault, usage_status, used}
use Rattle.log_tool.proofs.OneAnswer.{runs_of, status_of}

-- ---- an own status

calm_by : (end own : LogStatus) → (IsDisturbed log_fault_statuses own → ⊥) → end ≡ own → IsDisturbed log_fault_statuses end → ⊥
calm_by end own calm is disturbed = calm (subst (IsDisturbed log_fault_statuses) is disturbed)

run_calm : (end : LogStatus) → IsOfRun end → IsFault end → ⊥
run_calm status.Done is disturbed = disturbed
run_calm status.Stopped is disturbed = disturbed
run_calm status.Failed is disturbed = disturbed
run_calm status.Refused is disturbed = is
run_calm status.Usage is disturbed = is
run_calm status.ReadFault is disturbed = is
run_calm status.WriteFault is disturbed = is
run_calm status.OutOfMemory is disturbed = is

-- the status of no run
usage_no_run : (answer : LogAnswer) → answer ≡ answers.Usage → IsOfRun (log_answer_status answer) → ⊥
unfolding log_answer_status
usage_no_run answer e is = subst (λ (x : LogAnswer). IsOfRun (log_answer_status x)) e is

too_long_no_run : (answer : LogAnswer) → answer ≡ answers.TooLong → IsOfRun (log_answer_status answer) → ⊥
unfolding log_answer_status
too_long_no_run answer e is = subst (λ (x : LogAnswer). IsOfRun (log_answer_status x)) e is

some_is : (x y : LogAnswer) → Some x ≡ Some y → y ≡ x
some_is x y e = cc

refused_no_run : (r : RunRefusal) (answer : LogAnswer) → answer_of_run_refusal r ≡ Some answer → IsOfRun (log_answer_status answer) → ⊥
unfolding log_answer_status
refused_no_run (refusals.Refused q) answer e is = subst (λ (x : LogAnswer). IsOfRun (log_answer_status x)) (some_is (answers.Refused q) answer e) is
refused_no_run refusals.NoSequence answer e is = subst (λ (x : LogAnswer). IsOfRun (log_answer_status x)) (some_is answers.NoSequence answer e) is
refused_no_run refusals.OutOfMemory answer e is = absurd (cc)

-- an answer with the status of a run is its log
runs_by : (given : List (List ℕ)) (bytes : List ℕ) (answer : LogAnswer) → AsksForLog given bytes answer → IsOfRun (log_answer_status answer) → RunsWithStatus given bytes (log_answer_status answer)
runs_by given bytes answer (usage none e) is = absurd (usage_no_run answer e is)
runs_by given bytes answer (too_long line long e) is = absurd (too_long_no_run answer e is)
runs_by given bytes answer (job a asks short (no_run r none of)) is = absurd (refused_no_run r answer of is)
runs_by given bytes answer (job a asks short (run valid log runs is_log e)) is = runs_of given bytes a valid log answer asks short runs is_log e

pub run_by : (call : Call LogStatus) → Does log_program call → IsOfRun call.end → SourceRunsTo call.words call.old.left call.end
run_by call did is =
    let found = answered log_program call did (λ disturbed. run_calm call.end is (is_fault call.end disturbed)) in
    let runs : RunsWithStatus call.words found.bytes (log_answer_status found.answer) = runs_by call.words found.bytes found.answer found.asks (subst IsOfRun found.status is) in
    (found.bytes, found.are, subst (λ (end : LogStatus). RunsWithStatus call.words found.bytes end) (sym found.status) runs)

pub run_only_by : (call : Call LogStatus) → Does log_program call → (bytes : List ℕ) (end : LogStatus) → call.old.left ≡ Some bytes → RunsWithStatus call.words bytes end → (call.end ≡ end) ⊎ IsDisturbed log_fault_statuses call.end
run_only_by call did bytes end is runs = comes_or log_program call did end (λ found answer are asks.
    let same : found ≡ bytes = same_bytes call.old.left bytes found is are in
    status_of call.words bytes answer end (subst (λ (bs : List ℕ). AsksForLog call.words bs answer) same asks) runs)

-- ---- the usage

unrefused : (r : RunRefusal) (answer : LogAnswer) → answer_of_run_refusal r ≡ Some answer → answer ≡ answers.Usage → ⊥
unrefused (refusals.Refused q) answer e is = cc
unrefused refusals.NoSequence answer e is = cc
unrefused refusals.OutOfMemory answer e is = cc

of_usage : (given : List (List ℕ)) (bytes : List ℕ) (answer : LogAnswer) → AsksForLog given bytes answer → answer ≡ answers.Usage → IsLogUsage given
of_usage given bytes answer (usage none e) is = none
of_usage given bytes answer (too_long line long e) is = absurd (cc)
of_usage given bytes answer (job a asks short (no_run r none of)) is = absurd (unrefused r answer of is)
of_usage given bytes answer (job a asks short (run valid log runs is_log e)) is = absurd (cc)

usage_answer : (given : List (List ℕ)) (bytes : List ℕ) (answer : LogAnswer) → AsksForLog given bytes answer → IsLogUsage given → answer ≡ answers.Usage
usage_answer given bytes answer (usage none e) is = e
usage_answer given bytes answer (too_long line long e) is = absurd (is line.0 line.1)
usage_answer given bytes answer (job a asks short of) is = absurd (is a asks)

pub usage_by : (call : Call LogStatus) → Does log_program call → call.end ≡ status.Usage → IsLogUsage call.words
usage_by call did is =
    let found = answered log_program call did (calm_by call.end status.Usage (is_fault status.Usage) is) in
    of_usage call.words found.bytes found.answer found.asks (used found.answer (sym found.status ∙ is))

pub usage_alone : (call : Call LogStatus) → Does log_program call → IsLogUsage call.words → (call.end ≡ status.Usage) ⊎ FailsPutting log_fault_statuses call.end
usage_alone call did is = only_usage log_program call did status.Usage (λ bytes answer asks. ap log_answer_status (usage_answer call.words bytes answer asks is) ∙ usage_status) (λ line. is line.0 line.1)
