-- Words and bytes ask for one answer.
use Rattle.std.proofs.Common.{◌≡◌, ◌∙◌, ◌≤◌, ℕ, List, length, Option, Some, ap, sym, subst}
use Rattle.job_check.specs.declared.own.Own.TheVariants as own
use Rattle.job_check.specs.declared.running.RunRefusal.{RunRefusal}
use Rattle.job_check.specs.declared.running.ValidRun.{ValidRun}
use Rattle.job_check.specs.Running.{IsSameRun, IsValidRun}
use Rattle.job_check.proofs.OneRun as one
use Rattle.job_source.specs.Source.{limit}
use Rattle.job_source.proofs.SourceLemmas.{not_both}
use Rattle.job_text.specs.declared.job.Job.{Job}
use Rattle.log_lines.specs.LogText.{LogText}
use Rattle.log_words.specs.declared.answer.LogCommand.{LogCommand}
use Rattle.log_words.specs.Asks as words
use Rattle.log_words.proofs.AskLemmas.{one_asked}
use Rattle.seq_check.specs.Answers.{checked_trees}
use Rattle.sequence_rules.specs.Runs.{program_of}
use Rattle.sequence_trees.specs.Trees.{SetTrees}
use Rattle.target_machine.specs.Start.{start}
use Rattle.log_tool.specs.Answers.{log_answer_status, of_run}
use Rattle.log_tool.specs.Asked.{AsksForLog, AsksOfJobBytes, RunsWithStatus, answer_of_run_refusal, job, no_run, run, too_long, usage}
use Rattle.log_tool.specs.Logs.{IsLogOf, Subject, subject_of, subject_status}
use Rattle.log_tool.specs.declared.asking.LogAnswer.{LogAnswer}
use Rattle.log_tool.specs.declared.asking.LogAnswer.TheVariants as answers
use Rattle.log_tool.specs.declared.log.RunLog.{RunLog}
use Rattle.log_tool.specs.declared.log.RunStatus.{RunStatus}
use Rattle.log_tool.specs.declared.status.LogStatus.{LogStatus}

-- ---- one run

abbrev subject_in : SetTrees → Job → List ℕ → Subject
subject_in set j name = record { program = program_of set name j.settings; target = start j.bench.target }

one_subject : (x y : ValidRun) (name : List ℕ) → IsSameRun x y → subject_of x name ≡ subject_of y name
one_subject x y name same = ap (λ (t : SetTrees). subject_in t x.job name) same.trees ∙ ap (λ (j : Job). subject_in (checked_trees y.trees) j name) same.job

abbrev made : LogText → List ℕ → RunStatus → RunLog
made log last status = record { log = log; last = last; status = status }

one_log : (turns : ℕ) (fail : _) (s : Subject) (a b : RunLog) → IsLogOf turns fail s a → IsLogOf turns fail s b → a ≡ b
one_log turns fail s a b p q =
    ap (λ (l : LogText). made l a.last a.status) (p.seen ∙ sym q.seen)
    ∙ (ap (λ (l : List ℕ). made b.log l a.status) (p.last ∙ sym q.last)
    ∙ ap (λ (r : RunStatus). made b.log b.last r) (p.status ∙ sym q.status))

-- ---- one answer

same_some : (x y : LogAnswer) (found : Option LogAnswer) → found ≡ Some x → found ≡ Some y → x ≡ y
same_some x y found a b = cc

abbrev logged : RunLog → LogAnswer
logged log = answers.Log log

one_of_bytes : (bytes : List ℕ) (a : LogCommand) (x y : LogAnswer) → AsksOfJobBytes bytes a x → AsksOfJobBytes bytes a y → x ≡ y
one_of_bytes bytes a x y (no_run r is of) (no_run q other of_other) =
    let same : r ≡ q = one.one_refusal bytes own.Nothing a.selection a.sequence r q is other in
    same_some x y (answer_of_run_refusal q) (subst (λ (z : RunRefusal). answer_of_run_refusal z ≡ Some x) same of) of_other
one_of_bytes bytes a x y (no_run r is of) (run valid log runs is_log e) = absurd (one.run_or_refusal bytes own.Nothing a.selection a.sequence valid r runs is)
one_of_bytes bytes a x y (run valid log runs is_log e) (no_run r is of) = absurd (one.run_or_refusal bytes own.Nothing a.selection a.sequence valid r runs is)
one_of_bytes bytes a x y (run valid log runs is_log e) (run other its others is_its f) =
    let same : subject_of other a.sequence ≡ subject_of valid a.sequence =
    one_subject other valid a.sequence (one.one_run bytes own.Nothing a.selection a.sequence other valid others runs) in
    e ∙ ap logged (one_log a.turns a.fail (subject_of valid a.sequence) log its is_log (subst (λ (s : Subject). IsLogOf a.turns a.fail s its) same is_its)) ∙ sym f

pub one_answer : (given : List (List ℕ)) (bytes : List ℕ) (x y : LogAnswer) → AsksForLog given bytes x → AsksForLog given bytes y → x ≡ y
one_answer given bytes x y (usage none e) (usage nothing f) = e ∙ sym f
one_answer given bytes x y (usage none e) (too_long line long f) = absurd (none line.0 line.1)
one_answer given bytes x y (usage none e) (job a asks short of) = absurd (none a asks)
one_answer given bytes x y (too_long line long e) (usage none f) = absurd (none line.0 line.1)
one_answer given bytes x y (too_long line long e) (too_long other far f) = e ∙ sym f
one_answer given bytes x y (too_long line long e) (job a asks short of) = absurd (not_both (length bytes) long short)
one_answer given bytes x y (job a asks short of) (usage none f) = absurd (none a asks)
one_answer given bytes x y (job a asks short of) (too_long line long e) = absurd (not_both (length bytes) long short)
one_answer given bytes x y (job a asks short of) (job b others few of_others) =
    one_of_bytes bytes b x y (subst (λ (z : LogCommand). AsksOfJobBytes bytes z x) (one_asked given a b asks others) of) of_others

-- ---- the status of a run

log_status : (log : RunLog) (answer : LogAnswer) → answer ≡ answers.Log log → log_answer_status answer ≡ of_run log.status
unfolding log_answer_status
log_status log answer e = ap log_answer_status e

-- the status of the log of a run is that of the run
pub runs_of : (given : List (List ℕ)) (bytes : List ℕ) (a : LogCommand) (valid : ValidRun) (log : RunLog) (answer : LogAnswer) → words.WordsAskForLog given a → length bytes ≤ limit
    → IsValidRun bytes own.Nothing a.selection a.sequence valid → IsLogOf a.turns a.fail (subject_of valid a.sequence) log → answer ≡ answers.Log log → RunsWithStatus given bytes (log_answer_status answer)
runs_of given bytes a valid log answer asks short runs is_log e = record {
  asked = a;
  asks = asks;
  short = short;
  valid = valid;
  runs = runs;
  status = log_status log answer e ∙ ap of_run is_log.status;
}

-- the status of a run, where it is that of a job with other names for the same
abbrev status_in : LogCommand → ValidRun → LogStatus
status_in a valid = of_run (subject_status a.fail (subject_of valid a.sequence))

same_status : (bytes : List ℕ) (a : LogCommand) (x y : ValidRun) → IsValidRun bytes own.Nothing a.selection a.sequence x → IsValidRun bytes own.Nothing a.selection a.sequence y
    → status_in a x ≡ status_in a y
same_status bytes a x y p q =
    ap (λ (s : Subject). of_run (subject_status a.fail s)) (one_subject x y a.sequence (one.one_run bytes own.Nothing a.selection a.sequence x y p q))

-- where the words are those of a run
of_bytes_runs : (bytes : List ℕ) (a : LogCommand) (valid : ValidRun) (answer : LogAnswer) → IsValidRun bytes own.Nothing a.selection a.sequence valid → AsksOfJobBytes bytes a answer
    → log_answer_status answer ≡ status_in a valid
of_bytes_runs bytes a valid answer runs (no_run r is of) = absurd (one.run_or_refusal bytes own.Nothing a.selection a.sequence valid r runs is)
of_bytes_runs bytes a valid answer runs (run found log its is_log e) = log_status log answer e ∙ (ap of_run is_log.status ∙ same_status bytes a found valid its runs)

pub status_of : (given : List (List ℕ)) (bytes : List ℕ) (answer : LogAnswer) (end : LogStatus) → AsksForLog given bytes answer → RunsWithStatus given bytes end → log_answer_status answer ≡ end
status_of given bytes answer end (usage none e) r = absurd (none r.asked r.asks)
status_of given bytes answer end (too_long line long e) r = absurd (not_both (length bytes) long r.short)
status_of given bytes answer end (job a asks short of) r =
    let same : a ≡ r.asked = one_asked given a r.asked asks r.asks in
    of_bytes_runs bytes r.asked r.valid answer r.runs (subst (λ (z : LogCommand). AsksOfJobBytes bytes z answer) same of) ∙ sym r.status
