-- What follows from what a whole call does.
use Rattle.std.proofs.Common.{◌≡◌, ◌∙◌, ◌⊎◌, ℕ, Bool, List, Some, ap, sym, subst}
use Rattle.job_source.proofs.SourceLemmas.{same_bytes}
use Rattle.tool_calls.specs.Calls.{Call, Does, FailsPutting, IsDisturbed}
use Rattle.tool_calls.proofs.CallLemmas.{answered, comes_or, only_usage}
use Rattle.pack_faults.specs.declared.request.PackRefusal.{PackRefusal}
use Rattle.pack_faults.specs.declared.request.PackRefusal.TheVariants as packs
use Rattle.device_tree.specs.declared.pack.Pack.{Pack}
use Rattle.pack_faults.specs.declared.request.PackRequest.{PackRequest}
use Rattle.pack_faults.specs.declared.answer.PackFaults.{PackFaults}
use Rattle.faults_words.specs.declared.format.Format.{Format}
use Rattle.faults_tool.specs.Answers.{faults_answer_status}
use Rattle.faults_tool.specs.Asked.{AreAllValid, AsksForFaults, IsFaultsUsage, IsList, answer_of_pack_refusal, job, no_pack, no_set, pack, plain, request_of_words, sets, too_long, usage, warned}
use Rattle.faults_tool.specs.Calls.{IsCallOfValid, faults_fault_statuses, faults_program}
use Rattle.faults_tool.specs.declared.asking.FaultsAnswer.{FaultsAnswer}
use Rattle.faults_tool.specs.declared.asking.FaultsAnswer.TheVariants as answers
use Rattle.faults_tool.specs.declared.status.FaultsStatus.{FaultsStatus}
use Rattle.faults_tool.specs.declared.status.FaultsStatus.TheVariants as status
use Rattle.faults_tool.proofs.AnswerLemmas.{is_fault, usage_status, used}
use Rattle.faults_tool.proofs.OneAnswer.{done_of, valid_of}

-- ---- an own status

calm_by : (end own : FaultsStatus) → (IsDisturbed faults_fault_statuses own → ⊥) → end ≡ own → IsDisturbed faults_fault_statuses end → ⊥
calm_by end own calm is disturbed = calm (subst (IsDisturbed faults_fault_statuses) is disturbed)

pub valid_by : (call : Call FaultsStatus) → Does faults_program call → call.end ≡ status.Done → IsCallOfValid call.words call.old.left
valid_by call did is =
    let found = answered faults_program call did (calm_by call.end status.Done (is_fault status.Done) is) in
    (found.bytes, found.are, valid_of call.words found.bytes found.answer found.asks (sym found.status ∙ is))

pub done_by : (call : Call FaultsStatus) → Does faults_program call → (bytes : List ℕ) → call.old.left ≡ Some bytes → AreAllValid call.words bytes → (call.end ≡ status.Done) ⊎ IsDisturbed faults_fault_statuses call.end
done_by call did bytes is valid = comes_or faults_program call did status.Done (λ found answer are asks.
    let same : found ≡ bytes = same_bytes call.old.left bytes found is are in
    done_of call.words bytes answer (subst (λ (bs : List ℕ). AsksForFaults call.words bs answer) same asks) valid)

-- ---- the usage

unrefused : (r : PackRefusal) (answer : FaultsAnswer) → answer_of_pack_refusal r ≡ Some answer → answer ≡ answers.Usage → ⊥
unrefused packs.NoDevice answer e is = cc
unrefused packs.NoVariant answer e is = cc
unrefused packs.NoPname answer e is = cc
unrefused packs.OutOfMemory answer e is = cc

unlisted : (p : Pack) (r : PackRequest) (format : Format) (b : Bool) (faults : PackFaults) (answer : FaultsAnswer) → IsList p r format b faults answer → answer ≡ answers.Usage → ⊥
unlisted p r format b faults answer (plain off e) is = cc
unlisted p r format b faults answer (warned list on are e) is = cc

of_usage : (given : List (List ℕ)) (bytes : List ℕ) (answer : FaultsAnswer) → AsksForFaults given bytes answer → answer ≡ answers.Usage → IsFaultsUsage given
of_usage given bytes answer (usage none e) is = none
of_usage given bytes answer (too_long line long e) is = absurd (cc)
of_usage given bytes answer (job a asks short (no_pack r is_none e)) is = absurd (cc)
of_usage given bytes answer (job a asks short (pack p says (no_set r is_none of))) is = absurd (unrefused r answer of is)
of_usage given bytes answer (job a asks short (pack p says (sets faults none are e))) is =
    absurd (unlisted p (request_of_words a) a.format a.warnings faults answer e is)

usage_answer : (given : List (List ℕ)) (bytes : List ℕ) (answer : FaultsAnswer) → AsksForFaults given bytes answer → IsFaultsUsage given → answer ≡ answers.Usage
usage_answer given bytes answer (usage none e) is = e
usage_answer given bytes answer (too_long line long e) is = absurd (is line.0 line.1)
usage_answer given bytes answer (job a asks short of) is = absurd (is a asks)

pub usage_by : (call : Call FaultsStatus) → Does faults_program call → call.end ≡ status.Usage → IsFaultsUsage call.words
usage_by call did is =
    let found = answered faults_program call did (calm_by call.end status.Usage (is_fault status.Usage) is) in
    of_usage call.words found.bytes found.answer found.asks (used found.answer (sym found.status ∙ is))

pub usage_alone : (call : Call FaultsStatus) → Does faults_program call → IsFaultsUsage call.words → (call.end ≡ status.Usage) ⊎ FailsPutting faults_fault_statuses call.end
usage_alone call did is = only_usage faults_program call did status.Usage (λ bytes answer asks. ap faults_answer_status (usage_answer call.words bytes answer asks is) ∙ usage_status) (λ line. is line.0 line.1)
