-- The statuses of answers.
use Rattle.std.proofs.Common.{◌≡◌, List, [], ◌∷◌, inl, inr, refl, subst, sym}
use Rattle.pack_faults.specs.declared.answer.PackFault.{PackFault}
use Rattle.tool_calls.specs.Calls.{FailsPutting, IsDisturbed}
use Rattle.faults_tool.specs.Answers.{faults_answer_status, list_status}
use Rattle.faults_tool.specs.Calls.{faults_fault_statuses}
use Rattle.faults_tool.specs.declared.asking.FaultsAnswer.{FaultsAnswer}
use Rattle.faults_tool.specs.declared.asking.FaultsAnswer.TheVariants as answers
use Rattle.faults_tool.specs.declared.status.FaultsStatus.{FaultsStatus}
use Rattle.faults_tool.specs.declared.status.FaultsStatus.TheVariants as status

-- ---- the status of an answer

-- a status of a fault outside
abbrev pub IsFault : FaultsStatus → Type 0
IsFault status.ReadFault = Unit {0}
IsFault status.WriteFault = Unit {0}
IsFault status.OutOfMemory = Unit {0}
IsFault other = ⊥

pub is_fault : (end : FaultsStatus) → IsDisturbed faults_fault_statuses end → IsFault end
is_fault end (inl is) = subst IsFault (sym is) tt
is_fault end (inr (inl is)) = subst IsFault (sym is) tt
is_fault end (inr (inr is)) = subst IsFault (sym is) tt

list_is_own : (faults : List PackFault) → IsFault (list_status faults) → ⊥
list_is_own [] is = is
list_is_own (f ∷ fs) is = is

is_own : (answer : FaultsAnswer) → IsFault (faults_answer_status answer) → ⊥
unfolding faults_answer_status
is_own answers.Usage is = is
is_own answers.TooLong is = is
is_own (answers.Refused refusal) is = is
is_own answers.NoPname is = is
is_own (answers.Faults format faults) is = list_is_own faults.faults is
is_own (answers.Warned format faults warnings) is = list_is_own faults.faults is

-- it is none of a fault outside
pub undisturbed : (answer : FaultsAnswer) → IsDisturbed faults_fault_statuses (faults_answer_status answer) → ⊥
undisturbed answer is = is_own answer (is_fault (faults_answer_status answer) is)

list_unused : (faults : List PackFault) → list_status faults ≡ status.Usage → ⊥
list_unused [] e = cc
list_unused (f ∷ fs) e = cc

-- that of the usage comes with it alone
pub used : (answer : FaultsAnswer) → faults_answer_status answer ≡ status.Usage → answer ≡ answers.Usage
unfolding faults_answer_status
used answers.Usage e = refl
used answers.TooLong e = absurd (cc)
used (answers.Refused refusal) e = absurd (cc)
used answers.NoPname e = absurd (cc)
used (answers.Faults format faults) e = absurd (list_unused faults.faults e)
used (answers.Warned format faults warnings) e = absurd (list_unused faults.faults e)

pub usage_status : faults_answer_status answers.Usage ≡ status.Usage
unfolding faults_answer_status
usage_status = refl

-- ---- the statuses of faults

pub read_apart : FailsPutting faults_fault_statuses faults_fault_statuses.read → ⊥
read_apart (inl is) = absurd (cc)
read_apart (inr is) = absurd (cc)

pub memory_apart : faults_fault_statuses.memory ≡ faults_fault_statuses.write → ⊥
memory_apart is = absurd (cc)
