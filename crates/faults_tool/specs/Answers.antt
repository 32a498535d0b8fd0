-- What is written, and the exit statuses.
use Rattle.std.specs.Prelude.{ℕ, List, [], ◌∷◌, codes}
use Rattle.check_lines.specs.RefusalLines.{refusal_line, too_long_line}
use Rattle.pack_faults.specs.declared.answer.PackFault.{PackFault}
use Rattle.pack_faults.specs.declared.answer.PackFaults.{PackFaults}
use Rattle.fault_lines.specs.FaultText.{faults_text}
use Rattle.fault_json.specs.FaultsJson.{faults_json}
use Rattle.fault_json.specs.SarifLog.{faults_sarif}
use Rattle.pack_warnings.specs.declared.answer.PackWarning.{PackWarning}
use Rattle.fault_lines.specs.WarningText.{warned_text}
use Rattle.fault_json.specs.WarningsJson.{warned_json}
use Rattle.fault_json.specs.WarningsSarif.{warned_sarif}
use Rattle.faults_words.specs.declared.format.Format.{Format}
use Rattle.faults_words.specs.declared.format.Format.TheVariants as formats
use Rattle.faults_tool.specs.declared.asking.FaultsAnswer.{FaultsAnswer}
use Rattle.faults_tool.specs.declared.asking.FaultsAnswer.TheVariants as answers
use Rattle.faults_tool.specs.declared.status.FaultsStatus.{FaultsStatus}
use Rattle.faults_tool.specs.declared.status.FaultsStatus.TheVariants as status

-- the status as the number with which the program ends
abbrev pub faults_exit_code : FaultsStatus → ℕ
faults_exit_code status.Done = 0
faults_exit_code status.Faulty = 1
faults_exit_code status.Refused = 1
faults_exit_code status.Usage = 2
faults_exit_code status.ReadFault = 5
faults_exit_code status.WriteFault = 6
faults_exit_code status.OutOfMemory = 7

-- ---- what is written

-- the line of words that ask for nothing
abbrev pub faults_usage_line : List ℕ
faults_usage_line = codes "usage dapseq_faults [--device NAME] [--variant NAME] [--pname NAME] [--format text|json|sarif] [--warnings] < JOB\n"

-- the line of a processor that no sequence is for
abbrev pub no_pname_line : List ℕ
no_pname_line = codes "refused NoPname\n"

-- all faults, in this format
abbrev pub faults_in_format : Format → PackFaults → List ℕ
faults_in_format formats.Text faults = faults_text faults
faults_in_format formats.Json faults = faults_json faults
faults_in_format formats.Sarif faults = faults_sarif faults

-- all faults and all warnings, in this format
abbrev pub warned_in : Format → PackFaults → List PackWarning → List ℕ
warned_in formats.Text faults warnings = warned_text faults warnings
warned_in formats.Json faults warnings = warned_json faults warnings
warned_in formats.Sarif faults warnings = warned_sarif faults warnings

-- the text of an answer
unfoldable pub faults_answer_text : FaultsAnswer → List ℕ
faults_answer_text answers.Usage = faults_usage_line
faults_answer_text answers.TooLong = too_long_line
faults_answer_text (answers.Refused refusal) = refusal_line refusal
faults_answer_text answers.NoPname = no_pname_line
faults_answer_text (answers.Faults format faults) = faults_in_format format faults
faults_answer_text (answers.Warned format faults warnings) = warned_in format faults warnings

-- ---- statuses

-- the status where faults are written
abbrev pub list_status : List PackFault → FaultsStatus
list_status [] = status.Done
list_status (f ∷ fs) = status.Faulty

-- the status where an answer is written; warnings change none
unfoldable pub faults_answer_status : FaultsAnswer → FaultsStatus
faults_answer_status answers.Usage = status.Usage
faults_answer_status answers.TooLong = status.Refused
faults_answer_status (answers.Refused refusal) = status.Refused
faults_answer_status answers.NoPname = status.Refused
faults_answer_status (answers.Faults format faults) = list_status faults.faults
faults_answer_status (answers.Warned format faults warnings) = list_status faults.faults
