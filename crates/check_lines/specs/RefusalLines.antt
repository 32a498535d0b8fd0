-- The lines of refusals, and the line of words that are no command. Each ends with a line feed.
use Rattle.std.specs.Prelude.{ℕ, List, [], ◌++◌, codes, decimal, option_map, unwrap_or}
use Rattle.dap_base.specs.declared.text.Place.{Place}
use Rattle.json_form.specs.declared.path.PathStep.{PathStep}
use Rattle.json_form.specs.declared.fault.JobFault.{JobFault}
use Rattle.json_form.specs.Faults.{fault_name, fault_path}
use Rattle.hex_image.specs.declared.fault.ImageKind.{ImageKind}
use Rattle.text_lines.specs.Shown.{shown_text, place_words}
use Rattle.job_check.specs.declared.answer.DbgconfKind.{DbgconfKind}
use Rattle.job_check.specs.declared.answer.Refusal.{Refusal}
use Rattle.job_check.specs.declared.answer.Refusal.TheVariants as refusals
use Rattle.check_lines.specs.PathText.{path_text}
use Rattle.check_lines.specs.Words.{dbgconf_word, image_word}
use Rattle.check_lines.specs.CheckLines.{fault_line}

-- the name of a job's fault and its path, each byte of which is shown
abbrev pub path_line : List ℕ → List PathStep → List ℕ
path_line name path = codes "refused " ++ name ++ codes " " ++ shown_text (path_text path) ++ codes "\n"

-- the line of a job's fault; refused memory has no path, and no line
abbrev pub job_fault_line : JobFault → List ℕ
job_fault_line fault = unwrap_or (option_map (path_line (fault_name fault)) (fault_path fault)) []

-- the line of the first fault of an image, with the number of the line in its text
abbrev pub image_line : ImageKind → ℕ → List ℕ
image_line kind number = codes "refused image " ++ image_word kind ++ codes " " ++ decimal number ++ codes "\n"

-- the line of a fault of the starting values, with its place in their text
abbrev pub dbgconf_line : DbgconfKind → Place → List ℕ
dbgconf_line kind at = codes "refused dbgconf " ++ dbgconf_word kind ++ place_words at ++ codes "\n"

-- the line of a refusal: its name, or the fault of the job, of its image, of the starting values or of the set
abbrev pub refusal_line : Refusal → List ℕ
refusal_line refusals.BadJson = codes "refused BadJson\n"
refusal_line (refusals.Job fault) = job_fault_line fault
refusal_line (refusals.Image kind number) = image_line kind number
refusal_line (refusals.Dbgconf kind at) = dbgconf_line kind at
refusal_line refusals.NoDevice = codes "refused NoDevice\n"
refusal_line refusals.AmbiguousDevice = codes "refused AmbiguousDevice\n"
refusal_line refusals.NoVariant = codes "refused NoVariant\n"
refusal_line (refusals.Check kind spot) = fault_line kind spot

-- the line of a job of too many bytes
abbrev pub too_long_line : List ℕ
too_long_line = codes "refused TooLong\n"

-- the line of a set without a sequence of the name
abbrev pub no_sequence_line : List ℕ
no_sequence_line = codes "refused NoSequence\n"

-- the line of words that are no command
abbrev pub usage_line : List ℕ
usage_line = codes "usage dapseq MODE [--device NAME] [--variant NAME] [--pname NAME] [--sequence NAME] [--number N]\n"
