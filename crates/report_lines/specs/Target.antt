-- The lines of a target, as its images show it.
use Rattle.std.specs.Prelude.{ℕ, zero, suc, ◌+◌, ◌*◌, ◌^◌, ◌==◌, ◌≤◌, List, [], ◌++◌, if◌then◌else◌}
use Rattle.std.specs.List.{flat_map, list_any}
use Rattle.target_machine.specs.Image.{image_part}
use Rattle.target_machine.specs.State.{TargetState}
use Rattle.target_machine.specs.declared.image.ImageAsk.{ImageAsk}
use Rattle.target_machine.specs.declared.image.ImageAsk.TheVariants as ask
use Rattle.target_machine.specs.declared.image.ImagePart.{ImagePart}
use Rattle.target_machine.specs.declared.image.ImagePart.TheVariants as part
use Rattle.target_machine.specs.declared.job.ApJob.{ApJob}
use Rattle.job_text.specs.declared.job.WatchItem.{WatchItem}
use Rattle.report_lines.specs.Lines.{ap_line, dp_line, lines_line, word_line}

-- the line of a part of the target; a part that is not there has none
abbrev pub part_line : ImageAsk → ImagePart → List ℕ
part_line ask.Dp (part.Dp image) = dp_line image
part_line (ask.Ap ap) (part.Ap image) = ap_line ap image
part_line ask.Lines (part.Lines image) = lines_line image
part_line (ask.Word address) (part.Word image) = word_line address image
part_line asked other = []

-- the line of what a target shows
unfoldable pub shown_line : TargetState → ImageAsk → List ℕ
shown_line t asked = part_line asked (image_part t asked)

-- the lines of the numbers below one
abbrev pub lines_below : (ℕ → List ℕ) → ℕ → List ℕ
lines_below line zero = []
lines_below line (suc n) = lines_below line n ++ line n

-- the line of an access port that the job lists
abbrev pub listed_port_line : TargetState → List ApJob → ℕ → List ℕ
listed_port_line t aps number = if list_any (λ port. port.ap == number) aps then shown_line t (ask.Ap number) else []

-- the lines of the access ports that the job lists, in rising order
abbrev pub port_lines : TargetState → List ApJob → List ℕ
port_lines t aps = lines_below (listed_port_line t aps) 256

-- the lines of words in a row from an address on
abbrev pub word_lines : TargetState → ℕ → ℕ → List ℕ
word_lines t address n = lines_below (λ i. shown_line t (ask.Word (address + 4 * i))) n

-- the lines of the words that are watched
abbrev pub watch_lines : TargetState → List WatchItem → List ℕ
watch_lines t watch = flat_map (λ item. word_lines t item.address item.words) watch

-- the lines of the probe, and those of the words that are watched
abbrev pub outside_lines : TargetState → List WatchItem → List ℕ
outside_lines t watch = shown_line t ask.Lines ++ watch_lines t watch

-- the lines of the access ports, and what follows them
abbrev pub ports_on : TargetState → List ApJob → List WatchItem → List ℕ
ports_on t aps watch = port_lines t aps ++ outside_lines t watch

-- the lines of a target: the debug port, the access ports, the lines of the probe, and the words that are watched
abbrev pub target_lines : TargetState → List ApJob → List WatchItem → List ℕ
target_lines t aps watch = shown_line t ask.Dp ++ ports_on t aps watch

-- words whose addresses are below 2^64
abbrev pub IsLow : WatchItem → Type 0
IsLow item = item.address + 4 * item.words ≤ 2 ^ 64
