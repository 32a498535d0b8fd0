-- The text of what followed a sequence.
use Rattle.std.specs.Prelude.{ℕ, List, ◌++◌, codes, decimal}
use Rattle.text_lines.specs.Hex.{hex2, hex8}
use Rattle.target_machine.specs.State.{TargetState}
use Rattle.job_text.specs.declared.job.Job.{Job}
use Rattle.report_lines.specs.Target.{target_lines}

-- an image that was read back as it was written: how many bytes it has, and how many writes they took
abbrev pub loaded_line : ℕ → ℕ → List ℕ
loaded_line bytes writes = codes "loaded " ++ decimal bytes ++ codes " bytes " ++ decimal writes ++ codes " writes\n"

-- the first byte that was read back as another one
abbrev pub differs_line : ℕ → ℕ → ℕ → List ℕ
differs_line address wanted found = codes "end differs " ++ hex8 address ++ codes " wanted " ++ hex2 wanted ++ codes " found " ++ hex2 found ++ codes "\n"

-- more components than are listed
abbrev pub full_line : List ℕ
full_line = codes "end full\n"

-- an image that was read back as another one: its first such byte, and the target
abbrev pub differs_lines : ℕ → ℕ → ℕ → Job → TargetState → List ℕ
differs_lines address wanted found job t = differs_line address wanted found ++ target_lines t job.bench.target.aps job.watch

-- a list of components that is full, and the target
abbrev pub full_lines : Job → TargetState → List ℕ
full_lines job t = full_line ++ target_lines t job.bench.target.aps job.watch
