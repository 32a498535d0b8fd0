use Rattle.std.proofs.Common.{◌≡◌, ◌++◌, drop}
use Rattle.std.specs.List.{flat_map}
use Rattle.text_lines.specs.Shown.{shown_text}
use Rattle.check_lines.specs.PathText.{step_text}
use Rattle.check_lines.proofs.path.with_steps.Given as goal

abbrev pub invariant-loop-step : goal.invariant-loop-step
invariant-loop-step l = l.line ++ shown_text (flat_map step_text (drop l.step-index l.steps)) ≡ l.fn.line ++ shown_text (flat_map step_text l.steps)
