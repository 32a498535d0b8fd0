use Rattle.std.proofs.Common.{◌≡◌, ◌++◌, take}
use Rattle.json_form.proofs.placed.push_copies.Given as goal

abbrev pub invariant-loop-step : goal.invariant-loop-step
invariant-loop-step l = l.path ≡ l.fn.path ++ take l.step-index l.steps
