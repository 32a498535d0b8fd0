use Rattle.std.proofs.Common.{◌≡◌, ◌++◌, ◌∷◌, [], take}
use Rattle.seq_check.specs.Calls.{calls_at}
use Rattle.seq_check.proofs.step_calls.push_calls.Given as goal

abbrev pub invariant-loop-text : goal.invariant-loop-text
invariant-loop-text l = l.calls ≡ l.fn.calls ++ calls_at (l.path ++ l.number ∷ []) l.part (take l.text-index l.texts)
