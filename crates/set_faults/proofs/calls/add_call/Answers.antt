use Rattle.std.proofs.lemmas.Result.{on_ok_weaker}
use Rattle.set_faults.proofs.AddLemmas.{adds_two, adds_if}
use Rattle.set_faults.proofs.calls.add_call.Goals as goal

pub returns : goal.returns
returns c = on_ok_weaker c.add_function.result (adds_two (adds_if c.args.scope.in_debugvars c.in_ok-add_if.ensures)) c.add_function.ensures
