use Rattle.std.proofs.Common.{rules, refl}
use Rattle.access_calls.proofs.KeepLemmas.{goes_by_fault}
use Rattle.access_calls.proofs.scripted.ScriptedAccess.flush.Goals as goal

pub returns-then-fails-clause-ends : goal.returns-then-fails-clause-ends
returns-then-fails-clause-ends c = record {
  known = search rules;
  no_end = search rules;
  memory = search rules;
  end = search rules;
  ended = search rules;
  keeps = record {
    on = search rules;
    same_bench = refl;
    goes = goes_by_fault _ _ 0 0 (search rules) (search rules) refl (search rules) (search rules) (search rules) tt (search rules) (search rules);
  };
}
