use Rattle.trace_compare.proofs.CallLemmas.{refused, unblamed}
use Rattle.trace_compare.proofs.call.write_against.Goals as goal

pub returns-in-Err-clause-faults : goal.returns-in-Err-clause-faults
returns-in-Err-clause-faults g c = record {
  source = unblamed c.args.name.now c.write_refusal.result _ _ _ c.write_refusal.ensures.text;
  file = refused c.args.name.now c.write_refusal.result _ _ _ _ c.write_refusal.ensures.text c.in-Err.ensures.cause.failed;
  sink = c.write_refusal.ensures.sink;
}
