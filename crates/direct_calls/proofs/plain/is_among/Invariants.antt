use Rattle.std.proofs.Common.{◌≡◌, drop}
use Rattle.target_machine.specs.Plain.{contains}
use Rattle.direct_calls.proofs.plain.is_among.Given as goal

abbrev pub invariant-loop-known : goal.invariant-loop-known
invariant-loop-known l = contains l.large l.ap ≡ contains (drop l.known-index l.large) l.ap
