use Rattle.flight_laws.proofs.ComeLemmas.{skip_comes, pass_comes, pass_given, small_given}
use Rattle.flight_laws.proofs.laws.one_call_came.Goals as goal

pub returns-clause-skip : goal.returns-clause-skip
returns-clause-skip c = skip_comes

pub returns-clause-pass : goal.returns-clause-pass
returns-clause-pass c = pass_comes

pub returns-clause-given : goal.returns-clause-given
returns-clause-given c = pass_given

pub returns-clause-small : goal.returns-clause-small
returns-clause-small c = small_given
