use Rattle.access_regs.proofs.Bare.{neighbours_bare}
use Rattle.access_regs.proofs.laws.neighbours_are_few.Goals as goal

pub returns-clause-bare : goal.returns-clause-bare
returns-clause-bare c = neighbours_bare
