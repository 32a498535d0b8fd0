use Rattle.set_lines.proofs.LineLemmas.{named_in}
use Rattle.set_lines.proofs.lines.sequences_from.Goals as goal

pub returns-in-Some : goal.returns-in-Some
returns-in-Some c = named_in c.args.set.now c.args.last.now c.args.name.now c.in-Some.found.now c.requires.distinct c.requires.last c.in-Some.ensures
