use Rattle.call_graph.proofs.Cycles as cycles
use Rattle.call_graph.proofs.laws.cycles_are_deep.Goals as goal

pub returns : goal.returns
returns c = cycles.cycles_are_deep
