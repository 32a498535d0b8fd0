use Rattle.faults_tool.proofs.PackLaws.{found_in, only_in, refused_in}
use Rattle.faults_tool.proofs.packs.read_pack.Goals as goal

pub returns-clause-found : goal.returns-clause-found
returns-clause-found c = found_in _ _ c.answer_of.ensures

pub returns-clause-only : goal.returns-clause-only
returns-clause-only c = only_in _ _ c.answer_of.ensures

pub returns-clause-refused : goal.returns-clause-refused
returns-clause-refused c = refused_in _ _ c.answer_of.ensures
