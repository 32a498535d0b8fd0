use Rattle.dapseq_tool.proofs.FollowedLemmas.{runs_list}
use Rattle.dapseq_tool.proofs.laws.runs_list_components.Goals as goal

pub returns : goal.returns
returns c = runs_list
