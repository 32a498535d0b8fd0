use Rattle.dapseq_tool.proofs.FollowedLemmas.{runs_lay}
use Rattle.dapseq_tool.proofs.laws.runs_lay_images.Goals as goal

pub returns : goal.returns
returns c = runs_lay
