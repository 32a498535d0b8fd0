use Rattle.dapseq_tool.proofs.SuccessLemmas.{success}
use Rattle.dapseq_tool.proofs.laws.quiet_calls_succeed.Goals as goal

pub returns : goal.returns
returns c = λ access call done causes. success access call _ done causes
