use Rattle.flight_forms.proofs.Blocks.{block_answers}
use Rattle.flight_forms.proofs.ChainAnswers.{chain_answers}
use Rattle.flight_forms.proofs.TransferAnswers.{transfer_answers}
use Rattle.flight_forms.proofs.laws.replies_may_come.Goals as goal

pub returns : goal.returns
returns c = record { block = block_answers; transfer = transfer_answers; chain = chain_answers }
