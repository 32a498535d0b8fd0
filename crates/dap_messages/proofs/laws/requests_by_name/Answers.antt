use Rattle.dap_messages.proofs.RequestBits.{block_says, match_says, read_says, write_says}
use Rattle.dap_messages.proofs.laws.requests_by_name.Goals as goal

pub returns-clause-read : goal.returns-clause-read
returns-clause-read c = read_says

pub returns-clause-write : goal.returns-clause-write
returns-clause-write c = write_says

pub returns-clause-block : goal.returns-clause-block
returns-clause-block c = block_says

pub returns-clause-value_match : goal.returns-clause-value_match
returns-clause-value_match c = match_says
