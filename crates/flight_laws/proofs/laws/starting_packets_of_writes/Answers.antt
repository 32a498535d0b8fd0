use Rattle.flight_laws.proofs.WriteLemmas.{writes_are_few}
use Rattle.flight_laws.proofs.BlockLemmas.{few_blocks, first_block, need_block, next_block, split_block, sparing_keeps}
use Rattle.flight_laws.proofs.laws.starting_packets_of_writes.Goals as goal

pub returns-clause-few : goal.returns-clause-few
returns-clause-few c = few_blocks

pub returns-clause-first : goal.returns-clause-first
returns-clause-first c = first_block

pub returns-clause-split : goal.returns-clause-split
returns-clause-split c = split_block

pub returns-clause-next : goal.returns-clause-next
returns-clause-next c = next_block

pub returns-clause-need : goal.returns-clause-need
returns-clause-need c = need_block

pub returns-clause-writes : goal.returns-clause-writes
returns-clause-writes c = writes_are_few

pub returns-clause-kept : goal.returns-clause-kept
returns-clause-kept c = sparing_keeps
