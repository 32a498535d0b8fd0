use Rattle.packet_words.proofs.LineLemmas.{equal_words}
use Rattle.packet_words.proofs.laws.equal_words.Goals as goal

pub returns : goal.returns
returns c = equal_words
