use Rattle.job_text.proofs.KeyLemmas.{seen_more}
use Rattle.job_text.proofs.memory.addresses_of.Goals as goal

pub loop-word-preserved : goal.loop-word-preserved
loop-word-preserved c = λ key. seen_more c.args.words.now c.loop-word.word-index _ _ _ c.loop-word-test.true c.loop-word.invariant c.in_ok-was_seen.ensures.kept key
