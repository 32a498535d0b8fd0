use Rattle.std.proofs.Common.{◌≡◌, ◌∙◌, Some, slice_get, sym}
use Rattle.packet_words.proofs.BlockLemmas.{block_known, block_text}
use Rattle.packet_words.proofs.request_words.with_block.Goals as goal

pub loop-index-preserved : goal.loop-index-preserved
loop-index-preserved c =
    let at : slice_get c.args.words.now c.loop-index.index ≡ Some c.in-Some.word = sym c.get.ensures ∙ c.in-Some.is in
    record {
      text = block_text _ _ _ _ _ _ _ _ _ c.loop-index.index c.in-Some.word _ at c.fate_of-fate.ensures c.in_ok-line.ensures c.follow.ensures c.after-left.ensures c.loop-index.invariant.text;
      known = block_known _ _ _ _ _ _ _ c.loop-index.index c.in-Some.word _ at c.fate_of-fate.ensures c.follow.ensures c.after-left.ensures c.loop-index.invariant.known;
    }
