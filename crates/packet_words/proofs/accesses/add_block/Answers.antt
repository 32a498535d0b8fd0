use Rattle.std.proofs.Common.{◌≡◌, ◌∙◌, Some, slice_get, sym}
use Rattle.packet_words.proofs.BlockLemmas.{block_known, block_accesses}
use Rattle.packet_words.proofs.accesses.add_block.Goals as goal

pub loop-index-preserved : goal.loop-index-preserved
loop-index-preserved c =
    let at : slice_get c.args.words.now c.loop-index.index ≡ Some c.in-Some.word = sym c.get.ensures ∙ c.in-Some.is in
    record {
      accesses = block_accesses _ _ _ _ _ _ _ _ _ c.loop-index.index c.in-Some.word _ at c.fate_of-fate.ensures c.in_ok-add_request.ensures c.follow.ensures c.after-left.ensures c.loop-index.invariant.accesses;
      known = block_known _ _ _ _ _ _ _ c.loop-index.index c.in-Some.word _ at c.fate_of-fate.ensures c.follow.ensures c.after-left.ensures c.loop-index.invariant.known;
    }
