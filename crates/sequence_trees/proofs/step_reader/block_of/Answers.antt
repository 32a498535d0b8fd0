use Rattle.std.proofs.Common.{List, ℕ, subst}
use Rattle.sequence_trees.specs.declared.spot.Part.TheVariants as kinds
use Rattle.sequence_trees.specs.Order.{block_texts}
use Rattle.sequence_trees.specs.Outcomes.{IsFaultOf, at_part}
use Rattle.sequence_trees.proofs.StepLemmas.{fault_block}
use Rattle.sequence_trees.proofs.step_reader.block_of.Goals as goal

pub returns-in-Err : goal.returns-in-Err
returns-in-Err c =
    let reported : IsFaultOf (block_texts c.as_str.result.now) (at_part kinds.Block c.in-Err.fault) = fault_block c.as_str.result.now c.in-Err.fault c.in-Err.ensures.answer in
    rw c.own_fault.ensures (subst (λ (text : List ℕ). IsFaultOf (block_texts text) (at_part kinds.Block c.in-Err.fault)) c.as_str.ensures reported)
