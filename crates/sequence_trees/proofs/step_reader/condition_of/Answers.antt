use Rattle.std.proofs.Common.{List, ℕ, subst, Some}
use Rattle.sequence_trees.specs.Order.{text_if_some}
use Rattle.sequence_trees.specs.Outcomes.{IsFaultOf, at_part}
use Rattle.sequence_trees.proofs.StepLemmas.{fault_condition}
use Rattle.sequence_trees.proofs.step_reader.condition_of.Goals as goal

pub returns-in-Err : goal.returns-in-Err
returns-in-Err c =
    let part = c.args.part in
    let reported : IsFaultOf (text_if_some part (Some c.as_str.result.now)) (at_part part c.in-Err.fault) =
    fault_condition part c.as_str.result.now c.in-Err.fault c.requires c.in-Err.ensures.answer in
    rw (c.own_fault.ensures, c.in-Some.is) (subst (λ (text : List ℕ). IsFaultOf (text_if_some part (Some text)) (at_part part c.in-Err.fault)) c.as_str.ensures reported)
