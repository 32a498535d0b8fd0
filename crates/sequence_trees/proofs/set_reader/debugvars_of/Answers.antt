use Rattle.std.proofs.Common.{List, [], ℕ, subst, None}
use Rattle.sequence_trees.specs.declared.spot.Part.TheVariants as kinds
use Rattle.sequence_trees.specs.Order.{IsFirstFaulty, debugvars_texts}
use Rattle.sequence_trees.proofs.SetLemmas.{fault_debugvars}
use Rattle.sequence_trees.proofs.set_reader.debugvars_of.Goals as goal

pub returns-in-Err-Syntax : goal.returns-in-Err-Syntax
returns-in-Err-Syntax c =
    let at = c.in-Err-Syntax.place in
    let faulty = rw c.in-Err-Syntax.field-0-is at c.in-Err-Syntax.ensures.answer in
    let reported : IsFirstFaulty (debugvars_texts c.as_str.result.now) (record { sequence = None; path = [] }) kinds.Debugvars at = fault_debugvars c.as_str.result.now at faulty in
    rw c.new.ensures (subst (λ (text : List ℕ). IsFirstFaulty (debugvars_texts text) (record { sequence = None; path = [] }) kinds.Debugvars at) c.as_str.ensures reported)
