use Rattle.sequence_rules.specs.Shared.{bindings_of}
use Rattle.sequence_rules.proofs.shared.SharedVariables.set.Goals as goal

pub invariant_of-self : goal.invariant_of-self
invariant_of-self g c =
    let self = c.args.self.now in
    record {
      dp_is = c.value_after-self.ensures (bindings_of self.variables) c.args.value self.dp_is c.set.ensures;
      ap_is = c.value_after-self-2.ensures (bindings_of self.variables) c.args.value self.ap_is c.set.ensures;
      control_is = c.value_after-self-3.ensures (bindings_of self.variables) c.args.value self.control_is c.set.ensures;
    }
