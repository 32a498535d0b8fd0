use Rattle.fault_json.proofs.fault.value_at.Goals as goal

pub returns : goal.returns
returns c = rw c.set_at.ensures at c.value_if.ensures
