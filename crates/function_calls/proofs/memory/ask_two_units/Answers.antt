use Rattle.sequence_rules.specs.Calls.{two_units}
use Rattle.function_calls.proofs.FrameLemmas.{call_end, call_on}
use Rattle.function_calls.proofs.Leaves.{later_second_half}
use Rattle.function_calls.proofs.memory.ask_two_units.Goals as goal

pub returns-in_err-low : goal.returns-in_err-low
unfolding two_units
returns-in_err-low g c =
    call_end _ (λ cost w x. later_second_half cost w c.args.read (record { ap = c.args.ap; forgive = c.args.forgive; dp = 0 }) c.args.address c.args.value x.0 x.1) c.from_residual.ensures.1
    (rw c.memory_unit-unit.ensures.unit at c.in_err-low.ensures)

pub returns : goal.returns
unfolding two_units
returns g c = call_on _ (rw c.memory_unit-unit.ensures.unit at c.in_ok-low.ensures) c.ask_second_half.ensures
