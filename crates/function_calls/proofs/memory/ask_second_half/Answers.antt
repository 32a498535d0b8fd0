use Rattle.access_calls.specs.Reported.{world_from}
use Rattle.sequence_rules.specs.Calls.{second_half}
use Rattle.function_calls.specs.Held.{late_state_of}
use Rattle.function_calls.proofs.FrameLemmas.{call_end}
use Rattle.function_calls.proofs.Leaves.{later_cond, later_low_and_high, later_ok, second_write}
use Rattle.function_calls.proofs.memory.ask_second_half.Goals as goal

pub returns-in_err-high : goal.returns-in_err-high
unfolding second_half
returns-in_err-high g c =
    call_end _ (λ cost w x. later_cond w x.1 c.args.read _ _ (later_low_and_high cost w c.args.low x.0 x.1) (later_ok w x.1 _)) c.from_residual.ensures.1
    (rw c.memory_unit-unit.ensures.unit at c.in_err-high.ensures)

pub returns-else-read : goal.returns-else-read
returns-else-read g c =
    let e = c.in_ok-high.ensures in
    record {
      gives = λ m answered written b l.
          second_write g.A.Access.cost (world_from m answered) c.args.read (record { ap = c.args.ap; forgive = c.args.forgive; dp = 0 }) c.args.address c.args.value c.args.low c.in_ok-high.high _
          (late_state_of c.args.held.now (g.A.Access.reported c.args.access.now).asks written) (late_state_of c.ask.new.held (g.A.Access.reported c.ask.new.access).asks written) c.if-read.false c.memory_unit-unit.ensures.unit (e.gives m answered written b l);
      keeps = e.keeps;
      ends = record { end = e.ends.end; counted = e.ends.counted; cause = tt };
    }
