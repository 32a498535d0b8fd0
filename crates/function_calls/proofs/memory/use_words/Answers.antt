use Rattle.access_calls.specs.Reported.{world_from}
use Rattle.access_calls.proofs.KeepLemmas.{keeps_on}
use Rattle.sequence_rules.specs.Calls.{low_and_high}
use Rattle.sequence_rules.specs.Late.{late}
use Rattle.sequence_rules.specs.Locals.{locals_of}
use Rattle.sequence_rules.specs.Shared.{bindings_of}
use Rattle.function_calls.specs.Held.{late_state_of}
use Rattle.function_calls.proofs.FrameLemmas.{use_after, use_passed, use_same}
use Rattle.function_calls.proofs.Leaves.{stops_before, later_low_and_high, passed}
use Rattle.function_calls.proofs.UseLemmas.{read64_on, read64_ends}
use Rattle.function_calls.proofs.memory.use_words.Goals as goal

pub returns-in_err-confirm : goal.returns-in_err-confirm
returns-in_err-confirm g c = record {
  gives = λ m answered written b l.
      let w = world_from m answered in
      let s = late_state_of c.args.held.now (g.A.Access.reported c.args.access.now).asks written in
      passed _ _ _ _ _ c.from_residual.result c.from_residual.ensures.1
      (stops_before w (g.A.Access.reported c.confirm.new.access) c.in_err-confirm.field-0.0 s (g.A.Access.reported c.confirm.new.access).asks (low_and_high (late g.A.Access.cost w) c.args.low c.args.high s)
      (later_low_and_high g.A.Access.cost w c.args.low c.args.high s) c.in_err-confirm.ensures.ends.calls (c.in_err-confirm.ensures.stops m answered b l));
  keeps = c.confirm.ensures.keeps;
  ends = use_passed _ c.from_residual.result c.from_residual.ensures.1 c.in_err-confirm.ensures.ends;
}

pub returns : goal.returns
returns g c =
    let h = c.args.held.now in
    let e = c.in_ok-low.ensures in
    record {
      gives = λ m answered written b l.
          read64_on g.A.Access.cost (world_from m answered) c.args.low c.args.high (late_state_of h (g.A.Access.reported c.args.access.now).asks written) (g.A.Access.reported c.confirm.new.access).asks c.in_ok-confirm.ensures.asks
          c.in_ok-low.low c.in_ok-low.high c.join_words.result (late_state_of h (g.A.Access.reported c.use_both.new.access).asks written)
          (e.gives m answered (bindings_of h.globals.variables) (locals_of h.locals) h.units h.lines h.steps written (c.in_ok-confirm.ensures.keeps.on m b) l) c.join_words.ensures;
      keeps = keeps_on _ _ _ _ _ _ c.confirm.ensures.keeps e.keeps;
      ends = use_same _ (use_after c.in_ok-confirm.ensures.ends e.ends);
    }

pub returns-in_err-low : goal.returns-in_err-low
returns-in_err-low g c =
    let h = c.args.held.now in
    let e = c.in_err-low.ensures in
    record {
      gives = λ m answered written b l.
          passed _ _ _ _ _ c.from_residual-in_err-low.result c.from_residual-in_err-low.ensures.1
          (read64_ends g.A.Access.cost (world_from m answered) c.args.low c.args.high (late_state_of h (g.A.Access.reported c.args.access.now).asks written) (g.A.Access.reported c.confirm.new.access).asks c.in_ok-confirm.ensures.asks
          (g.A.Access.reported c.use_both.new.access) c.in_err-low.field-0.0 (late_state_of h (g.A.Access.reported c.use_both.new.access).asks written)
          (e.gives m answered (bindings_of h.globals.variables) (locals_of h.locals) h.units h.lines h.steps written (c.in_ok-confirm.ensures.keeps.on m b) l));
      keeps = keeps_on _ _ _ _ _ _ c.confirm.ensures.keeps e.keeps;
      ends = use_passed _ c.from_residual-in_err-low.result c.from_residual-in_err-low.ensures.1 (use_after c.in_ok-confirm.ensures.ends e.ends);
    }
