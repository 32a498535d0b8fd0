use Rattle.std.proofs.Common.{◌∙◌, refl, sym}
use Rattle.logged_calls.specs.Held.{logged_state_of}
use Rattle.logged_runs.specs.Walk.{now, seen_so_far}
use Rattle.logged_runs.proofs.NoteLemmas.{unless_ended}
use Rattle.logged_runs.proofs.Units.{function_done, function_stops, or_none, or_true}
use Rattle.logged_runs.proofs.walked.Walked.call_function.Goals as goal

pub returns-in_err-value-clause-noted : goal.returns-in_err-value-clause-noted
returns-in_err-value-clause-noted c = λ turns.
    unless_ended _ c.make_call.new.held.end c.in_err-value.field-0.0 _ c.from_residual.ensures.0
    (function_stops turns (seen_so_far c.args.self.now) _ c.args.function c.args.text.now c.args.numbers.now (now c.args.self.now c.args.target.now) (logged_state_of c.make_call.new.held c.make_call.new.target) refl refl refl (c.type_inv.numbers 0).fits
    c.make_call.new.held.end c.in_err-value.field-0.0 c.in_err-value.ensures.gives refl c.in_err-value.ensures.noted)

pub returns-then-is_error_call-clause-noted : goal.returns-then-is_error_call-clause-noted
returns-then-is_error_call-clause-noted c = λ turns.
    function_done turns (seen_so_far c.args.self.now) _ c.args.function c.args.text.now c.args.numbers.now (now c.args.self.now c.args.target.now) (logged_state_of c.make_call.new.held c.make_call.new.target) refl refl refl (c.type_inv.numbers 0).fits
    c.in_ok-value.value c.in_ok-value.ensures.gives (or_true _ _ (sym c.is_error_call.ensures ∙ c.if-is_error_call.true)) c.in_ok-value.ensures.noted

pub returns-else-is_error_call-clause-noted : goal.returns-else-is_error_call-clause-noted
returns-else-is_error_call-clause-noted c = λ turns.
    function_done turns (seen_so_far c.args.self.now) _ c.args.function c.args.text.now c.args.numbers.now (now c.args.self.now c.args.target.now) (logged_state_of c.make_call.new.held c.make_call.new.target) refl refl refl (c.type_inv.numbers 0).fits
    c.in_ok-value.value c.in_ok-value.ensures.gives (or_none _ _ (sym c.is_error_call.ensures ∙ c.if-is_error_call.false)) c.in_ok-value.ensures.noted
