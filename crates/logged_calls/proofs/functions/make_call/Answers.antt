use Rattle.std.proofs.Common.{refl}
use Rattle.function_table.specs.declared.function.Function.TheVariants as f
use Rattle.sequence_rules.specs.Calls.{function_result}
use Rattle.logged_calls.specs.Held.{logged_state_of}
use Rattle.logged_calls.proofs.NotedLemmas.{line_seen_as, quiet, units_seen}
use Rattle.logged_calls.proofs.functions.make_call.Goals as goal

pub returns-in-Message-clause-noted : goal.returns-in-Message-clause-noted
unfolding function_result
returns-in-Message-clause-noted c =
    line_seen_as c.write_message.new.held.end c.write_message.result c.args.function f.Message c.args.text.now c.args.numbers.now _ (logged_state_of c.args.held.now c.args.target.now) (logged_state_of c.write_message.new.held c.args.target.now) c.args.held.now.log c.write_message.new.held.log
    c.in-Message.is refl (c.write_message.ensures.gives c.args.target.now) (c.write_message.ensures.noted c.args.target.now)

pub returns-in-Query-clause-noted : goal.returns-in-Query-clause-noted
unfolding function_result
returns-in-Query-clause-noted c =
    line_seen_as c.write_query.new.held.end c.write_query.result c.args.function f.Query c.args.text.now c.args.numbers.now _ (logged_state_of c.args.held.now c.args.target.now) (logged_state_of c.write_query.new.held c.args.target.now) c.args.held.now.log c.write_query.new.held.log
    c.in-Query.is refl (c.write_query.ensures.gives c.args.target.now) (c.write_query.ensures.noted c.args.target.now)

pub returns-in-QueryValue-clause-noted : goal.returns-in-QueryValue-clause-noted
unfolding function_result
returns-in-QueryValue-clause-noted c =
    line_seen_as c.write_query_value.new.held.end c.write_query_value.result c.args.function f.QueryValue c.args.text.now c.args.numbers.now _ (logged_state_of c.args.held.now c.args.target.now) (logged_state_of c.write_query_value.new.held c.args.target.now) c.args.held.now.log c.write_query_value.new.held.log
    c.in-QueryValue.is refl (c.write_query_value.ensures.gives c.args.target.now) (c.write_query_value.ensures.noted c.args.target.now)

pub returns-in-LoadDebugInfo-clause-noted : goal.returns-in-LoadDebugInfo-clause-noted
unfolding function_result
returns-in-LoadDebugInfo-clause-noted c =
    line_seen_as c.write_load.new.held.end c.write_load.result c.args.function f.LoadDebugInfo c.args.text.now c.args.numbers.now _ (logged_state_of c.args.held.now c.args.target.now) (logged_state_of c.write_load.new.held c.args.target.now) c.args.held.now.log c.write_load.new.held.log
    c.in-LoadDebugInfo.is refl (c.write_load.ensures.gives c.args.target.now) (c.write_load.ensures.noted c.args.target.now)

pub returns-in_default : goal.returns-in_default
returns-in_default c =
    let none = quiet c.args.function c.args.text.now c.args.numbers.now c.in_default.not-Message c.in_default.not-Query c.in_default.not-QueryValue c.in_default.not-LoadDebugInfo in
    record {
      gives = c.call_unit.ensures.gives c.args.text.now none;
      noted = units_seen c.call_unit.new.held.end c.call_unit.result c.args.function c.args.text.now c.args.numbers.now (logged_state_of c.args.held.now c.args.target.now) (logged_state_of c.call_unit.new.held c.call_unit.new.target) c.args.held.now.log c.call_unit.new.held.log none
          (c.call_unit.ensures.gives c.args.text.now none) c.call_unit.ensures.noted;
    }
