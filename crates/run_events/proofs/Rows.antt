-- What is seen of runs, worked out by hand: the definitions compute.
use Rattle.std.proofs.Common.{refl}
use Rattle.std.specs.Fmt.{digits}
use Rattle.function_table.specs.Front.{read_conversion}
use Rattle.sequence_rules.specs.Calls.{use_now, missing, value_or_missing, guarded_rest, line_result, function_result}
use Rattle.sequence_rules.specs.Direct.{direct}
use Rattle.sequence_rules.specs.Lines.{formatted_text, message_line}
use Rattle.sequence_rules.specs.Values.{named_value, stored_value, assigned_value, used_now, both, operands, result_of, strict_binary, of_binary, appended_values, chained_values, all_used, numbers_of, call_result, call_of, value}
use Rattle.sequence_rules.specs.Steps.{turn_count, counted_step, after_counted, declared_variable, dropped_value, in_order, inside, turn, turns, statement, block, condition, loop_result, repeat_result, control_result, step, sequence_result, steps_at, sequence_at, debug_result, run_of}
use Rattle.run_events.specs.OfValues.{function_events, called_events, call_events, value_events}
use Rattle.run_events.specs.OfSteps.{tested_events, turn_events, turns_events, done_events, statement_events, block_events, condition_events, loop_events, repeat_events, controlled_events, step_events}
use Rattle.run_events.specs.OfRuns.{sequence_events, debugged_events, run_events}
use Rattle.run_events.specs.Rows.{CountsToThree, Waits, Enters}

pub counts_is : CountsToThree
unfolding direct use_now missing value_or_missing guarded_rest named_value stored_value assigned_value used_now both operands result_of strict_binary of_binary value counted_step after_counted declared_variable dropped_value in_order inside turn turns turn_count statement block condition loop_result repeat_result control_result step steps_at debug_result run_of
    function_events called_events call_events value_events tested_events turn_events turns_events done_events statement_events block_events condition_events loop_events repeat_events controlled_events step_events sequence_events debugged_events run_events
counts_is w = refl

pub waits_is : Waits
unfolding direct use_now missing value_or_missing guarded_rest named_value stored_value assigned_value used_now both operands result_of strict_binary of_binary value counted_step after_counted declared_variable dropped_value in_order inside turn turns turn_count statement block condition loop_result repeat_result control_result step steps_at debug_result run_of
    function_events called_events call_events value_events tested_events turn_events turns_events done_events statement_events block_events condition_events loop_events repeat_events controlled_events step_events sequence_events debugged_events run_events
waits_is w = refl

pub enters_is : Enters
unfolding digits read_conversion direct use_now missing value_or_missing guarded_rest named_value stored_value assigned_value used_now both operands result_of strict_binary of_binary appended_values chained_values all_used numbers_of call_result call_of line_result function_result formatted_text message_line value counted_step after_counted declared_variable dropped_value in_order inside turn turns turn_count statement block condition loop_result repeat_result control_result step sequence_result steps_at sequence_at debug_result run_of
    function_events called_events call_events value_events tested_events turn_events turns_events done_events statement_events block_events condition_events loop_events repeat_events controlled_events step_events sequence_events debugged_events run_events
enters_is w = (refl, refl)
