-- Runs that were worked out by hand: the definitions compute.
use Rattle.std.proofs.Common.{refl}
use Rattle.std.specs.Fmt.{digits}
use Rattle.function_table.specs.Front.{read_conversion}
use Rattle.target_calls.specs.World.{World}
use Rattle.sequence_rules.specs.Calls.{use_now, missing, value_or_missing, guarded_rest, global, port_with, port_from, port, or_halt, zero_of, memory_port, memory_at, memory, ap_unit, ap_at, ap_register, dp_unit, dp_at, dp_register, delay, clock, line_bits, line_result, function_result}
use Rattle.sequence_rules.specs.Direct.{direct}
use Rattle.sequence_rules.specs.Lines.{formatted_text, message_line, query_line, value_line, load_line}
use Rattle.sequence_rules.specs.Values.{named_value, stored_value, assigned_value, used_now, of_unary, both, operands, result_of, strict_binary, truth_of, conjunction, disjunction, of_binary, choice, appended_values, chained_values, all_used, numbers_of, call_result, call_of, value}
use Rattle.sequence_rules.specs.Steps.{turn_count, counted_step, after_counted, declared_variable, dropped_value, in_order, inside, turn, turns, statement, block, condition, loop_result, repeat_result, control_result, step, sequence_result, steps_at, sequence_at, debug_result, run_of}
use Rattle.sequence_rules.specs.Rows.{Divides, HalfMade, Loops, LoopsUntil, Orders, CallsB, Writes, Halts}

pub divides_is : Divides
unfolding direct use_now missing value_or_missing guarded_rest named_value stored_value assigned_value used_now of_unary both operands result_of strict_binary truth_of conjunction disjunction of_binary value counted_step after_counted declared_variable dropped_value in_order statement block step steps_at debug_result run_of
divides_is w = record { ending = refl; steps = refl; variables = refl; lines = refl; calls = refl }

pub half_made_is : HalfMade
unfolding direct use_now missing value_or_missing guarded_rest named_value stored_value assigned_value used_now of_unary both operands result_of strict_binary of_binary value debug_result run_of
half_made_is w = record { ending = refl; steps = refl; variables = refl; lines = refl; calls = refl }

pub loops_is : Loops
unfolding direct use_now missing value_or_missing guarded_rest named_value stored_value assigned_value used_now of_unary both operands result_of strict_binary of_binary value counted_step after_counted declared_variable dropped_value in_order inside turn turns turn_count statement block condition loop_result repeat_result control_result step steps_at debug_result run_of
loops_is w = record { ending = refl; steps = refl; variables = refl; lines = refl; calls = refl }

pub calls_b_is : CallsB
unfolding direct use_now missing value_or_missing guarded_rest named_value stored_value assigned_value used_now both operands result_of strict_binary of_binary chained_values all_used numbers_of call_result call_of value counted_step after_counted dropped_value in_order statement block step sequence_result steps_at sequence_at debug_result run_of
calls_b_is w = record { ending = refl; steps = refl; variables = refl; lines = refl; calls = refl }

pub writes_is : Writes
unfolding digits read_conversion direct use_now missing value_or_missing guarded_rest used_now appended_values chained_values all_used numbers_of call_result call_of function_result line_result formatted_text message_line query_line value_line load_line value counted_step after_counted dropped_value in_order statement block step steps_at debug_result run_of
writes_is w = record { ending = refl; steps = refl; variables = refl; lines = refl; calls = refl }

pub loops_until_is : LoopsUntil
unfolding direct use_now missing value_or_missing guarded_rest named_value stored_value assigned_value used_now of_unary both operands result_of strict_binary of_binary value counted_step after_counted declared_variable dropped_value in_order inside turn turns turn_count statement block condition loop_result repeat_result control_result step steps_at debug_result run_of
loops_until_is w = record { ending = refl; steps = refl; variables = refl; lines = refl; calls = refl }

pub orders_is : Orders
unfolding digits read_conversion direct use_now missing value_or_missing guarded_rest named_value stored_value assigned_value used_now of_unary both operands result_of strict_binary truth_of conjunction disjunction of_binary choice appended_values chained_values all_used numbers_of call_result call_of function_result line_result formatted_text message_line value counted_step after_counted declared_variable dropped_value in_order statement block step steps_at debug_result run_of
orders_is w = record { ending = refl; steps = refl; variables = refl; lines = refl; calls = refl }

pub halts_are : (w : World) → Halts w
unfolding direct use_now missing value_or_missing guarded_rest global port_with port_from port or_halt zero_of memory_port memory_at memory ap_unit ap_at ap_register dp_unit dp_at dp_register delay clock line_bits named_value stored_value assigned_value used_now appended_values chained_values all_used numbers_of call_result call_of function_result value counted_step after_counted dropped_value in_order statement block step steps_at debug_result run_of
halts_are w = record {
  port_first = record { ending = refl; steps = refl; variables = refl; lines = refl; calls = refl };
  then_ap = record { ending = refl; steps = refl; variables = refl; lines = refl; calls = refl };
  then_address = record { ending = refl; steps = refl; variables = refl; lines = refl; calls = refl };
  ap_address = record { ending = refl; steps = refl; variables = refl; lines = refl; calls = refl };
  ap_misaligned = record { ending = refl; steps = refl; variables = refl; lines = refl; calls = refl };
  resend = record { ending = refl; steps = refl; variables = refl; lines = refl; calls = refl };
  rdbuff = record { ending = refl; steps = refl; variables = refl; lines = refl; calls = refl };
  dp_address = record { ending = refl; steps = refl; variables = refl; lines = refl; calls = refl };
  dp_misaligned = record { ending = refl; steps = refl; variables = refl; lines = refl; calls = refl };
  delay = record { ending = refl; steps = refl; variables = refl; lines = refl; calls = refl };
  clock = record { ending = refl; steps = refl; variables = refl; lines = refl; calls = refl };
  bits = record { ending = refl; steps = refl; variables = refl; lines = refl; calls = refl };
  jtag = record { ending = refl; steps = refl; variables = refl; lines = refl; calls = refl };
}
