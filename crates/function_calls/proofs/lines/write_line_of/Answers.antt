use Rattle.std.proofs.Common.{drop, refl, slice_index}
use Rattle.function_calls.proofs.FrameLemmas.{writing_as}
use Rattle.function_calls.proofs.WholeLines.{load_whole, message_whole, query_whole, value_whole}
use Rattle.function_calls.proofs.lines.write_line_of.Goals as goal

pub write_line-requires-clause-whole : goal.write_line-requires-clause-whole
write_line-requires-clause-whole g c = message_whole c.message_of-line.result (slice_index c.args.numbers.now 0) c.args.text.now (drop 1 c.args.numbers.now) c.message_of-line.ensures

pub write_line-requires-in-Query-clause-whole : goal.write_line-requires-in-Query-clause-whole
write_line-requires-in-Query-clause-whole g c = query_whole c.query_line-line.result c.number_at-first.result c.args.text.now c.number_at-second.result c.query_line-line.ensures

pub write_line-requires-in-Value-clause-whole : goal.write_line-requires-in-Value-clause-whole
write_line-requires-in-Value-clause-whole g c = value_whole c.value_line-line.result c.args.text.now c.number_at-first.result c.value_line-line.ensures

pub write_line-requires-in-Load-clause-whole : goal.write_line-requires-in-Load-clause-whole
write_line-requires-in-Load-clause-whole g c = load_whole c.load_line-line.result c.args.text.now c.load_line-line.ensures

pub returns-in-Message : goal.returns-in-Message
returns-in-Message g c = rw c.in-Message.is (c.write_line.ensures _ c.message_of-line.ensures)

pub returns-in-Query : goal.returns-in-Query
returns-in-Query g c = rw c.in-Query.is (writing_as (λ w s. rw (c.number_at-first.ensures, c.number_at-second.ensures) refl) (c.write_line-in-Query.ensures _ c.query_line-line.ensures))

pub returns-in-Value : goal.returns-in-Value
returns-in-Value g c = rw c.in-Value.is (writing_as (λ w s. rw c.number_at-first.ensures refl) (c.write_line-in-Value.ensures _ c.value_line-line.ensures))

pub returns-in-Load : goal.returns-in-Load
returns-in-Load g c = rw c.in-Load.is (c.write_line-in-Load.ensures _ c.load_line-line.ensures)
