use Rattle.std.proofs.Common.{◌∙◌}
use Rattle.std.proofs.lemmas.Result.{err_from_is_err_and}
use Rattle.check_lines.specs.CheckLines.{sequence_line}
use Rattle.text_lines.proofs.PutLemmas.{names_on}
use Rattle.text_lines.proofs.RowLemmas.{item_at, row_more, row_cut}
use Rattle.check_lines.proofs.writing.write_sequences.Goals as goal

pub returns-in_err-put_line : goal.returns-in_err-put_line
returns-in_err-put_line g c =
    let x = c.entry-item.result in
    let puts = c.in_err-put_line.ensures.puts (sequence_line x) c.sequence_text.ensures in
    let passed = err_from_is_err_and c.from_residual.result c.from_residual.ensures.1 in
    rw (passed.1, passed.2) (record {
      puts = record {
        text = row_cut _ _ _ sequence_line c.args.entries.now c.loop-entry.entry-index x (item_at c.args.entries.now c.loop-entry.entry-index x c.loop-entry-test.true c.entry-item.is) c.loop-entry.invariant.text
            puts.text;
        sink = names_on _ _ _ _ _ c.loop-entry.invariant.sink puts.sink;
      };
    })

pub loop-entry-preserved : goal.loop-entry-preserved
loop-entry-preserved g c =
    let x = c.entry-item.result in
    let puts = c.in_ok-put_line.ensures.puts (sequence_line x) c.sequence_text.ensures in
    record {
      text = row_more _ _ _ sequence_line c.args.entries.now c.loop-entry.entry-index x (item_at c.args.entries.now c.loop-entry.entry-index x c.loop-entry-test.true c.entry-item.is) c.loop-entry.invariant.text
          puts.text;
      sink = puts.sink.else ∙ c.loop-entry.invariant.sink;
    }
