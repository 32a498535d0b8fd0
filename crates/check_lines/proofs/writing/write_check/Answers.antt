use Rattle.std.proofs.Common.{length}
use Rattle.std.proofs.lemmas.Result.{err_from_is_err_and}
use Rattle.check_lines.specs.CheckLines.{head_line, sequence_line}
use Rattle.check_lines.proofs.RowLemmas.{others_after, head_cut}
use Rattle.text_lines.proofs.PutLemmas.{names_on}
use Rattle.check_lines.proofs.writing.write_check.Goals as goal

pub returns : goal.returns
returns g c =
    let head = head_line (length c.args.set.now.entries) in
    let first = c.in_ok-put_line.ensures.puts head (rw c.len.ensures at c.head_text.ensures) in
    record {
      puts = record {
        text = others_after _ _ _ _ head sequence_line c.args.set.now.entries first.text (rw c.as_slice.ensures at c.write_sequences.ensures.puts.text);
        sink = names_on _ _ _ _ _ first.sink.else c.write_sequences.ensures.puts.sink;
      };
    }

pub returns-in_err-put_line : goal.returns-in_err-put_line
returns-in_err-put_line g c =
    let head = head_line (length c.args.set.now.entries) in
    let first = c.in_err-put_line.ensures.puts head (rw c.len.ensures at c.head_text.ensures) in
    let passed = err_from_is_err_and c.from_residual.result c.from_residual.ensures.1 in
    rw (passed.1, passed.2) (record { puts = record { text = head_cut _ _ head sequence_line c.args.set.now.entries first.text; sink = first.sink } })
