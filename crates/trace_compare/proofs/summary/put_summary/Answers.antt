use Rattle.std.proofs.lemmas.Result.{err_from_is_err_and}
use Rattle.text_lines.proofs.PutLemmas.{names_on, prefix_first, put_after}
use Rattle.trace_compare.specs.Texts.{place_count_lines, wrong_line}
use Rattle.trace_compare.proofs.summary.put_summary.Goals as goal

pub returns : goal.returns
returns g c =
    let line = wrong_line c.args.first.now.wrong c.args.second.now.wrong in
    let put = c.in_ok-put_line.ensures line (rw (c.count_wrong.ensures, c.count_wrong-2.ensures) at c.wrong_line.ensures) in record {
      text = put_after _ _ _ _ line (place_count_lines 32800 c.args.first.now.counts c.args.second.now.counts) put.text (rw (c.counts.ensures, c.counts-2.ensures) at c.put_counts.ensures.text);
      sink = names_on _ _ _ _ _ put.sink.else c.put_counts.ensures.sink;
      other = c.put_counts.ensures.other;
    }

pub returns-in_err-put_line : goal.returns-in_err-put_line
returns-in_err-put_line g c =
    let line = wrong_line c.args.first.now.wrong c.args.second.now.wrong in
    let put = c.in_err-put_line.ensures line (rw (c.count_wrong.ensures, c.count_wrong-2.ensures) at c.wrong_line.ensures) in
    let passed = err_from_is_err_and c.from_residual.result c.from_residual.ensures.1 in
    rw (passed.1, passed.2) (record { text = prefix_first _ _ line (place_count_lines 32800 c.args.first.now.counts c.args.second.now.counts) put.text; sink = put.sink; other = put.other })
