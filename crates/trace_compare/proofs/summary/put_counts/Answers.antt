use Rattle.std.proofs.Common.{◌∙◌, refl}
use Rattle.std.proofs.lemmas.Result.{err_from_is_err_and}
use Rattle.text_lines.proofs.PutLemmas.{names_on}
use Rattle.trace_compare.proofs.SummaryLemmas.{lines_cut, lines_on, lines_start}
use Rattle.trace_compare.proofs.summary.put_counts.Goals as goal

pub loop-place-init : goal.loop-place-init
loop-place-init g c = record { text = lines_start _ c.args.first.now c.args.second.now; quiet = refl }

pub returns-in_err-put_count : goal.returns-in_err-put_count
returns-in_err-put_count g c =
    let passed = err_from_is_err_and c.from_residual.result c.from_residual.ensures.1 in
    rw (passed.1, passed.2) (record {
      text = lines_cut _ _ _ c.loop-place.place _ c.args.first.now c.args.second.now c.loop-place-test.true c.loop-place.invariant.text (rw (c.get.ensures, c.get-in-loop-place.ensures) at c.in_err-put_count.ensures.text);
      sink = names_on _ _ _ _ _ c.loop-place.invariant.quiet c.in_err-put_count.ensures.sink;
      other = c.in_err-put_count.ensures.other;
    })

pub loop-place-preserved : goal.loop-place-preserved
loop-place-preserved g c = record {
  text = lines_on _ _ _ c.loop-place.place c.args.first.now c.args.second.now c.loop-place.invariant.text (rw (c.get.ensures, c.get-in-loop-place.ensures) at c.in_ok-put_count.ensures.text);
  quiet = c.in_ok-put_count.ensures.sink.else ∙ c.loop-place.invariant.quiet;
}
