use Rattle.std.proofs.Common.{◌∙◌, ◌≡◌, arith, subst}
use Rattle.std.proofs.lemmas.Grind.{common_steps}
use Rattle.dap_base.specs.Streams.{AppendsPrefix}
use Rattle.sequence_rules.proofs.KnownLemmas.{known_more, knows_more, knows_part}
use Rattle.sequence_meaning.proofs.StopLemmas.{line_broken}
use Rattle.sequence_meaning.proofs.functions.write_line.Goals as goal

pub returns-in-Err-Failed : goal.returns-in-Err-Failed
returns-in-Err-Failed g c = λ target text is. record {
  gives = λ known knows.
      let same : c.as_bytes.result.now ≡ text = c.as_bytes.ensures ∙ (rw c.in-Ok.is at is) in
      line_broken known c.args.held.now target (g.K.Sink.written c.args.sink.now) (g.K.Sink.written c.put_text.new.sink) text c.args.value c.if-held-ge-MOST_LINES.false
      (subst (λ l. AppendsPrefix (g.K.Sink.written c.args.sink.now) (g.K.Sink.written c.put_text.new.sink) l) same c.in-Err-Failed.ensures.puts.text) knows;
  keeps = grind (arith, common_steps, known_more, knows_more, knows_part);
  cause = grind (arith, common_steps);
}

pub returns : goal.returns
returns g c = λ target text is. record {
  gives = λ known knows.
      let same : c.as_bytes.result.now ≡ text = c.as_bytes.ensures ∙ (rw c.in-Ok.is at is) in
      line_broken known c.args.held.now target (g.K.Sink.written c.args.sink.now) (g.K.Sink.written c.put_text.new.sink) text c.args.value c.if-held-ge-MOST_LINES.false
      (subst (λ l. AppendsPrefix (g.K.Sink.written c.args.sink.now) (g.K.Sink.written c.put_text.new.sink) l) same c.in-Err-OutOfMemory.ensures.puts.text) knows;
  keeps = grind (arith, common_steps, known_more, knows_more, knows_part);
  cause = grind (arith, common_steps);
}
