use Rattle.std.proofs.Common.{rules, ◌≡◌, ◌∙◌, true, nat_lt, length, take, ap, subst, sym, arith}
use Rattle.std.specs.Io.KnownBytes.{Appends}
use Rattle.access_calls.specs.Reported.{world_from}
use Rattle.sequence_rules.specs.Known.{known_part}
use Rattle.function_calls.specs.Held.{late_state_seen}
use Rattle.sequence_rules.proofs.KnownLemmas.{known_more, knows_more}
use Rattle.function_calls.proofs.WholeLines.{kept_whole, lines_more, whole_bytes}
use Rattle.function_calls.proofs.Leaves.{passed}
use Rattle.function_calls.proofs.LineLemmas.{line_on, line_fails, line_stops, line_refused, lines}
use Rattle.function_calls.proofs.lines.write_line.Goals as goal

pub returns-in_err-confirm : goal.returns-in_err-confirm
returns-in_err-confirm g c = λ text is. record {
  gives = λ m answered known b l knows.
      passed _ _ _ _ _ c.from_residual.result c.from_residual.ensures.1
      (line_stops g.A.Access.cost (world_from m answered) text c.args.value (late_state_seen known c.args.held.now (g.A.Access.reported c.args.access.now).asks (g.K.Sink.written c.args.sink.now)) (g.A.Access.reported c.confirm.new.access).asks _ c.in_err-confirm.field-0.0
      c.in_err-confirm.ensures.ends.calls (c.in_err-confirm.ensures.stops m answered b l));
  keeps = c.confirm.ensures.keeps;
  ends = search (rules, lines, kept_whole);
}

pub returns-in_default : goal.returns-in_default
returns-in_default g c = λ text is. record {
  gives = λ m answered known b l knows.
      line_refused g.A.Access.cost (world_from m answered) text c.args.value (late_state_seen known c.args.held.now (g.A.Access.reported c.args.access.now).asks (g.K.Sink.written c.args.sink.now));
  keeps = search (rules, lines);
  ends = search (rules, lines, kept_whole);
}

pub returns-in-Ok-put : goal.returns-in-Ok-put
returns-in-Ok-put g c = λ text is. record {
  gives = λ m answered known b l knows.
      let some : nat_lt c.args.held.now.lines 100000 ≡ true = grind arith in
      let line : c.in-Ok.line ≡ text = rw c.in-Ok.is at is in
      let old = g.K.Sink.written c.args.sink.now in
      let new = g.K.Sink.written c.put.new.self in
      line_on g.A.Access.cost (world_from m answered) text c.args.value (late_state_seen known c.args.held.now (g.A.Access.reported c.args.access.now).asks old) (g.A.Access.reported c.confirm.new.access).asks (known_part known new) some
      (c.in_ok-confirm.ensures.whole m answered b l) c.in_ok-confirm.ensures.asks (known_more known old new text (subst (λ x. Appends old new x) (c.as_bytes.ensures ∙ line) c.in-Ok-put.ensures.bytes) knows);
  keeps = c.confirm.ensures.keeps;
  ends = record {
    end = c.in_ok-confirm.ensures.ends.end;
    counted = c.requires.ready.counted ∙ sym (ap length c.in_ok-confirm.ensures.ends.calls);
    knows = λ known k. knows_more known _ _ _ c.in-Ok-put.ensures.bytes k;
    lines = λ before h. lines_more before _ _ _ h (whole_bytes _ _ _ c.as_bytes.ensures c.in-Ok.is c.requires.whole) c.in-Ok-put.ensures.bytes;
    cause = search rules;
  };
}

pub returns : goal.returns
returns g c = λ text is. record {
  gives = λ m answered known b l knows.
      let some : nat_lt c.args.held.now.lines 100000 ≡ true = grind arith in
      let line : c.in-Ok.line ≡ text = rw c.in-Ok.is at is in
      let old = g.K.Sink.written c.args.sink.now in
      let new = g.K.Sink.written c.put.new.self in
      let part = c.in-Err.ensures.bytes in
      line_fails g.A.Access.cost (world_from m answered) text c.args.value (late_state_seen known c.args.held.now (g.A.Access.reported c.args.access.now).asks old) (g.A.Access.reported c.confirm.new.access).asks (known_part known new) part.0 some
      (c.in_ok-confirm.ensures.whole m answered b l) c.in_ok-confirm.ensures.ends.calls (known_more known old new (take part.0 text) (subst (λ x. Appends old new (take part.0 x)) (c.as_bytes.ensures ∙ line) part.1) knows);
  keeps = c.confirm.ensures.keeps;
  ends = search (rules, lines, kept_whole);
}
