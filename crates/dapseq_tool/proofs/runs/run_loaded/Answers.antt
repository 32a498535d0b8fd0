use Rattle.std.proofs.Common.{◌≡◌, ◌∙◌, ap₂, subst}
use Rattle.dap_base.specs.Streams.{PutAppends}
use Rattle.access_calls.specs.Causes.{code_of_cause}
use Rattle.access_calls.specs.declared.ended.Ended.{Ended}
use Rattle.report_lines.specs.Endings.{ending_lines}
use Rattle.sequels.specs.declared.close.Close.{Close}
use Rattle.sequels.specs.declared.close.Close.TheVariants as closes
use Rattle.job_runs.specs.Texts.{first_lines, whole_text}
use Rattle.dapseq_tool.specs.Answers.{status_after}
use Rattle.dapseq_tool.specs.Purpose.{shows_packets}
use Rattle.dapseq_tool.proofs.RunLemmas.{among, bad_after, counts_bench, counts_sink, first_written, got_after, hidden_end, kept_run, nothing_closes, on_some, silent_end, status_is, text_put, text_written}
use Rattle.dapseq_tool.proofs.runs.run_loaded.Goals as goal

pub returns-clause-run : goal.returns-clause-run
returns-clause-run g c =
    let ran = c.run_whole-ran.result in
    let run = c.args.run.now in
    let w = c.write_whole-written.result in
    let mid = g.K.Sink.written c.run_whole-ran.new.sink in
    let new = g.K.Sink.written c.write_whole-written.new.sink in
    let is : c.status_after.result ≡ status_after w ran.ended.ending ran.close =
    c.status_after.ensures ∙ ap₂ (λ (x : Ended) (k : Close). status_after w x.ending k) c.write_whole-written.ensures.ended c.write_whole-written.ensures.close in (
      record { ended = ran.ended; close = ran.close; sent = ran.sent; got = ran.got; written = mid },
      record {
        comes = λ known.
            let r = c.run_whole-ran.ensures.run known in (
              r.0,
              record {
                state = c.write_whole-written.ensures.same.state ∙ r.1;
                comes = rw (c.as_str-sequence.ensures, c.followed_of-followed.ensures) at r.2;
                close = λ done. rw (c.as_str-sequence.ensures, c.followed_of-followed.ensures) at (c.run_whole-ran.ensures.close known done);
                text = rw (← c.shows_packets-is_traced.ensures) (text_written w ran.ended.ending ran.close mid new (whole_text c.shows_packets-is_traced.result ran.ended ran.close ran.sent ran.got run.valid.job r.0) c.status_after.result is
                    (on_some (g.B.Bench.state ran.bench) r.0 (λ n. PutAppends mid new w (whole_text c.shows_packets-is_traced.result ran.ended ran.close ran.sent ran.got run.valid.job n)) r.1 c.write_whole-written.ensures.text));
                log = kept_run run.valid.job.bench (g.B.Bench.state c.args.bench) (g.B.Bench.state ran.bench) r.0 known r.1 c.run_whole-ran.ensures.goes.runs;
              },
            );
        alone = λ hidden.
            let none = c.run_whole-ran.ensures.unclosed (hidden_end ran.ended.ending hidden) in
            text_put w ran.ended.ending closes.Nothing mid new _ c.status_after.result (subst (λ (k : Close). c.status_after.result ≡ status_after w ran.ended.ending k) none is)
            (c.write_whole-written.ensures.unasked none hidden) (c.write_whole-written.ensures.alone none hidden);
        lines = c.run_whole-ran.ensures.lines;
        front = first_written w ran.ended.ending ran.close mid new (first_lines ran.ended ran.close ran.sent ran.got) c.status_after.result is c.write_whole-written.ensures.front;
        status = status_is w ran.ended.ending ran.close c.status_after.result is;
        nothing = nothing_closes c.followed_of-followed.result ran.ended.ending ran.close _ c.followed_of-followed.ensures c.run_whole-ran.ensures.closes c.run_whole-ran.ensures.unclosed;
        unclosed = c.run_whole-ran.ensures.unclosed;
        cut = λ report cut. got_after (code_of_cause report.cause) (g.B.Bench.reported c.args.bench) (g.B.Bench.reported ran.bench) (g.B.Bench.reported c.write_whole-written.new.ran.bench)
            c.write_whole-written.ensures.same.reported (c.run_whole-ran.ensures.cut report cut);
        bad = λ bad. bad_after (g.B.Bench.reported c.args.bench) (g.B.Bench.reported ran.bench) (g.B.Bench.reported c.write_whole-written.new.ran.bench) ran.sent ran.got
            c.write_whole-written.ensures.same.reported (c.run_whole-ran.ensures.bad bad);
      },
    )

pub returns-clause-keeps : goal.returns-clause-keeps
returns-clause-keeps g c = record {
  identity = c.write_whole-written.ensures.identity ∙ c.run_whole-ran.ensures.identity;
  sink = let ran = c.run_whole-ran.result in
      counts_sink c.write_whole-written.result ran.ended.ending ran.close c.status_after.result (g.K.Sink.faults c.args.sink.now) (g.K.Sink.faults c.run_whole-ran.new.sink)
      (g.K.Sink.faults c.write_whole-written.new.sink)
      (c.status_after.ensures ∙ ap₂ (λ (x : Ended) (k : Close). status_after c.write_whole-written.result x.ending k) c.write_whole-written.ensures.ended c.write_whole-written.ensures.close)
      (λ silent. c.write_whole-written.ensures.silent (c.run_whole-ran.ensures.unclosed (silent_end ran.ended.ending silent)) silent)
      c.run_whole-ran.ensures.sink c.write_whole-written.ensures.sink;
  bench = let ran = c.run_whole-ran.result in
      counts_bench c.write_whole-written.result ran.ended.ending ran.close c.status_after.result (g.B.Bench.reported c.args.bench).faults (g.B.Bench.reported ran.bench).faults
      (g.B.Bench.reported c.write_whole-written.new.ran.bench).faults
      (c.status_after.ensures ∙ ap₂ (λ (x : Ended) (k : Close). status_after c.write_whole-written.result x.ending k) c.write_whole-written.ensures.ended c.write_whole-written.ensures.close)
      c.run_whole-ran.ensures.bench c.write_whole-written.ensures.bench;
  among = let ran = c.run_whole-ran.result in
      among c.write_whole-written.result ran.ended.ending ran.close c.status_after.result
      (c.status_after.ensures ∙ ap₂ (λ (x : Ended) (k : Close). status_after c.write_whole-written.result x.ending k) c.write_whole-written.ensures.ended c.write_whole-written.ensures.close);
}
