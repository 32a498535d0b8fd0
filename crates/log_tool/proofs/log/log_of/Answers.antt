use Rattle.std.proofs.Common.{refl, sym}
use Rattle.log_tool.specs.Logs.{subject_of}
use Rattle.log_tool.proofs.log.log_of.Goals as goal

pub returns : goal.returns
returns c =
    let s = subject_of c.args.valid.now c.args.asked.now.sequence in
    let run = c.in_ok-run.ensures.run in
    let seen = c.in_ok-run.ensures.seen in
    record {
      seen = seen.log;
      last = c.in_ok-last.ensures s run.0 c.args.asked.now.turns run.1 seen refl (sym c.as_str.ensures);
      status = c.status_of-status.ensures s run.0 c.args.asked.now.turns run.1 seen;
    }
