use Rattle.dapseq_tool.specs.Asked.{IsRunCommand}
use Rattle.command_words.specs.declared.answer.Command.TheVariants as commands
use Rattle.dapseq_tool.proofs.AskedLemmas.{bytes_asked, bytes_fit}
use Rattle.dapseq_tool.proofs.FrameLemmas.{all_fit_so}
use Rattle.dapseq_tool.proofs.asking.ask_by_bytes.Goals as goal

pub returns-in-Check-clause-asked : goal.returns-in-Check-clause-asked
returns-in-Check-clause-asked c = bytes_asked c.args.command.now (commands.Check c.in-Check.selection) c.args.bytes.now c.ask_for_check.result c.in-Check.is c.ask_for_check.ensures.asked

pub returns-in-Check-clause-fit : goal.returns-in-Check-clause-fit
returns-in-Check-clause-fit c = all_fit_so ⊥ (IsRunCommand c.args.command.now) (λ none. absurd none) c.ask_for_check.result c.ask_for_check.ensures.fit

pub returns-in-Run-clause-asked : goal.returns-in-Run-clause-asked
returns-in-Run-clause-asked c =
    bytes_asked c.args.command.now (commands.Run c.in-Run.selection c.in-Run.sequence) c.args.bytes.now c.ask_for_run.result c.in-Run.is (rw c.as_str.ensures at c.ask_for_run.ensures.asked)

pub returns-in-Run-clause-fit : goal.returns-in-Run-clause-fit
returns-in-Run-clause-fit c = bytes_fit c.args.command.now (commands.Run c.in-Run.selection c.in-Run.sequence) c.ask_for_run.result c.in-Run.is c.ask_for_run.ensures.fit

pub returns-in-Trace-clause-asked : goal.returns-in-Trace-clause-asked
returns-in-Trace-clause-asked c =
    bytes_asked c.args.command.now (commands.Trace c.in-Trace.selection c.in-Trace.sequence) c.args.bytes.now c.ask_for_run-in-Trace.result c.in-Trace.is
    (rw c.as_str-in-Trace.ensures at c.ask_for_run-in-Trace.ensures.asked)

pub returns-in-Trace-clause-fit : goal.returns-in-Trace-clause-fit
returns-in-Trace-clause-fit c =
    bytes_fit c.args.command.now (commands.Trace c.in-Trace.selection c.in-Trace.sequence) c.ask_for_run-in-Trace.result c.in-Trace.is c.ask_for_run-in-Trace.ensures.fit

pub returns-in-Load-clause-asked : goal.returns-in-Load-clause-asked
returns-in-Load-clause-asked c =
    bytes_asked c.args.command.now (commands.Load c.in-Load.selection c.in-Load.sequence) c.args.bytes.now c.ask_for_run-in-Load.result c.in-Load.is
    (rw c.as_str-in-Load.ensures at c.ask_for_run-in-Load.ensures.asked)

pub returns-in-Load-clause-fit : goal.returns-in-Load-clause-fit
returns-in-Load-clause-fit c =
    bytes_fit c.args.command.now (commands.Load c.in-Load.selection c.in-Load.sequence) c.ask_for_run-in-Load.result c.in-Load.is c.ask_for_run-in-Load.ensures.fit

pub returns-in-Scan-clause-asked : goal.returns-in-Scan-clause-asked
returns-in-Scan-clause-asked c =
    bytes_asked c.args.command.now (commands.Scan c.in-Scan.selection c.in-Scan.sequence c.in-Scan.ap) c.args.bytes.now c.ask_for_run-in-Scan.result c.in-Scan.is
    (rw c.as_str-in-Scan.ensures at c.ask_for_run-in-Scan.ensures.asked)

pub returns-in-Scan-clause-fit : goal.returns-in-Scan-clause-fit
returns-in-Scan-clause-fit c =
    bytes_fit c.args.command.now (commands.Scan c.in-Scan.selection c.in-Scan.sequence c.in-Scan.ap) c.ask_for_run-in-Scan.result c.in-Scan.is c.ask_for_run-in-Scan.ensures.fit

pub returns-in-Audit-clause-asked : goal.returns-in-Audit-clause-asked
returns-in-Audit-clause-asked c = bytes_asked c.args.command.now commands.Audit c.args.bytes.now c.ask_for_audit.result c.in-Audit.is c.ask_for_audit.ensures.asked

pub returns-in-Audit-clause-fit : goal.returns-in-Audit-clause-fit
returns-in-Audit-clause-fit c = all_fit_so ⊥ (IsRunCommand c.args.command.now) (λ none. absurd none) c.ask_for_audit.result c.ask_for_audit.ensures.fit
