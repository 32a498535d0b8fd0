use Rattle.std.specs.Prelude.{⊤}
use Rattle.dapseq_tool.proofs.AskedLemmas.{refused_asked, refused_fit}
use Rattle.dapseq_tool.proofs.FrameLemmas.{fit_run}
use Rattle.dapseq_tool.proofs.asking.ask_for_run.Goals as goal

pub returns-in-Err-clause-asked : goal.returns-in-Err-clause-asked
returns-in-Err-clause-asked c =
    refused_asked c.args.selection.now c.args.sequence.now c.args.purpose c.args.bytes.now c.in-Err.refusal c.ask_no_run.result
    (rw c.own_of.ensures at c.in-Err.ensures.refused) c.ask_no_run.ensures

pub returns-in-Err-clause-fit : goal.returns-in-Err-clause-fit
returns-in-Err-clause-fit c = refused_fit c.in-Err.refusal c.ask_no_run.result c.ask_no_run.ensures

pub returns-in_ok-new-in-Ok-clause-fit : goal.returns-in_ok-new-in-Ok-clause-fit
returns-in_ok-new-in-Ok-clause-fit c =
    fit_run ⊤ (record { valid = c.in-Ok.valid; sequence = c.in_ok-new-in-Ok.field-0; purpose = c.args.purpose })
    (record { settings = c.in-Ok.ensures.settings; watch = c.in-Ok.ensures.watch; bench = c.in-Ok.ensures.ranges }) tt
