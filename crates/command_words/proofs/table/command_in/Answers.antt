use Rattle.std.proofs.Common.{ap, codes}
use Rattle.command_words.specs.Table.{mode_text}
use Rattle.command_words.proofs.TableLemmas.{no_check, no_gen, no_load, no_run, no_trace, none_of}
use Rattle.command_words.proofs.table.command_in.Goals as goal

pub returns-in_err-selection-in-Check : goal.returns-in_err-selection-in-Check
returns-in_err-selection-in-Check c = none_of _ (codes "check") _ _ c.from_residual.ensures (ap mode_text c.in-Check.is) (no_check _ c.in_err-selection-in-Check.ensures)

pub returns-in_err-selection-in-Run : goal.returns-in_err-selection-in-Run
returns-in_err-selection-in-Run c = none_of _ (codes "run") _ _ c.from_residual-in_err-selection-in-Run.ensures (ap mode_text c.in-Run.is) (no_run _ c.in_err-selection-in-Run.ensures)

pub returns-in_err-selection-in-Trace : goal.returns-in_err-selection-in-Trace
returns-in_err-selection-in-Trace c = none_of _ (codes "trace") _ _ c.from_residual-in_err-selection-in-Trace.ensures (ap mode_text c.in-Trace.is) (no_trace _ c.in_err-selection-in-Trace.ensures)

pub returns-in_err-selection-in-Load : goal.returns-in_err-selection-in-Load
returns-in_err-selection-in-Load c = none_of _ (codes "load") _ _ c.from_residual-in_err-selection-in-Load.ensures (ap mode_text c.in-Load.is) (no_load _ c.in_err-selection-in-Load.ensures)

pub returns-in_err-number-in-Gen : goal.returns-in_err-number-in-Gen
returns-in_err-number-in-Gen c = none_of _ (codes "gen") _ _ c.from_residual-in_err-number-in-Gen.ensures (ap mode_text c.in-Gen.is) (no_gen _ c.in_err-number-in-Gen.ensures)
