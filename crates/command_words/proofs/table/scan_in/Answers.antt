use Rattle.std.proofs.Common.{refl, codes}
use Rattle.command_words.specs.declared.mode.Mode.TheVariants as mode
use Rattle.command_words.proofs.TableLemmas.{no_scan, none_of}
use Rattle.command_words.proofs.table.scan_in.Goals as goal

pub returns-in_err-selection : goal.returns-in_err-selection
returns-in_err-selection c = none_of mode.Scan (codes "scan") _ _ c.from_residual.ensures refl (no_scan _ c.in_err-selection.ensures)
