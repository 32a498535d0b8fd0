use Rattle.std.proofs.Common.{Err, ap}
use Rattle.dapseq_tool.specs.Asked.{IsRunCommand}
use Rattle.dapseq_tool.proofs.AskedLemmas.{long_asked}
use Rattle.dapseq_tool.proofs.FrameLemmas.{fit_too_long}
use Rattle.dapseq_tool.proofs.asking.ask_by_source.Goals as goal

pub returns-in-Err-TooLong-clause-asked : goal.returns-in-Err-TooLong-clause-asked
returns-in-Err-TooLong-clause-asked g c = long_asked (g.S.Source.left c.args.source.now) c.args.command.now (c.in-Err-TooLong.ensures.too_long (ap Err c.in-Err-TooLong.field-0-is))

pub returns-in-Err-TooLong-clause-fit : goal.returns-in-Err-TooLong-clause-fit
returns-in-Err-TooLong-clause-fit g c = fit_too_long (IsRunCommand c.args.command.now)
