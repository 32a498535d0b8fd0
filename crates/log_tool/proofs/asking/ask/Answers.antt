use Rattle.log_tool.proofs.AskLemmas.{with_usage}
use Rattle.log_tool.proofs.asking.ask.Goals as goal

pub returns-in-Err-Usage-clause-asked : goal.returns-in-Err-Usage-clause-asked
returns-in-Err-Usage-clause-asked g c = with_usage c.args.words.now (g.S.Source.left c.args.source.now) (λ a is. c.in-Err-Usage.ensures.usage c.in-Err-Usage.field-0-is a is)

pub returns-in-Err-Usage-clause-taken : goal.returns-in-Err-Usage-clause-taken
returns-in-Err-Usage-clause-taken g c = λ line. absurd (c.in-Err-Usage.ensures.usage c.in-Err-Usage.field-0-is line.0 line.1)
