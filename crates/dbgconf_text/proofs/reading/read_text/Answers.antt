use Rattle.std.proofs.Common.{subst, sym, Err}
use Rattle.dbgconf_text.specs.declared.conf.ConfFault.{ConfFault}
use Rattle.dbgconf_text.specs.Conf.{AnswersText, cut}
use Rattle.dbgconf_text.proofs.OneConf.{no_tokens}
use Rattle.dbgconf_text.proofs.reading.read_text.Goals as goal

pub returns-in-Ok : goal.returns-in-Ok
returns-in-Ok c = cut c.in-Ok.tokens c.in-Ok.ensures.answer c.read_items.ensures

pub returns-in-Err : goal.returns-in-Err
returns-in-Err c =
    subst (λ (f : ConfFault). AnswersText c.args.text.now (Err f)) (sym c.explain.ensures) (no_tokens c.args.text.now c.in-Err.error c.in-Err.ensures.answer)
