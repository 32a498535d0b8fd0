use Rattle.dbgconf_text.proofs.replacing.replace_in_text.Goals as goal

pub returns-in-Err : goal.returns-in-Err
returns-in-Err c = c.keep_text.ensures c.args.conf.now
