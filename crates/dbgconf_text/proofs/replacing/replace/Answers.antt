use Rattle.std.proofs.Common.{List, IfOk, subst}
use Rattle.dbgconf_text.specs.declared.conf.ConfItem.{ConfItem}
use Rattle.dbgconf_text.specs.Replacing.{HasValues}
use Rattle.dbgconf_text.proofs.Replaced.{has_ok}
use Rattle.dbgconf_text.proofs.replacing.replace.Goals as goal

pub returns-clause-tree : goal.returns-clause-tree
returns-clause-tree c =
    let slice = c.as_slice.result.now in
    subst (λ (l : List ConfItem). IfOk c.replace_in_text.result (HasValues c.args.debugvars.now l)) c.as_slice.ensures (has_ok c.args.debugvars.now slice c.replace_in_text.result c.replace_in_text.ensures)
