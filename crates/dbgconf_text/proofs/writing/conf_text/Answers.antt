use Rattle.std.proofs.Common.{◌≡◌, List, ℕ, IfOk, subst}
use Rattle.dbgconf_text.specs.declared.conf.ConfItem.{ConfItem}
use Rattle.dbgconf_text.specs.Written.{conf_bytes}
use Rattle.dbgconf_text.proofs.Written.{ok_again}
use Rattle.dbgconf_text.proofs.writing.conf_text.Goals as goal

pub returns-clause-again : goal.returns-clause-again
returns-clause-again c =
    let text : IfOk c.write_items.result (λ (t : List ℕ). t ≡ conf_bytes c.args.conf.now) =
    subst (λ (l : List ConfItem). IfOk c.write_items.result (λ (t : List ℕ). t ≡ conf_bytes l)) c.as_slice.ensures c.write_items.ensures in
    ok_again c.args.conf.now c.write_items.result c.requires text
