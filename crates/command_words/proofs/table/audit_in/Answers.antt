use Rattle.std.proofs.Common.{◌≡◌}
use Rattle.command_words.specs.Table.{no_options}
use Rattle.command_words.proofs.TableLemmas.{no_audit}
use Rattle.command_words.proofs.table.audit_in.Goals as goal

pub returns : goal.returns
returns c =
    let never : c.args.options ≡ no_options → ⊥ = λ e. (let given = c.if-are_none.ensures.1 e in cc) in
    λ it row. no_audit c.args.options never it row
