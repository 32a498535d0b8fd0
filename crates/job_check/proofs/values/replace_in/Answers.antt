use Rattle.std.proofs.Common.{rules, ◌≡◌, ℕ, List, Err, subst}
use Rattle.dbgconf_text.specs.Replacing.{Replaces}
use Rattle.job_check.proofs.ValueLemmas.{refused_name}
use Rattle.job_check.proofs.values.replace_in.Goals as goal

pub returns-in-Err-clause-refused : goal.returns-in-Err-clause-refused
returns-in-Err-clause-refused c =
    let same : c.as_str.result.now ≡ c.args.set.debugvars = search rules in
    rw c.refuse_name.ensures
    (refused_name c.args.conf.now c.args.set.debugvars c.in-Err.fault (subst (λ (text : List ℕ). Replaces text c.args.conf.now (Err c.in-Err.fault)) same c.in-Err.ensures.answer))
