use Rattle.std.proofs.Common.{map, sym, ap, is_some, ◌∙◌}
use Rattle.std.specs.Option.{option_copied_mut}
use Rattle.sequence_rules.specs.Shared.{entry_binding}
use Rattle.sequence_rules.proofs.GlobalLemmas.{name_found, value_set, none_set}
use Rattle.sequence_rules.proofs.globals.Globals.set_stored.Goals as goal

pub returns-in-Some-clause-found : goal.returns-in-Some-clause-found
returns-in-Some-clause-found g c =
    sym (ap (λ r. is_some (option_copied_mut r)) c.in-Some.is) ∙ ap is_some c.get_mut.ensures.value ∙ name_found c.args.name.now c.args.self.now.values.entries

pub returns-in-Some-clause-set : goal.returns-in-Some-clause-set
returns-in-Some-clause-set g c = ap (map entry_binding) (c.get_mut.follows.holds c.args.value).0 ∙ value_set c.args.name.now c.args.self.now.values.entries c.args.value

pub returns-in-None-clause-found : goal.returns-in-None-clause-found
returns-in-None-clause-found g c =
    sym (ap (λ r. is_some (option_copied_mut r)) c.in-None.is) ∙ ap is_some c.get_mut.ensures.value ∙ name_found c.args.name.now c.args.self.now.values.entries

pub returns-in-None-clause-set : goal.returns-in-None-clause-set
returns-in-None-clause-set g c =
    ap (λ m. map entry_binding m.entries) c.get_mut.follows.holds-at-none
    ∙ none_set c.args.name.now c.args.self.now.values.entries c.args.value (sym c.get_mut.ensures.value ∙ ap option_copied_mut c.in-None.is)
