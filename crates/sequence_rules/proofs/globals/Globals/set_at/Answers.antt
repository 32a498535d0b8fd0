use Rattle.std.proofs.Common.{map, ap, sym, ◌∙◌}
use Rattle.std.proofs.lemmas.Slice.Eq.{bytes_eq-Decides}
use Rattle.sequence_rules.specs.Shared.{entry_binding}
use Rattle.sequence_rules.proofs.GlobalLemmas.{place_has, place_set, same_value}
use Rattle.sequence_rules.proofs.globals.Globals.set_at.Goals as goal

pub returns-then-same_name-clause-found : goal.returns-then-same_name-clause-found
returns-then-same_name-clause-found g c = λ yes.
    place_has c.args.name.now c.args.self.now.values.entries c.args.index _ _ c.pair_mut-stored.ensures.value
    (sym c.as_str.ensures.value ∙ sym ((bytes_eq-Decides c.args.name.now c.as_str.result.now).0 (sym c.same_name.ensures ∙ c.if-same_name.true)))

pub returns-then-same_name-clause-set : goal.returns-then-same_name-clause-set
returns-then-same_name-clause-set g c = λ yes.
    place_set c.args.name.now c.args.self.now.values.entries c.args.index _ _ c.args.value c.pair_mut-stored.ensures.unique c.pair_mut-stored.ensures.value
    (sym c.as_str.ensures.value ∙ sym ((bytes_eq-Decides c.args.name.now c.as_str.result.now).0 (sym c.same_name.ensures ∙ c.if-same_name.true)))

pub returns-else-same_name-clause-same : goal.returns-else-same_name-clause-same
returns-else-same_name-clause-same g c = λ no. ap (map entry_binding) (same_value c.args.self.now.values.entries c.args.index _ _ c.pair_mut-stored.ensures.value)
