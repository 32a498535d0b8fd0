use Rattle.std.proofs.Common.{ap, sym, string_bytes, ◌∙◌}
use Rattle.std.proofs.lemmas.Slice.Eq.{bytes_eq-Decides}
use Rattle.sequence_rules.specs.Shared.{bindings_of}
use Rattle.sequence_rules.specs.Variables.{value_named}
use Rattle.sequence_rules.proofs.GlobalLemmas.{value_found}
use Rattle.sequence_rules.proofs.globals.Globals.value_at.Goals as goal

pub returns-in-Some : goal.returns-in-Some
returns-in-Some g c =
    sym (sym c.in-Some.ensures.value
    ∙ value_found (string_bytes c.in-Some.known.now) c.args.self.now.values.entries
    ∙ ap (value_named (bindings_of c.args.self.now)) (sym c.as_str.ensures.value ∙ sym ((bytes_eq-Decides c.args.name.now c.as_str.result.now).0 (sym c.same_name.ensures ∙ c.if-same_name.true))))
