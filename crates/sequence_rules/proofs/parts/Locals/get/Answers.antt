use Rattle.std.proofs.Common.{sym, ap, ◌∙◌}
use Rattle.sequence_rules.specs.Shared.{bindings_of}
use Rattle.sequence_rules.specs.Variables.{newest_in}
use Rattle.sequence_rules.proofs.LocalLemmas.{newest_of_last, newest_of_middle, newest_of_first}
use Rattle.sequence_rules.proofs.parts.Locals.get.Goals as goal

pub returns-in-Some : goal.returns-in-Some
returns-in-Some g c =
    let l = c.args.self.now in
    let n = c.args.name.now in
    newest_of_last l.first.items (bindings_of l.named) l.hiding.items n c.in-Some.value
    (sym c.in-Some.is ∙ c.newest_in.ensures ∙ ap (λ bs. newest_in bs n) c.deref.ensures.value)

pub returns-in-Some-get_newest : goal.returns-in-Some-get_newest
returns-in-Some-get_newest g c =
    let l = c.args.self.now in
    let n = c.args.name.now in
    newest_of_middle l.first.items (bindings_of l.named) l.hiding.items n c.in-Some-get_newest.value
    (sym c.in_default.is ∙ c.newest_in.ensures ∙ ap (λ bs. newest_in bs n) c.deref.ensures.value)
    (sym c.in-Some-get_newest.is ∙ c.get_newest.ensures)

pub returns : goal.returns
returns g c =
    let l = c.args.self.now in
    let n = c.args.name.now in
    newest_of_first l.first.items (bindings_of l.named) l.hiding.items n c.newest_in-2.result
    (sym c.in_default.is ∙ c.newest_in.ensures ∙ ap (λ bs. newest_in bs n) c.deref.ensures.value)
    (sym c.in_default-get_newest.is ∙ c.get_newest.ensures)
    (c.newest_in-2.ensures ∙ ap (λ bs. newest_in bs n) c.deref-2.ensures.value)
