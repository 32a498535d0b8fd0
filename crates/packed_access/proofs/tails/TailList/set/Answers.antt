use Rattle.std.proofs.Common.{rules, ◌∙◌, sym, ap, slice_set}
use Rattle.std.proofs.lemmas.List.{set-append_right}
use Rattle.packed_access.proofs.tails.TailList.set.Goals as goal

pub returns-clause-all : goal.returns-clause-all
returns-clause-all g c =
    let n = c.len.ensures in
    let k = c.requires.kept in
    sym (set-append_right c.self.inside.gone c.self.inside.items.items c.len.result c.args.index c.args.item (sym n) (search (rules))) ∙ ap (λ xs. slice_set xs c.args.index c.args.item) (ap (λ s. s.all) c.self.view_is)
