use Rattle.std.proofs.Common.{sym, subst}
use Rattle.std.proofs.lemmas.List.Elements.{All-get_or}
use Rattle.pack_warnings.specs.Lined.{IsWarned}
use Rattle.pack_warnings.proofs.lined.lined_sets.Goals as goal

pub lined_set-requires : goal.lined_set-requires
lined_set-requires c =
    subst IsWarned (sym c.one-item.is) (All-get_or IsWarned c.args.warned.now c.loop-one.one-index c.one-item.result c.loop-one-test.true c.requires)
