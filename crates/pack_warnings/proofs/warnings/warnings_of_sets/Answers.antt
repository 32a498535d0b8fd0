use Rattle.std.proofs.Common.{List, sym, subst}
use Rattle.std.specs.List.{All}
use Rattle.pack_warnings.specs.declared.lined.WarnedSet.{WarnedSet}
use Rattle.pack_warnings.specs.Lined.{IsWarned}
use Rattle.pack_warnings.proofs.SetLemmas.{warned_within, list_of_known}
use Rattle.pack_warnings.proofs.warnings.warnings_of_sets.Goals as goal

pub list_from-requires-clause-warned : goal.list_from-requires-clause-warned
list_from-requires-clause-warned c = subst (λ (ws : List WarnedSet). All IsWarned ws) (sym c.as_slice.ensures) c.in_ok-warned.ensures.warned

pub list_from-requires-clause-within : goal.list_from-requires-clause-within
list_from-requires-clause-within c =
    warned_within c.args.known.now c.in_ok-warned.warned c.as_slice.result.now c.args.sets.now c.in_ok-warned.ensures.sets c.as_slice.ensures c.requires.within

pub returns : goal.returns
returns c =
    list_of_known c.args.known.now c.in_ok-warned.warned c.as_slice.result.now c.args.sets.now c.list_from.result c.in_ok-warned.ensures.sets c.as_slice.ensures c.list_from.ensures
