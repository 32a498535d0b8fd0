use Rattle.std.proofs.Common.{◌∙◌, List, map, ap, sym, subst}
use Rattle.std.specs.List.{All}
use Rattle.pack_faults.specs.declared.known.KnownSet.{KnownSet}
use Rattle.pack_faults.specs.declared.sets.SetRef.{SetRef}
use Rattle.pack_faults.specs.Known.{IsKnown}
use Rattle.pack_faults.specs.Shared.{HasNumberOfSet}
use Rattle.pack_faults.specs.Sets.{SetAt}
use Rattle.pack_faults.specs.Views.{set_view}
use Rattle.pack_faults.proofs.AnswerLemmas.{found_within}
use Rattle.pack_warnings.specs.Answers.{AreFoundIn}
use Rattle.pack_warnings.proofs.warnings.list_in.Goals as goal

pub warnings_of_sets-requires-clause-known : goal.warnings_of_sets-requires-clause-known
warnings_of_sets-requires-clause-known c = subst (λ (ks : List KnownSet). All IsKnown ks) (sym c.as_slice.ensures) c.in_ok-found.ensures.fine.known

pub warnings_of_sets-requires-clause-within : goal.warnings_of_sets-requires-clause-within
warnings_of_sets-requires-clause-within c =
    found_within c.args.pack.now c.in_ok-found.found c.as_slice.result.now c.as_slice-2.result.now c.as_slice.ensures c.as_slice-2.ensures c.in_ok-found.ensures.fine

pub returns-clause-answer : goal.returns-clause-answer
returns-clause-answer c =
    let pack = c.args.pack.now in
    let fine = c.in_ok-found.ensures.fine in
    let known = subst (λ (ks : List KnownSet). All (HasNumberOfSet pack ks) c.in_ok-found.found.sets) (sym c.as_slice.ensures) fine.found in
    let found = subst (λ (ss : List SetRef). All (HasNumberOfSet pack c.as_slice.result.now) ss) (sym c.as_slice-2.ensures) known in
    let merged = c.in_ok-warnings_of_sets.ensures pack found in
    record {
      lists = merged.lists;
      are = subst (λ (ss : List SetAt). AreFoundIn pack ss merged.lists) (ap (map set_view) c.as_slice-2.ensures ∙ c.in_ok-found.ensures.sets) merged.are;
      is = merged.is;
    }
