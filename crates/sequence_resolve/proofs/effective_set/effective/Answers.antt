use Rattle.std.proofs.Common.{[], sym, option_map}
use Rattle.sequence_resolve.specs.Levels.{path_of}
use Rattle.sequence_resolve.specs.Effective.{candidates}
use Rattle.sequence_resolve.specs.Winners.{with_all}
use Rattle.sequence_resolve.specs.Views.{place_view}
use Rattle.sequence_resolve.proofs.Greatest.{effective-with_all, distinct_entries}
use Rattle.sequence_resolve.proofs.OneSet.{one_set}
use Rattle.sequence_resolve.proofs.effective_set.effective.Goals as goal

pub returns-clause-answer : goal.returns-clause-answer
returns-clause-answer c =
    let place = place_view c.in_ok-place.place in
    let variant = option_map (λ v. v.now) c.in-Some.variant in
    let found = candidates (option_map (λ w. w.now) c.args.pname) 0 (path_of c.args.pack.now place variant) in
    record {
      place = place;
      only = c.in_ok-place.ensures;
      variant = variant;
      requested = sym c.in-Some.ensures;
      winners = with_all [] found;
      greatest = effective-with_all found;
      entries = c.in_ok-set_of.ensures.entries;
      debugvars = c.in_ok-set_of.ensures.debugvars;
    }

pub returns-clause-only : goal.returns-clause-only
returns-clause-only c = λ set is.
    one_set c.args.pack.now c.args.device.now (option_map (λ w. w.now) c.args.variant) (option_map (λ w. w.now) c.args.pname) c.in_ok-set_of.field-0 set
    (returns-clause-answer c) is

pub returns-clause-distinct : goal.returns-clause-distinct
returns-clause-distinct c =
    let place = place_view c.in_ok-place.place in
    let variant = option_map (λ v. v.now) c.in-Some.variant in
    rw c.in_ok-set_of.ensures.entries (distinct_entries (candidates (option_map (λ w. w.now) c.args.pname) 0 (path_of c.args.pack.now place variant)))
