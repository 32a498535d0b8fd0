use Rattle.std.proofs.Common.{◌≡◌, ℕ, List, [], map, Option, Some, None, option_map, Result, Ok, Err, bytes_eq}
use Rattle.std.specs.Prelude.{IfOk}
use Rattle.std.specs.List.{IsDistinct}
use Rattle.dap_base.specs.declared.text.OutOfMemory.{OutOfMemory}
use Rattle.device_tree.specs.declared.pack.Variant.{Variant}
use Rattle.device_tree.specs.declared.pack.Pack.{Pack}
use Rattle.sequence_resolve.specs.declared.entry.SeqSet.{SeqSet}
use Rattle.sequence_resolve.specs.Places.{DevicePlace}
use Rattle.sequence_resolve.specs.Levels.{path_of, deepest}
use Rattle.sequence_resolve.specs.Effective.{Candidate, candidates, entry_of}
use Rattle.sequence_resolve.specs.Resolving.{IsSetAlong}
use Rattle.sequence_resolve.specs.Winners.{with_all}
use Rattle.sequence_resolve.specs.Views.{place_view}
use Rattle.sequence_resolve.proofs.Greatest.{effective-with_all, distinct_entries}
use Rattle.sequence_resolve.proofs.OneSet.{one_set_along}
use Rattle.sequence_resolve.proofs.effective_set.set_along.Goals as goal

abbrev found : Pack → DevicePlace → Option Variant → Option (List ℕ) → List Candidate
found pack place variant pname = candidates pname 0 (path_of pack place variant)

is_along : (pack : Pack) (place : DevicePlace) (variant : Option Variant) (pname : Option (List ℕ)) (r : Result SeqSet OutOfMemory)
    → IfOk r (λ s. s.entries ≡ map entry_of (with_all [] (found pack place variant pname))) → IfOk r (λ s. s.debugvars ≡ deepest [] (path_of pack place variant))
    → IfOk r (IsSetAlong pack place variant pname)
is_along pack place variant pname (Ok s) entries debugvars = record {
  winners = with_all [] (found pack place variant pname);
  greatest = effective-with_all (found pack place variant pname);
  entries = entries;
  debugvars = debugvars;
}
is_along pack place variant pname (Err e) entries debugvars = tt

only_along : (pack : Pack) (place : DevicePlace) (variant : Option Variant) (pname : Option (List ℕ)) (r : Result SeqSet OutOfMemory) (set : SeqSet)
    → IfOk r (IsSetAlong pack place variant pname) → IsSetAlong pack place variant pname set → IfOk r (λ s. s ≡ set)
only_along pack place variant pname (Ok s) set is other = one_set_along pack place variant pname s set is other
only_along pack place variant pname (Err e) set is other = tt

distinct_along : (found : List Candidate) (r : Result SeqSet OutOfMemory) → IfOk r (λ s. s.entries ≡ map entry_of (with_all [] found))
    → IfOk r (λ s. IsDistinct bytes_eq (map (λ e. e.name) s.entries))
distinct_along found (Ok s) entries = rw entries (distinct_entries found)
distinct_along found (Err e) entries = tt

pub returns-clause-answer : goal.returns-clause-answer
returns-clause-answer c =
    is_along c.args.pack.now (place_view c.args.place.now) (option_map (λ v. v.now) c.args.variant) (option_map (λ w. w.now) c.args.pname) _
    c.set_of.ensures.entries c.set_of.ensures.debugvars

pub returns-clause-only : goal.returns-clause-only
returns-clause-only c = λ set is.
    only_along c.args.pack.now (place_view c.args.place.now) (option_map (λ v. v.now) c.args.variant) (option_map (λ w. w.now) c.args.pname) _ set
    (returns-clause-answer c) is

pub returns-clause-distinct : goal.returns-clause-distinct
returns-clause-distinct c =
    distinct_along (found c.args.pack.now (place_view c.args.place.now) (option_map (λ v. v.now) c.args.variant) (option_map (λ w. w.now) c.args.pname)) _
    c.set_of.ensures.entries
