use Rattle.std.proofs.Common.{◌≡◌, ◌∙◌, ◌≤◌, List, length, map, ap, sym, subst, arith}
use Rattle.std.proofs.lemmas.List.{take_all}
use Rattle.std.proofs.lemmas.List.Elements.{All-get_or}
use Rattle.std.proofs.lemmas.Option.{get_or_from_slice_get}
use Rattle.pack_faults.specs.declared.sets.SetRef.{SetRef}
use Rattle.pack_faults.specs.Views.{set_view}
use Rattle.pack_warnings.specs.declared.lined.LinedWarnings.{LinedWarnings}
use Rattle.pack_warnings.specs.Answers.{AreFound, AreMerged}
use Rattle.pack_warnings.specs.Lined.{lined_warning_view, lined_set_view, IsFoundAt}
use Rattle.pack_warnings.specs.Merged.{with_each_warning}
use Rattle.pack_warnings.proofs.SetLemmas.{merged_more}
use Rattle.pack_warnings.proofs.warnings.warnings_in.Goals as goal

pub loop-number-preserved : goal.loop-number-preserved
loop-number-preserved c = record {
  done = λ pack found. (
      let sets = c.args.sets.now in
      let i = c.loop-number.number in
      let s = c.index-sets-number.result in
      let all = c.args.found.now in
      let one = c.index-found-at.result in
      let is : IsFoundAt pack all s = subst (IsFoundAt pack all) (sym c.index-sets-number.is) (All-get_or (IsFoundAt pack all) sets i s c.loop-number-test.true found) in
      let same : one ≡ is.one = c.index-found-at.is ∙ get_or_from_slice_get all s.number is.one one is.there in
      let are = subst (λ (x : LinedWarnings). AreFound pack (set_view s) (lined_set_view x)) (sym same) is.is in
      merged_more pack sets i s (lined_set_view one) c.loop-number.warnings.list.items c.add_warnings.new.warnings.list.items c.loop-number-test.true c.index-sets-number.is
      (c.loop-number.invariant.done pack found) are
      (c.in_ok-add_warnings.ensures.list ∙ ap (λ ls. with_each_warning i (map lined_warning_view ls) c.loop-number.warnings.list.items) c.as_slice.ensures));
  knows = c.in_ok-add_warnings.ensures.knows;
}

pub returns : goal.returns
returns c = λ pack found. (
    let far : length c.args.sets.now ≤ c.loop-number.number = grind (arith, c.loop-number-test.false) in
    subst (λ (ss : List SetRef). AreMerged pack (map set_view ss) c.loop-number.warnings.list.items) (take_all c.loop-number.number c.args.sets.now far) (c.loop-number.invariant.done pack found))
