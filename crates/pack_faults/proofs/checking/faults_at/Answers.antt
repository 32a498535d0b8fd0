use Rattle.std.proofs.Common.{◌≡◌, ◌∙◌, ◌≤◌, List, length, map, take, sym, subst, arith}
use Rattle.std.proofs.lemmas.List.{take_all}
use Rattle.std.proofs.lemmas.List.Elements.{All-get_or}
use Rattle.std.proofs.lemmas.Option.{get_or_from_slice_get}
use Rattle.pack_faults.specs.declared.lined.LinedSet.{LinedSet}
use Rattle.pack_faults.specs.declared.sets.SetRef.{SetRef}
use Rattle.pack_faults.specs.Answers.{IsCheckOfSet}
use Rattle.pack_faults.specs.Lined.{checked_view, IsCheckedAt}
use Rattle.pack_faults.specs.Sets.{SetAt}
use Rattle.pack_faults.specs.Views.{set_view}
use Rattle.pack_faults.specs.Steps.{AreDone}
use Rattle.pack_faults.proofs.SharedLemmas.{map_taken}
use Rattle.pack_faults.proofs.checking.faults_at.Goals as goal

pub loop-at-preserved : goal.loop-at-preserved
loop-at-preserved c = record {
  done = λ pack found. (
      let sets = c.args.sets.now in
      let i = c.loop-at.at-index in
      let s = c.at-item.result in
      let all = c.args.found.now in
      let one = c.index-found-at.result in
      let is : IsCheckedAt pack all s = subst (IsCheckedAt pack all) (sym c.at-item.is) (All-get_or (IsCheckedAt pack all) sets i s c.loop-at-test.true found) in
      let same : one ≡ is.one = c.index-found-at.is ∙ get_or_from_slice_get all s.number is.one one is.there in
      let checked = subst (λ (x : LinedSet). IsCheckOfSet pack (set_view s) (checked_view x)) (sym same) is.is in
      subst (λ (ss : List SetAt). AreDone pack ss c.note.new.checking) (sym (map_taken set_view sets i s c.loop-at-test.true c.at-item.is))
      (c.in_ok-note.ensures.ok pack (map set_view (take i sets)) (set_view s) checked (c.loop-at.invariant.done pack found)));
  knows = c.in_ok-note.ensures.knows;
}

pub returns : goal.returns
returns c = λ pack found. (
    let far : length c.args.sets.now ≤ c.loop-at.at-index = grind (arith, c.loop-at-test.false) in
    subst (λ (ss : List SetRef). AreDone pack (map set_view ss) c.loop-at.checking) (take_all c.loop-at.at-index c.args.sets.now far) (c.loop-at.invariant.done pack found))
