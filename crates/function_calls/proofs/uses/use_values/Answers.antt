use Rattle.std.proofs.Common.{◌+◌, ◌++◌, ◌∷◌, [], rules, refl, ◌∙◌}
use Rattle.access_calls.specs.Reported.{world_from}
use Rattle.access_calls.proofs.KeepLemmas.{keeps_on}
use Rattle.function_calls.proofs.Leaves.{passed_by}
use Rattle.function_calls.proofs.UseLemmas.{all_on, all_fail, all_over, all_refused, using_all}
use Rattle.function_calls.proofs.uses.use_values.Goals as goal

pub returns-in_err-number : goal.returns-in_err-number
returns-in_err-number g c = record {
  gives = λ m answered globals locals units lines steps written b l.
      passed_by _ _ _ _ _ _ c.from_residual.result c.from_residual.ensures.1
      (all_fail g.A.Access.cost (world_from m answered) (g.A.Access.reported c.use_value.new.access) c.in_err-number.field-0.0 _ c.args.values.now c.loop-value.value-index _ _ c.loop-value.numbers.items _ _
      (c.loop-value.invariant.same m answered globals locals units lines steps written b (c.use_value.ensures.keeps.goes.left answered l)) c.loop-value-test.true refl
      (c.in_err-number.ensures.gives m answered globals locals units lines steps written (c.loop-value.invariant.keeps.on m b) l));
  keeps = keeps_on _ _ _ _ _ _ c.loop-value.invariant.keeps c.in_err-number.ensures.keeps;
  ends = search (rules, using_all);
}

pub returns-in-Err : goal.returns-in-Err
returns-in-Err g c = record {
  gives = λ m answered globals locals units lines steps written b l.
      let i = c.loop-value.invariant in
      all_refused g.A.Access.cost (world_from m answered) _ c.args.values.now (c.loop-value.value-index + 1) (c.loop-value.numbers.items ++ c.in_ok-number.number ∷ []) _
      (all_on g.A.Access.cost (world_from m answered) _ c.args.values.now c.loop-value.value-index _ _ c.loop-value.numbers.items _ c.in_ok-number.number _ _
      (i.same m answered globals locals units lines steps written b (c.use_value.ensures.keeps.goes.left answered l)) c.loop-value-test.true refl
      (c.in_ok-number.ensures.gives m answered globals locals units lines steps written (i.keeps.on m b) l) refl);
  keeps = keeps_on _ _ _ _ _ _ c.loop-value.invariant.keeps c.in_ok-number.ensures.keeps;
  ends = record { end = c.in_ok-number.ensures.ends.end; calls = c.in_ok-number.ensures.ends.calls ∙ c.loop-value.invariant.ends.calls; cause = tt };
}

pub loop-value-preserved : goal.loop-value-preserved
loop-value-preserved g c =
    let i = c.loop-value.invariant in
    let e = c.in_ok-number.ensures in
    record {
      same = λ m answered globals locals units lines steps written b l.
          all_on g.A.Access.cost (world_from m answered) _ c.args.values.now c.loop-value.value-index _ _ c.loop-value.numbers.items _ c.in_ok-number.number _ _
          (i.same m answered globals locals units lines steps written b (e.keeps.goes.left answered l)) c.loop-value-test.true refl
          (e.gives m answered globals locals units lines steps written (i.keeps.on m b) l) c.in-Ok.ensures.items;
      keeps = keeps_on _ _ _ _ _ _ i.keeps e.keeps;
      ends = record { end = e.ends.end; calls = e.ends.calls ∙ i.ends.calls; cause = tt };
    }

pub returns : goal.returns
returns g c = record {
  gives = λ m answered globals locals units lines steps written b l.
      all_over g.A.Access.cost (world_from m answered) _ c.args.values.now c.loop-value.value-index c.loop-value.numbers.items _
      (c.loop-value.invariant.same m answered globals locals units lines steps written b l) c.loop-value-test.false;
  keeps = c.loop-value.invariant.keeps;
  ends = record { end = c.loop-value.invariant.ends.end; calls = c.loop-value.invariant.ends.calls; cause = tt };
}
