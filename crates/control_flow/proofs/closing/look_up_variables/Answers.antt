use Rattle.std.proofs.Common.{refl, sym, ap, subst, ◌∙◌, arith}
use Rattle.access_calls.specs.Reported.{world_from}
use Rattle.target_calls.specs.NeedPoints.{Asks}
use Rattle.target_calls.specs.Values.{IsAsked, number_of}
use Rattle.access_calls.proofs.KeepLemmas.{keeps_on}
use Rattle.sequence_rules.specs.Shared.{bindings_of}
use Rattle.control_flow.proofs.StartLemmas.{variables_more, asked_at}
use Rattle.control_flow.proofs.closing.look_up_variables.Goals as goal

pub loop-index-preserved : goal.loop-index-preserved
loop-index-preserved g c =
    let i = c.loop-index.invariant in
    let e = c.in_ok-value.ensures in
    record {
      so_far = λ m answered b l. variables_more (world_from m answered) _ _ c.loop-index.index c.in_ok-value.value _ _ _ _ c.in-Some.ensures c.in-Ok.ensures refl
          (e.value m answered (i.keeps.on m b) l ∙ ap (λ k. number_of (world_from m answered) k c.in-Some.value) i.calls) c.in-Ok-push.ensures.ok (i.so_far m answered b (e.keeps.goes.left answered l));
      within = omega (arith, c.len.ensures);
      calls = e.calls ∙ i.calls;
      asks = λ below. e.asks (subst (λ (a : Asks). IsAsked a.fence c.in-Some.value) (sym (i.asks below)) (asked_at (g.A.Access.reported c.args.access.now).asks.fence (bindings_of c.args.globals.now) c.loop-index.index _ below c.in-Some.ensures)) ∙ i.asks below;
      ended = e.open;
      keeps = keeps_on _ _ _ _ _ _ i.keeps e.keeps;
    }
