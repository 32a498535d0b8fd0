use Rattle.std.proofs.Common.{◌∙◌, ◌+◌, ℕ, List, slice_index, sym, ap, arith}
use Rattle.access_calls.proofs.KeepLemmas.{keeps_on}
use Rattle.access_calls.specs.Reported.{world_from}
use Rattle.target_calls.specs.World.{results}
use Rattle.target_calls.specs.declared.calls.Ask.{Ask}
use Rattle.image_load.proofs.DifferenceLemmas.{differs_at, next_at, rest_none}
use Rattle.image_load.proofs.loading.compare_all.Goals as goal

pub returns-in-Some-clause-differs : goal.returns-in-Some-clause-differs
returns-in-Some-clause-differs g c = λ m answered b l.
    let inv = c.loop-i.invariant in
    let old = (g.A.Access.reported c.args.access.now).asks.calls in
    sym (inv.so_far m answered b (c.in-Ok.ensures.ends.keeps.goes.left answered l)
    ∙ differs_at c.args.pieces.now c.loop-i.i _ (λ (k : ℕ). slice_index (results (world_from m answered) old) (c.args.first + k)) c.in-Some.differs c.in-Ok.value c.difference.result c.loop-i-test.true
    (c.in-Ok.ensures.value m answered (inv.keeps.on m b) l ∙ ap (λ (x : List Ask). slice_index (results (world_from m answered) x) (c.args.first + c.loop-i.i)) inv.calls)
    c.difference.ensures c.in-Some.is)

pub loop-i-preserved : goal.loop-i-preserved
loop-i-preserved g c =
    let inv = c.loop-i.invariant in
    let e = c.in-Ok.ensures in
    let old = (g.A.Access.reported c.args.access.now).asks.calls in
    record {
      so_far = λ m answered b l.
          inv.so_far m answered b (e.ends.keeps.goes.left answered l)
          ∙ next_at c.args.pieces.now c.loop-i.i _ (λ (k : ℕ). slice_index (results (world_from m answered) old) (c.args.first + k)) c.in-Ok.value c.difference.result c.loop-i-test.true
          (e.value m answered (inv.keeps.on m b) l ∙ ap (λ (x : List Ask). slice_index (results (world_from m answered) x) (c.args.first + c.loop-i.i)) inv.calls)
          c.difference.ensures c.in-None.is;
      calls = e.calls ∙ inv.calls;
      known = (let a = inv.known in let d = e.ends.keeps.goes.known in omega (arith, a, d));
      ended = e.ends.no_end inv.ended;
      keeps = keeps_on _ _ _ _ _ _ inv.keeps e.ends.keeps;
    }

pub returns-clause-differs : goal.returns-clause-differs
returns-clause-differs g c = λ m answered b l.
    sym (c.loop-i.invariant.so_far m answered b l ∙ rest_none c.args.pieces.now c.loop-i.i _ c.loop-i-test.false)
