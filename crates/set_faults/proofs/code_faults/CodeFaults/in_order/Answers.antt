use Rattle.std.proofs.Common.{rules}
use Rattle.std.proofs.lemmas.Fn.{dedup_same}
use Rattle.std.proofs.lemmas.List.Sorted.{answers_always}
use Rattle.code_check.specs.Order.{is_before}
use Rattle.set_faults.proofs.OrderLemmas.{is_order, is_again, listed_sorted}
use Rattle.set_faults.proofs.code_faults.CodeFaults.in_order.Goals as goal

pub returns : goal.returns
returns c =
    let up = c.sort_unstable_by.ensures.sorted is_before is_order (answers_always _ _ _ (λ f a r q k. search rules)) in
    rw (← c.self.view_is)
    (listed_sorted c.self.inside.faults.items c.sort_unstable_by.new.self.items c.dedup_by.new.self.items c.sort_unstable_by.ensures.permutation up (dedup_same _ is_again _ (λ x y b f' x' y' k. search rules) _ _ c.dedup_by.ensures.filtered))
