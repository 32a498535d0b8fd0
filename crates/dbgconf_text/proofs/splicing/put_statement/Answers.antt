use Rattle.std.proofs.Common.{◌+◌, ◌-◌, ℕ, List, sym, subst, arith}
use Rattle.std.specs.Str.{IsCharBoundary}
use Rattle.dbgconf_text.proofs.splicing.put_statement.Goals as goal

pub overflow_add-from : goal.overflow_add-from
overflow_add-from c =
    let can = c.requires.can (record { from = c.in-Some.patch.equals + 1; to = c.in-Some.patch.semi; value = c.in-Some.patch.value }) c.in-Some.ensures.patch in
    omega (arith, can.to_low, can.to_in)

pub overflow_sub-from : goal.overflow_sub-from
overflow_sub-from c =
    let can = c.requires.can (record { from = c.in-Some.patch.equals + 1; to = c.in-Some.patch.semi; value = c.in-Some.patch.value }) c.in-Some.ensures.patch in
    can.from_low

pub split_at-requires : goal.split_at-requires
split_at-requires c =
    let can = c.requires.can (record { from = c.in-Some.patch.equals + 1; to = c.in-Some.patch.semi; value = c.in-Some.patch.value }) c.in-Some.ensures.patch in
    can.first_cut

pub overflow_sub-patch : goal.overflow_sub-patch
overflow_sub-patch c =
    let can = c.requires.can (record { from = c.in-Some.patch.equals + 1; to = c.in-Some.patch.semi; value = c.in-Some.patch.value }) c.in-Some.ensures.patch in
    can.to_low

pub split_at-requires-2 : goal.split_at-requires-2
split_at-requires-2 c =
    let can = c.requires.can (record { from = c.in-Some.patch.equals + 1; to = c.in-Some.patch.semi; value = c.in-Some.patch.value }) c.in-Some.ensures.patch in
    subst (λ (l : List ℕ). IsCharBoundary l (c.in-Some.patch.semi - (c.in-Some.patch.equals + 1))) (sym c.split_at.ensures.back) can.second_cut
