-- Sequences that are reached, one call deeper after another.
use Rattle.std.proofs.Common.{◌≡◌, ◌∙◌, ap, ℕ, suc, ◌+◌, List, [], arith}
use Rattle.sequence_trees.specs.Trees.{SetTrees}
use Rattle.expr_grammar.specs.Names.{with_name}
use Rattle.run_coverage.specs.Reach.{one_deeper, reached_sequences}

pub first_reached : (set : SetTrees) (names none : List (List ℕ)) (start : List ℕ) → none ≡ [] → names ≡ with_name none start → names ≡ reached_sequences set 0 start
unfolding reached_sequences
first_reached set names none start empty is = is ∙ ap (λ n. with_name n start) empty

pub next_reached : (set : SetTrees) (names now : List (List ℕ)) (d : ℕ) (start : List ℕ) → names ≡ reached_sequences set d start → now ≡ one_deeper set names → now ≡ reached_sequences set (d + 1) start
unfolding reached_sequences
next_reached set names now d start is next =
    let e : suc d ≡ d + 1 = omega arith in
    next ∙ ap (one_deeper set) is ∙ ap (λ n. reached_sequences set n start) e
