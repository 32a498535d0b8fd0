-- The text of arguments, one after the other.
use Rattle.std.proofs.Common.{◌≡◌, ◌∙◌, ℕ, ◌+◌, ◌<◌, ◌≤◌, Bool, false, List, ◌++◌, length, drop, get_or, refl, sym, ap}
use Rattle.std.proofs.lemmas.List.{append_assoc, append-nil, drop_all, drop_more}
use Rattle.expr_grammar.specs.declared.code.Arg.{Arg}
use Rattle.expr_grammar.specs.Tree.{arg_tree, arg_trees}
use Rattle.log_lines.specs.CodeText.{arg_text, args_text, comma_text}

more_text : (is_first : Bool) (xs : List Arg) (i : ℕ) (d : Arg) → i < length xs
    → args_text is_first (arg_trees (drop i xs)) ≡ comma_text is_first ++ arg_text (arg_tree (get_or xs i d)) ++ args_text false (arg_trees (drop (i + 1) xs))
unfolding args_text
more_text is_first xs i d h = rw (drop_more xs i d h) refl

pub args_next : (total line comma now : List ℕ) (is_first : Bool) (xs : List Arg) (i : ℕ) (d a : Arg) → total ≡ line ++ args_text is_first (arg_trees (drop i xs)) → i < length xs → a ≡ get_or xs i d
    → comma ≡ line ++ comma_text is_first → now ≡ comma ++ arg_text (arg_tree a) → total ≡ now ++ args_text false (arg_trees (drop (i + 1) xs))
args_next total line comma now is_first xs i d a same h is first next =
    let rest : List ℕ = args_text false (arg_trees (drop (i + 1) xs)) in
    same ∙ ap (λ t. line ++ t) (more_text is_first xs i d h)
    ∙ sym (ap (λ t. t ++ rest) (next ∙ ap (λ t. t ++ arg_text (arg_tree a)) first ∙ ap (λ x. (line ++ comma_text is_first) ++ arg_text (arg_tree x)) is)
    ∙ ap (λ t. t ++ rest) (append_assoc line (comma_text is_first) (arg_text (arg_tree (get_or xs i d))))
    ∙ append_assoc line (comma_text is_first ++ arg_text (arg_tree (get_or xs i d))) rest)

pub args_over : (total line : List ℕ) (is_first : Bool) (xs : List Arg) (i : ℕ) → total ≡ line ++ args_text is_first (arg_trees (drop i xs)) → length xs ≤ i → line ≡ total
unfolding args_text
args_over total line is_first xs i same h = sym (same ∙ rw (drop_all i xs h) (append-nil line))
