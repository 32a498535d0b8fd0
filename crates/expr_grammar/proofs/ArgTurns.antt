-- Arguments and statements, one more at a time.
use Rattle.std.proofs.Common.{◌≡◌, ℕ, suc, true, List, [], ◌∷◌, ◌++◌, length, map, Option, Some, None, Ok, Err, refl, sym, ap, ◌∙◌}
use Rattle.std.specs.Prelude.{codes}
use Rattle.std.specs.Borrow.{Bor}
use Rattle.std.proofs.lemmas.List.{map_push}
use Rattle.expr_grammar.specs.declared.token.Token.{Token}
use Rattle.expr_grammar.specs.declared.code.Arg.{Arg}
use Rattle.expr_grammar.specs.declared.code.Stmt.{Stmt}
use Rattle.expr_grammar.specs.declared.fault.Fault.{Fault}
use Rattle.expr_grammar.specs.declared.fault.Fault.TheVariants as faults
use Rattle.expr_grammar.specs.Lexeme.{Lexeme}
use Rattle.expr_grammar.specs.Tree.{ArgTree, ArgTrees, NoArgs, MoreArgs, args_of, arg_tree, arg_trees, StmtTree}
use Rattle.expr_grammar.specs.Reading.{Front, Fails, Further, is_mark, IsNotNext, expect, read, argument, arguments, further, statement, statements}
use Rattle.dap_base.specs.Outcome.{◌>>=◌}
use Rattle.expr_grammar.proofs.Fix.{further_is, statements_is}

-- ---- arguments

abbrev pub join : ArgTrees → ArgTrees → ArgTrees
join NoArgs more = more
join (MoreArgs a front) more = MoreArgs a (join front more)

abbrev pub with_args : ArgTrees → Front ArgTrees → Front ArgTrees
with_args front (Ok x) = Ok (join front x.0, x.1)
with_args front (Err k) = Err k

join_push : (xs : List ArgTree) (a : ArgTree) (more : ArgTrees) → join (args_of (xs ++ a ∷ [])) more ≡ join (args_of xs) (MoreArgs a more)
join_push [] a more = refl
join_push (x ∷ xs) a more = ap (MoreArgs x) (join_push xs a more)

push_trees : (args : List Arg) (a : Arg) → arg_trees (args ++ a ∷ []) ≡ args_of (map arg_tree args ++ arg_tree a ∷ [])
push_trees args a = ap args_of (map_push arg_tree args a)

join_none : (xs : ArgTrees) → join xs NoArgs ≡ xs
join_none NoArgs = refl
join_none (MoreArgs a more) = ap (MoreArgs a) (join_none more)

with_more : (args : List Arg) (a : Arg) (r : Front ArgTrees) → with_args (arg_trees args) (r >>= λ x. Ok (MoreArgs (arg_tree a) x.0, x.1)) ≡ with_args (arg_trees (args ++ a ∷ [])) r
with_more args a (Ok x) =
    let same : join (arg_trees args) (MoreArgs (arg_tree a) x.0) ≡ join (arg_trees (args ++ a ∷ [])) x.0 = sym (join_push (map arg_tree args) (arg_tree a) x.0) ∙ ap (λ (l : ArgTrees). join l x.0) (sym (push_trees args a)) in
    ap (λ (l : ArgTrees). Ok (l, x.1)) same
with_more args a (Err k) = refl

-- an argument after a comma
comma : (ts us vs : List Lexeme) (k : Lexeme) (a : ArgTree) → ts ≡ k ∷ us → is_mark (codes ",") k ≡ true → argument read us ≡ Ok (a, vs) → read Further ts ≡ (read Further vs >>= λ x. Ok (MoreArgs a x.0, x.1))
unfolding further arguments
comma ts us vs k a parts is got = ap (read Further) parts ∙ further_is (k ∷ us) ∙ rw (is, got) refl

first_argument : (ts us : List Lexeme) (a : ArgTree) → argument read ts ≡ Ok (a, us) → arguments read ts ≡ (read Further us >>= λ x. Ok (MoreArgs a x.0, x.1))
unfolding arguments
first_argument ts us a got = rw got refl

pub first : (args : List Arg) (a : Arg) (ts us : List Lexeme) → argument read ts ≡ Ok (arg_tree a, us) → args ≡ a ∷ [] → with_args (arg_trees args) (read Further us) ≡ arguments read ts
first args a ts us got is = ap (λ (l : List Arg). with_args (arg_trees l) (read Further us)) is ∙ with_one (read Further us) ∙ sym (first_argument ts us (arg_tree a) got) where
  with_one : (r : Front ArgTrees) → with_args (MoreArgs (arg_tree a) NoArgs) r ≡ (r >>= λ x. Ok (MoreArgs (arg_tree a) x.0, x.1))
  with_one (Ok x) = refl
  with_one (Err k) = refl

pub goes_on : (args args' : List Arg) (a : Arg) (ts us vs : List Lexeme) (k : Lexeme) (total : Front ArgTrees) → ts ≡ k ∷ us → is_mark (codes ",") k ≡ true → argument read us ≡ Ok (arg_tree a, vs) → args' ≡ args ++ a ∷ []
    → with_args (arg_trees args) (read Further ts) ≡ total → with_args (arg_trees args') (read Further vs) ≡ total
goes_on args args' a ts us vs k total parts is got pushed so_far =
    ap (λ (l : List Arg). with_args (arg_trees l) (read Further vs)) pushed ∙ sym (with_more args a (read Further vs)) ∙ ap (with_args (arg_trees args)) (sym (comma ts us vs k (arg_tree a) parts is got)) ∙ so_far

comma_fails : (ts us : List Lexeme) (k : Lexeme) (n : ℕ) → ts ≡ k ∷ us → is_mark (codes ",") k ≡ true → argument read us ≡ Err n → read Further ts ≡ Err n
unfolding further arguments
comma_fails ts us k n parts is got = ap (read Further) parts ∙ further_is (k ∷ us) ∙ rw (is, got) refl

pub fails : (f : Fault) (args : List Arg) (ts us : List Lexeme) (k : Lexeme) (total : Front ArgTrees) → ts ≡ k ∷ us → is_mark (codes ",") k ≡ true → Fails f (argument read us) → with_args (arg_trees args) (read Further ts) ≡ total → Fails f total
fails faults.Memory args ts us k total parts is got so_far = tt
fails (faults.Unexpected n) args ts us k total parts is got so_far = sym so_far ∙ ap (with_args (arg_trees args)) (comma_fails ts us k n parts is got)

no_comma : (ts : List Lexeme) → IsNotNext (codes ",") ts → read Further ts ≡ (expect (codes ")") ts >>= λ rest. Ok (NoArgs, rest.1))
unfolding further
no_comma [] h = further_is []
no_comma (k ∷ ts) h = further_is (k ∷ ts) ∙ rw h refl

pub closes : (args : List Arg) (ts us : List Lexeme) (total : Front ArgTrees) → IsNotNext (codes ",") ts → expect (codes ")") ts ≡ Ok (tt, us) → with_args (arg_trees args) (read Further ts) ≡ total → total ≡ Ok (arg_trees args, us)
closes args ts us total h got so_far =
    let step : read Further ts ≡ Ok (NoArgs, us) = no_comma ts h ∙ rw got refl in
    sym so_far ∙ ap (with_args (arg_trees args)) step ∙ ap (λ (l : ArgTrees). Ok (l, us)) (join_none (arg_trees args))

pub not_closed : (f : Fault) (args : List Arg) (ts : List Lexeme) (total : Front ArgTrees) → IsNotNext (codes ",") ts → Fails f (expect (codes ")") ts) → with_args (arg_trees args) (read Further ts) ≡ total → Fails f total
not_closed faults.Memory args ts total h got so_far = tt
not_closed (faults.Unexpected n) args ts total h got so_far =
    let step : read Further ts ≡ Err n = no_comma ts h ∙ rw got refl in
    sym so_far ∙ ap (with_args (arg_trees args)) step

-- ---- statements

abbrev pub with_code : List StmtTree → Front (List StmtTree) → Front (List StmtTree)
with_code front (Ok x) = Ok (front ++ x.0, x.1)
with_code front (Err k) = Err k

pub one_statement : (ts us : List Lexeme) (s : StmtTree) → statement read ts ≡ Ok (s, us) → statements read ts ≡ (statements read us >>= λ x. Ok (s ∷ x.0, x.1))
unfolding statements statement
one_statement [] us s got = absurd cc
one_statement (k ∷ ts) us s got = rw got (ap (λ (r : Front (List StmtTree)). r >>= λ x. Ok (s ∷ x.0, x.1)) (statements_is us))

-- how many tokens are left after a statement that was found, and one more
abbrev pub left : Option (Stmt × Bor (List Token)) → ℕ
left None = 0
left (Some x) = suc (length x.1.now)
