-- What a run starts with.
use Rattle.std.proofs.Common.{◌≡◌, ◌<◌, ◌≤◌, ℕ, zero, suc, ◌+◌, Bool, true, false, cond, List, [], ◌∷◌, ◌++◌, map, take, drop, length, get_or, Option, None, refl, sym, ap, ◌∙◌, arith, bytes_eq}
use Rattle.std.proofs.lemmas.List.{drop_all, drop_more, get_or-map, length-map, map-append, take_more}
use Rattle.expr_grammar.specs.Tree as t
use Rattle.expr_grammar.specs.Tree.{StmtTree, stmt_tree, code_trees}
use Rattle.expr_grammar.specs.declared.code.Stmt as statement
use Rattle.target_calls.specs.World.{start_world}
use Rattle.function_table.specs.Variables.{names_of_predefined}
use Rattle.sequence_trees.specs.Trees.{SetTrees}
use Rattle.target_machine.specs.State.{TargetState}
use Rattle.target_machine.specs.declared.unit.Variable.{Variable}
use Rattle.sequence_rules.specs.declared.bindings.Binding.{Binding}
use Rattle.sequence_rules.specs.Direct.{Now, now_at, direct}
use Rattle.sequence_rules.specs.Machine.{State}
use Rattle.sequence_rules.specs.Runs.{as_values, variables_of}
use Rattle.sequence_rules.specs.Steps.{declared_names, start_state}
use Rattle.sequence_rules.specs.Variables.{bound_variable, has_in, with_new, with_all_new}

-- ---- the predefined variables have names of their own

has : List (List ℕ) → List ℕ → Bool
has [] n = false
has (x ∷ xs) n = cond (bytes_eq n x) true (has xs n)

has_is : (vs : List Variable) (i : ℕ) (n : List ℕ) → has_in (variables_of (take i vs)) n ≡ has (take i (map (λ v. v.name) vs)) n
unfolding has
has_is [] zero n = refl
has_is [] (suc i) n = refl
has_is (v ∷ vs) zero n = refl
has_is (v ∷ vs) (suc i) n = ap (λ b. cond (bytes_eq n v.name) true b) (has_is vs i n)

own_name : (i : ℕ) → i < 7 → has (take i names_of_predefined) (get_or names_of_predefined i []) ≡ false
unfolding has
own_name zero h = refl
own_name (suc zero) h = refl
own_name (suc (suc zero)) h = refl
own_name (suc (suc (suc zero))) h = refl
own_name (suc (suc (suc (suc zero)))) h = refl
own_name (suc (suc (suc (suc (suc zero))))) h = refl
own_name (suc (suc (suc (suc (suc (suc zero)))))) h = refl
own_name (suc (suc (suc (suc (suc (suc (suc i))))))) h = absurd (omega arith)

pub new_name : (vs : List Variable) (i : ℕ) (d : Variable) → map (λ v. v.name) vs ≡ names_of_predefined → i < length vs → has_in (variables_of (take i vs)) (get_or vs i d).name ≡ false
new_name vs i d same h =
    let seven : length vs ≡ 7 = sym (length-map vs (λ (v : Variable). v.name)) ∙ ap length same in
    let named : (get_or vs i d).name ≡ get_or names_of_predefined i [] = sym (get_or-map (λ (v : Variable). v.name) vs i d [] h) ∙ ap (λ ns. get_or ns i []) same in
    has_is vs i (get_or vs i d).name ∙ ap (λ ns. has (take i ns) (get_or vs i d).name) same ∙ ap (has (take i names_of_predefined)) named ∙ own_name i (omega arith)

-- one more of them
pub start_more : (vs : List Variable) (i : ℕ) (d v : Variable) (old new : List (Binding ℕ)) → map (λ v. v.name) vs ≡ names_of_predefined → i < length vs → v ≡ get_or vs i d → old ≡ variables_of (take i vs) → new ≡ with_new old v.name v.value
    → new ≡ variables_of (take (i + 1) vs)
start_more vs i d v old new same h is was add =
    let fresh : has_in old v.name ≡ false = ap (λ bs. has_in bs v.name) was ∙ ap (λ x. has_in (variables_of (take i vs)) x.name) is ∙ new_name vs i d same h in
    add ∙ ap (λ b. cond b old (old ++ bound_variable v.name v.value ∷ [])) fresh ∙ ap (λ bs. bs ++ bound_variable v.name v.value ∷ []) was
    ∙ ap (λ x. variables_of (take i vs) ++ bound_variable x.name x.value ∷ []) is
    ∙ sym (ap variables_of (take_more vs i d h) ∙ map-append (λ (x : Variable). record { name = x.name; value = x.value }) (take i vs) (get_or vs i d ∷ []))

-- ---- the debug variables

first_declared : {V : Type 0} (st : StmtTree) (code : List StmtTree) (bs : List (Binding V)) (v : V) → with_all_new bs (declared_names (st ∷ code)) v ≡ with_all_new (with_all_new bs (declared_names (st ∷ [])) v) (declared_names code) v
first_declared (t.Empty at) code bs v = refl
first_declared (t.Declare name e) code bs v = refl
first_declared (t.Plain at e) code bs v = refl

pub declared_more : {V : Type 0} (v : V) (xs : List statement.Stmt) (i : ℕ) (d one : statement.Stmt) (whole old new : List (Binding V)) → i < length xs → one ≡ get_or xs i d → whole ≡ with_all_new old (declared_names (code_trees (drop i xs))) v
    → new ≡ with_all_new old (declared_names (stmt_tree one ∷ [])) v → whole ≡ with_all_new new (declared_names (code_trees (drop (i + 1) xs))) v
declared_more v xs i d one whole old new h is same add =
    same ∙ ap (λ l. with_all_new old (declared_names (code_trees l)) v) (drop_more xs i d h) ∙ first_declared (stmt_tree (get_or xs i d)) (code_trees (drop (i + 1) xs)) old v
    ∙ ap (λ x. with_all_new (with_all_new old (declared_names (stmt_tree x ∷ [])) v) (declared_names (code_trees (drop (i + 1) xs))) v) (sym is)
    ∙ ap (λ bs. with_all_new bs (declared_names (code_trees (drop (i + 1) xs))) v) (sym add)

pub declared_over : {V : Type 0} (v : V) (xs : List statement.Stmt) (i : ℕ) (whole old : List (Binding V)) → length xs ≤ i → whole ≡ with_all_new old (declared_names (code_trees (drop i xs))) v → old ≡ whole
declared_over v xs i whole old h same = sym (same ∙ ap (λ l. with_all_new old (declared_names (code_trees l)) v) (drop_all i xs h))

-- ---- the state at the start

pub same_values : (bs : List (Binding ℕ)) → as_values (direct false) bs ≡ bs
unfolding direct
same_values [] = refl
same_values (b ∷ bs) = ap (λ r. b ∷ r) (same_values bs)

pub start_is : (turn_us : ℕ) (set : SetTrees) (bs gs : List (Binding ℕ)) (t : TargetState) (written : Option (List ℕ)) → gs ≡ with_all_new bs (declared_names set.debugvars) 0
    → record { globals = gs; locals = []; units = 0; lines = 0; steps = 0; rest = now_at (start_world t None) written } ≡ start_state (direct false) turn_us set (as_values (direct false) bs) (now_at (start_world t None) written)
unfolding direct
start_is turn_us set bs gs t written h =
    ap (λ k. at k) (h ∙ ap (λ k. with_all_new k (declared_names set.debugvars) 0) (sym (same_values bs)))
  where
    at : List (Binding ℕ) → State ℕ Now
    at k = record { globals = k; locals = []; units = 0; lines = 0; steps = 0; rest = now_at (start_world t None) written }
