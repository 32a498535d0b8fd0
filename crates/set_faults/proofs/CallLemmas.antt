-- The faults of calls, one part after another.
use Rattle.std.proofs.Common.{◌≡◌, ◌↔◌, sym, subst, ℕ, ◌+◌, ◌-◌, ◌<◌, Bool, true, false, IsTrue, List, ◌++◌, map, length, take, get_or, Option, Some, None}
use Rattle.expr_grammar.specs.declared.code.Arg.{Arg}
use Rattle.expr_grammar.specs.declared.code.Name.{Name}
use Rattle.expr_grammar.specs.declared.code.TextArg as string
use Rattle.expr_grammar.specs.declared.code.Stmt.{Stmt}
use Rattle.expr_grammar.specs.Tree.{ArgTrees, arg_tree, arg_trees, stmt_tree, code_trees, arg_count}
use Rattle.function_table.specs.declared.function.Function.{Function}
use Rattle.function_table.specs.declared.function.Function.TheVariants as functions
use Rattle.function_table.specs.Functions.{name_of, Takes, kind_at}
use Rattle.code_check.specs.declared.fault.FaultKind.TheVariants as k
use Rattle.code_check.specs.declared.fault.CodeFault.{CodeFault}
use Rattle.code_check.specs.First.{here, there}
use Rattle.code_check.specs.ExprFaults.{Scope, ArgFault, ArgsFault, KindFault, KindsFault, text_at, OfText, SequenceFault, FormatFault, TextsFault, KnownFault, NamesNone, FunctionFault}
use Rattle.code_check.specs.BlockFaults.{names_after_all, seeing, StmtFault, BlockFault}
use Rattle.code_check.proofs.ArgLemmas.{arg_trees-take, kinds_to, kinds_from, length-taken, args_from, args_to}
use Rattle.code_check.proofs.CallLemmas.{not_so, is_so, same_function}
use Rattle.code_check.proofs.BlockLemmas.{block_from, block_to, code_trees-take}
use Rattle.set_faults.specs.Listed.{Adds, found_if}
use Rattle.set_faults.proofs.AddLemmas.{adds_none, adds_same, adds_two, adds_here, adds_there, adds_where, adds_of_where}

-- ---- what stands in the arguments

pub args_more : (s : Scope) (xs : List Arg) (i : ℕ) (x : Arg) → i < length xs → (old mid new : List CodeFault)
    → Adds (ArgsFault s (arg_trees (take i xs))) old mid → Adds (ArgFault s (arg_tree (get_or xs i x))) mid new → Adds (ArgsFault s (arg_trees (take (i + 1) xs))) old new
args_more s xs i x h old mid new p q =
    rw (arg_trees-take xs i x h) (adds_same (args_to s (map arg_tree (take i xs)) (arg_tree (get_or xs i x))) (args_from s (map arg_tree (take i xs)) (arg_tree (get_or xs i x))) (adds_two p q))

-- ---- the kinds of the arguments

pub kinds_more : (fn : Function) (xs : List Arg) (i : ℕ) (x : Arg) → i < length xs → (old mid new : List CodeFault)
    → Adds (KindsFault fn 0 (arg_trees (take i xs))) old mid → Adds (KindFault (kind_at fn i) (arg_tree (get_or xs i x))) mid new → Adds (KindsFault fn 0 (arg_trees (take (i + 1) xs))) old new
kinds_more fn xs i x h old mid new p q =
    let t = arg_tree (get_or xs i x) in
    let front = map arg_tree (take i xs) in
    let q' = subst (λ j. Adds (KindFault (kind_at fn j) t) mid new) (sym (length-taken xs i h)) q in
    rw (arg_trees-take xs i x h) (adds_same (kinds_to fn 0 front t) (kinds_from fn 0 front t) (adds_two p q'))

-- ---- statements

pub block_more : (s : Scope) (xs : List Stmt) (i : ℕ) (x : Stmt) → i < length xs → (old mid new : List CodeFault)
    → Adds (BlockFault s (code_trees (take i xs))) old mid → Adds (StmtFault (seeing s (names_after_all s.visible (code_trees (take i xs)))) (stmt_tree (get_or xs i x))) mid new
    → Adds (BlockFault s (code_trees (take (i + 1) xs))) old new
block_more s xs i x h old mid new p q =
    let code = code_trees (take i xs) in
    let st = stmt_tree (get_or xs i x) in
    rw (code_trees-take xs i x h) (adds_same (block_to s code st) (block_from s code st) (adds_two p q))

-- ---- the texts

of_text : (P : string.TextArg → CodeFault → Type 0) (o : Option string.TextArg) (t : string.TextArg) (old new : List CodeFault) → o ≡ Some t → Adds (P t) old new → Adds (OfText P o) old new
of_text P o t old new e h = subst (λ x. Adds (OfText P x) old new) (sym e) h

of_no_text : (P : string.TextArg → CodeFault → Type 0) (o : Option string.TextArg) (f : CodeFault) → o ≡ None → OfText P o f → ⊥
of_no_text P None f e h = elim h [ ]
of_no_text P (Some t) f e h = absurd cc

pub at_sequence : (s : Scope) (fn : Function) (args : ArgTrees) (t : string.TextArg) (old new : List CodeFault) → fn ≡ functions.Sequence → text_at args 0 ≡ Some t
    → Adds (SequenceFault s t) old new → Adds (TextsFault s fn args) old new
at_sequence s fn args t old new e is h = adds_here (λ f w. (let m = w.cause in cc)) (adds_of_where e (of_text (SequenceFault s) (text_at args 0) t old new is h))

pub at_sequence_none : (s : Scope) (fn : Function) (args : ArgTrees) (old : List CodeFault) → fn ≡ functions.Sequence → text_at args 0 ≡ None → Adds (TextsFault s fn args) old old
at_sequence_none s fn args old e is =
    adds_none (TextsFault s fn args) old (λ f u. elim u [ here p ↦ of_no_text (SequenceFault s) (text_at args 0) f is p.holds | there q ↦ (let m = q.cause in cc) ])

pub at_message : (s : Scope) (fn : Function) (args : ArgTrees) (t : string.TextArg) (count : ℕ) (old new : List CodeFault) → fn ≡ functions.Message → text_at args 1 ≡ Some t → count ≡ arg_count args - 2
    → Adds (FormatFault count t) old new → Adds (TextsFault s fn args) old new
at_message s fn args t count old new e is n h =
    let h' = subst (λ m. Adds (FormatFault m t) old new) n h in
    adds_there (λ f w. (let m = w.cause in cc)) (adds_of_where e (of_text (FormatFault (arg_count args - 2)) (text_at args 1) t old new is h'))

pub at_message_none : (s : Scope) (fn : Function) (args : ArgTrees) (old : List CodeFault) → fn ≡ functions.Message → text_at args 1 ≡ None → Adds (TextsFault s fn args) old old
at_message_none s fn args old e is =
    adds_none (TextsFault s fn args) old (λ f u. elim u [ here p ↦ (let m = p.cause in cc) | there q ↦ of_no_text (FormatFault (arg_count args - 2)) (text_at args 1) f is q.holds ])

pub at_other : (s : Scope) (fn : Function) (args : ArgTrees) (old : List CodeFault) → (fn ≡ functions.Sequence → ⊥) → (fn ≡ functions.Message → ⊥) → Adds (TextsFault s fn args) old old
at_other s fn args old no_sequence no_message =
    adds_none (TextsFault s fn args) old (λ f u. elim u [ here p ↦ absurd (no_sequence p.cause) | there q ↦ absurd (no_message q.cause) ])

-- ---- the number of arguments

pub at_wrong_count : (s : Scope) (name : Name) (args : ArgTrees) (fn : Function) (n : ℕ) (b : Bool) (old new : List CodeFault) → n ≡ arg_count args → (IsTrue b ↔ Takes fn n) → b ≡ false
    → new ≡ old ++ found_if true name.at k.ArgumentCount → Adds (KnownFault s name args fn) old new
at_wrong_count s name args fn n b old new is h e found =
    let wrong : Takes fn (arg_count args) → ⊥ = subst (λ m. Takes fn m → ⊥) is (not_so b (Takes fn n) h e) in
    adds_here (λ f w. wrong w.cause) (adds_where wrong found)

pub at_right_count : (s : Scope) (name : Name) (args : ArgTrees) (fn : Function) (n : ℕ) (b : Bool) (old mid new : List CodeFault) → n ≡ arg_count args → (IsTrue b ↔ Takes fn n) → b ≡ true
    → Adds (KindsFault fn 0 args) old mid → Adds (TextsFault s fn args) mid new → Adds (KnownFault s name args fn) old new
at_right_count s name args fn n b old mid new is h e kinds texts =
    let right : Takes fn (arg_count args) = subst (Takes fn) is (is_so b (Takes fn n) h e) in
    adds_there (λ f w. w.cause right) (adds_of_where right (adds_two kinds texts))

-- ---- the function

pub at_function : (s : Scope) (name : Name) (args : ArgTrees) (fn : Function) (o : Option Function) (old new : List CodeFault) → ((f : Function) → (o ≡ Some f) ↔ (name.text ≡ name_of f)) → o ≡ Some fn
    → Adds (KnownFault s name args fn) old new → Adds (FunctionFault s name args) old new
at_function s name args fn o old new each e h =
    let named = (each fn).0 e in
    adds_there (λ f w. w.cause fn named) (adds_same
    (λ f p. record { function = fn; named = named; holds = p })
    (λ f p. subst (λ g. KnownFault s name args g f) (same_function o fn p.function e ((each p.function).1 p.named)) p.holds) h)

pub at_no_function : (s : Scope) (name : Name) (args : ArgTrees) (o : Option Function) (old new : List CodeFault) → ((f : Function) → (o ≡ Some f) ↔ (name.text ≡ name_of f)) → o ≡ None
    → new ≡ old ++ found_if true name.at k.UndefinedFunction → Adds (FunctionFault s name args) old new
at_no_function s name args o old new each e found =
    let none : NamesNone name.text = λ f p. (let q = (each f).1 p in cc) in
    adds_here (λ f p. none p.function p.named) (adds_where none found)
