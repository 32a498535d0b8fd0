-- Arguments and calls that are in the grammar are read, and so is each tree.
use Rattle.std.proofs.Common.{◌≡◌, ℕ, suc, Bool, true, false, List, [], ◌∷◌, ◌++◌, length, Some, None, Ok, Err, refl, sym, ap, subst, ◌∙◌, append_assoc, arith}
use Rattle.dap_base.proofs.Basics.{same_Ok}
use Rattle.std.specs.Prelude.{codes}
use Rattle.std.specs.Str.{bytes_eq}
use Rattle.std.proofs.lemmas.List.{append-nil}
use Rattle.expr_grammar.specs.declared.code.Name.{Name}
use Rattle.expr_grammar.specs.declared.token.TokenKind.TheVariants as kinds
use Rattle.expr_grammar.specs.Tree as t
use Rattle.expr_grammar.specs.Tree.{Tree, ArgTree, ArgTrees}
use Rattle.expr_grammar.specs.declared.token.TokenKind.{TokenKind}
use Rattle.expr_grammar.specs.declared.code.TextArg as string
use Rattle.dap_base.specs.declared.text.Place.{Place}
use Rattle.expr_grammar.specs.Lexeme.{Lexeme}
use Rattle.expr_grammar.specs.Grammar.{IsMark, IsName, IsString, Reads, ReadsArg, ReadsArgs, ReadsMore}
use Rattle.expr_grammar.specs.Reading.{Read, Arguments, Further, is_mark, is_text_kind, unary_of, between_quotes, expect, call_after_name, argument, arguments, further, read, whole, choice, at_level, operand}
use Rattle.expr_grammar.proofs.Fix.{arguments_is, further_is}
use Rattle.expr_grammar.proofs.Quotes.{between_is}
use Rattle.expr_grammar.proofs.Found.{mark_from}
use Rattle.expr_grammar.proofs.Levels.{level_of, binds, begins, mark_binary, mark_is, expect_is}
use Rattle.expr_grammar.proofs.Complete.{NoOpen, Complete, from_operand, number_complete, name_operand, named_complete, Closes, close_closes, comma_closes, group_complete, unary_complete, binary_complete, cond_complete, assign_complete}

-- ---- calls

-- an expression that begins so is none
pub no_start : (k : Lexeme) (ts : List Lexeme) (n : ℕ) (e : Tree) (rest : List Lexeme) → operand read (k ∷ ts) ≡ Err n → whole read (k ∷ ts) ≡ Ok (e, rest) → ⊥
unfolding whole choice at_level
no_start k ts n e rest bad good =
    let refuses : whole read (k ∷ ts) ≡ Err n = rw bad refl in
    let both : ◌≡◌ {A = Read} (Err n) (Ok (e, rest)) = sym refuses ∙ good in
    absurd cc

pub mark_operand : (text : List ℕ) (k : Lexeme) (ts : List Lexeme) → IsMark text k → unary_of text ≡ None → bytes_eq text (codes "(") ≡ false → operand read (k ∷ ts) ≡ Err (suc (length ts))
unfolding operand
mark_operand text k ts m none shut = rw (m.kind, m.text_is, none, shut) refl

pub text_operand : (k : Lexeme) (ts : List Lexeme) → k.kind ≡ kinds.Text → operand read (k ∷ ts) ≡ Err (suc (length ts))
unfolding operand
text_operand k ts is = rw is refl

-- a token with which no expression begins
pub record NoStart (k : Lexeme) : Type 0 where
  pub refused : (ts : List Lexeme) → operand read (k ∷ ts) ≡ Err (suc (length ts))

pub mark_no_start : (text : List ℕ) (k : Lexeme) → IsMark text k → unary_of text ≡ None → bytes_eq text (codes "(") ≡ false → NoStart k
mark_no_start text k m none shut = record { refused = λ ts. mark_operand text k ts m none shut }

pub text_no_start : (k : Lexeme) → k.kind ≡ kinds.Text → NoStart k
text_no_start k is = record { refused = λ ts. text_operand k ts is }

-- ---- an argument, after which a comma or the closing parenthesis comes

pub record After (rest : List Lexeme) : Type 0 where
  pub shut : NoOpen rest
  pub no_operator : binds rest ≡ 0
  pub no_question : begins (codes "?") rest ≡ false
  pub no_set : begins (codes "=") rest ≡ false

pub after_mark : (text : List ℕ) → Closes text → (k : Lexeme) (rest : List Lexeme) → IsMark text k → After (k ∷ rest)
after_mark text c k rest m = record {
  shut = mark_is text (codes "(") k m ∙ c.no_open;
  no_operator = ap level_of (mark_binary text k m ∙ c.no_operator);
  no_question = mark_is text (codes "?") k m ∙ c.no_question;
  no_set = mark_is text (codes "=") k m ∙ c.no_set;
}

pub record CompleteArg (a : ArgTree) : Type 0 where
  pub argument : (front rest : List Lexeme) → ReadsArg front a → After rest → argument read (front ++ rest) ≡ Ok (a, rest)
  pub starts : (k : Lexeme) (front rest : List Lexeme) → ReadsArg (k ∷ front) a → After rest → is_mark (codes ")") k ≡ false
  pub some : ReadsArg [] a → ⊥

pub text_test : (kind : TokenKind) (v : Bool) → is_text_kind kind ≡ v → v ≡ true → kind ≡ kinds.Text
text_test kinds.Text v is e = refl
text_test kinds.Number v is e = absurd cc
text_test kinds.Name v is e = absurd cc
text_test kinds.Mark v is e = absurd cc

pub no_text : (k : Lexeme) (ts : List Lexeme) (e : Tree) (rest : List Lexeme) → whole read (k ∷ ts) ≡ Ok (e, rest) → (v : Bool) → is_text_kind k.kind ≡ v → v ≡ false
no_text k ts e rest good true is = absurd (no_start k ts (suc (length ts)) e rest ((text_no_start k (text_test k.kind true is refl)).refused ts) good)
no_text k ts e rest good false is = refl

pub no_close : (k : Lexeme) (ts : List Lexeme) (e : Tree) (rest : List Lexeme) → whole read (k ∷ ts) ≡ Ok (e, rest) → (v : Bool) → is_mark (codes ")") k ≡ v → v ≡ false
no_close k ts e rest good true is = absurd (no_start k ts (suc (length ts)) e rest ((mark_no_start (codes ")") k (mark_from (codes ")") k is) refl refl).refused ts) good)
no_close k ts e rest good false is = refl

pub expr_argument : (at : Place) (e : Tree) (k : Lexeme) (ts rest : List Lexeme) → k.at ≡ at → whole read (k ∷ ts) ≡ Ok (e, rest) → argument read (k ∷ ts) ≡ Ok (t.ExprArg at e, rest)
unfolding argument
expr_argument at e k ts rest place good =
    let no : is_text_kind k.kind ≡ false = no_text k ts e rest good (is_text_kind k.kind) refl in
    rw (no, good) (ap (λ (p : Place). Ok (t.ExprArg p e, rest)) place)

pub read_whole : {e : Tree} → Complete e → (front rest : List Lexeme) → Reads 0 front e → After rest → whole read (front ++ rest) ≡ Ok (e, rest)
read_whole h front rest r b = h.wholes front rest r b.shut b.no_operator b.no_question b.no_set

pub expr_arg_read : (at : Place) (e : Tree) → Complete e → (front rest : List Lexeme) → ReadsArg front (t.ExprArg at e) → After rest → argument read (front ++ rest) ≡ Ok (t.ExprArg at e, rest)
expr_arg_read at e h [] rest r b = absurd r.1
expr_arg_read at e h (k ∷ front) rest r b = expr_argument at e k (front ++ rest) rest r.1 (read_whole h (k ∷ front) rest r.0 b)

pub expr_arg_complete : (at : Place) (e : Tree) → Complete e → CompleteArg (t.ExprArg at e)
expr_arg_complete at e h = record {
  argument = λ front rest r b. expr_arg_read at e h front rest r b;
  starts = λ k front rest r b. no_close k (front ++ rest) e rest (read_whole h (k ∷ front) rest r.0 b) (is_mark (codes ")") k) refl;
  some = λ r. r.1;
}

pub string_argument : (s : string.TextArg) (k : Lexeme) (rest : List Lexeme) → IsString s k → argument read (k ∷ rest) ≡ Ok (t.TextArg s, rest)
unfolding argument
string_argument s k rest h =
    let between : between_quotes k.text ≡ Some s.text = between_is k.text s.text h.text_is in
    rw (h.kind, between) (ap (λ (p : Place). Ok (t.TextArg (record { text = s.text; at = p }), rest)) h.at_is)

pub first_is : (k only : Lexeme) (front : List Lexeme) → k ∷ front ≡ only ∷ [] → k ≡ only
first_is k only front e = cc

pub no_first : (only : Lexeme) → [] ≡ only ∷ [] → ⊥
no_first only e = cc

pub text_arg_complete : (s : string.TextArg) → CompleteArg (t.TextArg s)
text_arg_complete s = record {
  argument = λ front rest r b. ap (λ (f : List Lexeme). argument read (f ++ rest)) r.parts ∙ string_argument s r.only rest r.is;
  starts = λ k front rest r b. let same = first_is k r.only front r.parts in ap (is_mark (codes ")")) same ∙ rw r.is.kind refl;
  some = λ r. no_first r.only r.parts;
}

-- ---- arguments up to the closing parenthesis

pub record CompleteArgs (args : ArgTrees) : Type 0 where
  pub more : (front : List Lexeme) (k : Lexeme) (rest : List Lexeme) → ReadsMore front args → IsMark (codes ")") k → further read (front ++ k ∷ rest) ≡ Ok (args, rest)
  pub ends : (front : List Lexeme) (k : Lexeme) (rest : List Lexeme) → ReadsMore front args → IsMark (codes ")") k → After (front ++ k ∷ rest)
  pub call : (n : Name) (front : List Lexeme) (k : Lexeme) (rest : List Lexeme) → ReadsArgs front args → IsMark (codes ")") k → call_after_name read n (front ++ k ∷ rest) ≡ Ok (t.Call n args, rest)

pub one_argument : (ts us rest : List Lexeme) (a : ArgTree) (more : ArgTrees) → argument read ts ≡ Ok (a, us) → further read us ≡ Ok (more, rest) → arguments read ts ≡ Ok (t.MoreArgs a more, rest)
unfolding arguments
one_argument ts us rest a more got after =
    let next : read Further us ≡ Ok (more, rest) = further_is us ∙ after in
    rw (got, next) refl

pub nothing_further : (k : Lexeme) (rest : List Lexeme) → IsMark (codes ")") k → further read (k ∷ rest) ≡ Ok (t.NoArgs, rest)
unfolding further
nothing_further k rest m =
    let no : is_mark (codes ",") k ≡ false = mark_is (codes ")") (codes ",") k m in
    let shut : expect (codes ")") (k ∷ rest) ≡ Ok (tt, rest) = expect_is (codes ")") k rest (mark_is (codes ")") (codes ")") k m) in
    rw (no, shut) refl

pub comma_further : (k : Lexeme) (ts : List Lexeme) → IsMark (codes ",") k → further read (k ∷ ts) ≡ arguments read ts
unfolding further
comma_further k ts m = let is : is_mark (codes ",") k ≡ true = mark_is (codes ",") (codes ",") k m in rw is refl

pub called_none : (n : Name) (k : Lexeme) (rest : List Lexeme) → IsMark (codes ")") k → call_after_name read n (k ∷ rest) ≡ Ok (t.Call n t.NoArgs, rest)
called_none n k rest m = let is : is_mark (codes ")") k ≡ true = mark_is (codes ")") (codes ")") k m in rw is refl

pub called_some : (n : Name) (k : Lexeme) (ts rest : List Lexeme) (args : ArgTrees) → is_mark (codes ")") k ≡ false → arguments read (k ∷ ts) ≡ Ok (args, rest) → call_after_name read n (k ∷ ts) ≡ Ok (t.Call n args, rest)
called_some n k ts rest args other got = let next : read Arguments (k ∷ ts) ≡ Ok (args, rest) = arguments_is (k ∷ ts) ∙ got in rw (other, next) refl

pub none_complete : CompleteArgs t.NoArgs
none_complete = record {
  more = λ front k rest r m. ap (λ (f : List Lexeme). further read (f ++ k ∷ rest)) r ∙ nothing_further k rest m;
  ends = λ front k rest r m. subst (λ (f : List Lexeme). After (f ++ k ∷ rest)) (sym r) (after_mark (codes ")") close_closes k rest m);
  call = λ n front k rest r m. ap (λ (f : List Lexeme). call_after_name read n (f ++ k ∷ rest)) r ∙ called_none n k rest m;
}

-- one argument and those after it, from the front
pub args_read : (a : ArgTree) (more : ArgTrees) → CompleteArg a → CompleteArgs more → (front : List Lexeme) (k : Lexeme) (rest : List Lexeme) → ReadsArgs front (t.MoreArgs a more) → IsMark (codes ")") k
    → arguments read (front ++ k ∷ rest) ≡ Ok (t.MoreArgs a more, rest)
args_read a more ha hm front k rest r m =
    let whole_list : front ++ k ∷ rest ≡ r.left ++ (r.right ++ k ∷ rest) = ap (λ (f : List Lexeme). f ++ k ∷ rest) r.parts ∙ append_assoc r.left r.right (k ∷ rest) in
    ap (arguments read) whole_list ∙ one_argument (r.left ++ (r.right ++ k ∷ rest)) (r.right ++ k ∷ rest) rest a more (ha.argument r.left (r.right ++ k ∷ rest) r.first (hm.ends r.right k rest r.second m)) (hm.more r.right k rest r.second m)

pub call_by : (n : Name) (a : ArgTree) (more : ArgTrees) → CompleteArg a → CompleteArgs more → (left right : List Lexeme) (k : Lexeme) (rest : List Lexeme) → ReadsArg left a → ReadsMore right more → IsMark (codes ")") k
    → call_after_name read n ((left ++ right) ++ k ∷ rest) ≡ Ok (t.Call n (t.MoreArgs a more), rest)
call_by n a more ha hm [] right k rest ra rm m = absurd (ha.some ra)
call_by n a more ha hm (j ∷ left) right k rest ra rm m =
    called_some n j ((left ++ right) ++ k ∷ rest) rest (t.MoreArgs a more) (ha.starts j left (right ++ k ∷ rest) ra (hm.ends right k rest rm m))
    (args_read a more ha hm ((j ∷ left) ++ right) k rest (record { left = j ∷ left; right = right; parts = refl; first = ra; second = rm }) m)

pub more_complete : (a : ArgTree) (more : ArgTrees) → CompleteArg a → CompleteArgs more → CompleteArgs (t.MoreArgs a more)
more_complete a more ha hm = record {
  more = λ front k rest r m.
      let p = r.inner in
      ap (λ (f : List Lexeme). further read (f ++ k ∷ rest)) r.parts ∙ comma_further r.mark (r.rest ++ k ∷ rest) r.is_mark ∙ args_read a more ha hm r.rest k rest p m;
  ends = λ front k rest r m. subst (λ (f : List Lexeme). After (f ++ k ∷ rest)) (sym r.parts) (after_mark (codes ",") comma_closes r.mark (r.rest ++ k ∷ rest) r.is_mark);
  call = λ n front k rest r m. ap (λ (f : List Lexeme). call_after_name read n (f ++ k ∷ rest)) r.parts ∙ call_by n a more ha hm r.left r.right k rest r.first r.second m;
}

pub call_operand : (n : Name) (k mark : Lexeme) (ts : List Lexeme) → IsName n k → IsMark (codes "(") mark → operand read (k ∷ mark ∷ ts) ≡ call_after_name read n ts
call_operand n k mark ts is m =
    let opens : is_mark (codes "(") mark ≡ true = mark_is (codes "(") (codes "(") mark m in
    name_operand n k (mark ∷ ts) is ∙ rw opens refl

pub call_complete : (n : Name) (args : ArgTrees) → CompleteArgs args → (front rest : List Lexeme) → Reads 12 front (t.Call n args) → NoOpen rest → operand read (front ++ rest) ≡ Ok (t.Call n args, rest)
call_complete n args h front rest r shut =
    let j = r.1 in
    let k = j.second in
    let s = j.first in
    let whole_list : front ++ rest ≡ s.only ∷ j.mark ∷ (k.front ++ k.mark ∷ rest) =
    ap (λ (f : List Lexeme). f ++ rest) j.parts ∙ append_assoc j.left (j.mark ∷ j.right) rest ∙ ap (λ (f : List Lexeme). f ++ j.mark ∷ (j.right ++ rest)) s.parts
    ∙ ap (λ (f : List Lexeme). s.only ∷ j.mark ∷ f) (ap (λ (f : List Lexeme). f ++ rest) k.parts ∙ append_assoc k.front (k.mark ∷ []) rest) in
    ap (operand read) whole_list ∙ call_operand n s.only j.mark (k.front ++ k.mark ∷ rest) s.is j.is_mark ∙ h.call n k.front k.mark rest k.inner k.is_mark

-- ---- each tree

mutual
  pub complete : (e : Tree) → Complete e
  complete (t.Number n) = from_operand (t.Number n) (omega arith) (number_complete n)
  complete (t.Named n) = from_operand (t.Named n) (omega arith) (named_complete n)
  complete (t.Group a) = from_operand (t.Group a) (omega arith) (group_complete a (complete a))
  complete (t.Unary op a) = from_operand (t.Unary op a) (omega arith) (unary_complete op a (complete a))
  complete (t.Binary op x y) = binary_complete op x y (complete x) (complete y)
  complete (t.Cond c x y) = cond_complete c x y (complete c) (complete x) (complete y)
  complete (t.Assign n a) = assign_complete n a (complete a)
  complete (t.Call n args) = from_operand (t.Call n args) (omega arith) (call_complete n args (complete_args args))

  complete_arg : (a : ArgTree) → CompleteArg a
  complete_arg (t.ExprArg at e) = expr_arg_complete at e (complete e)
  complete_arg (t.TextArg s) = text_arg_complete s

  complete_args : (args : ArgTrees) → CompleteArgs args
  complete_args t.NoArgs = none_complete
  complete_args (t.MoreArgs a more) = more_complete a more (complete_arg a) (complete_args more)

-- ---- what is in the grammar as a whole is read as a whole, and has one tree

pub reads_whole : (ts : List Lexeme) (e : Tree) → Reads 0 ts e → whole read ts ≡ Ok (e, [])
reads_whole ts e r = ap (whole read) (sym (append-nil ts)) ∙ (complete e).wholes ts [] r refl refl refl refl

abbrev pub done : Tree → Read
done e = Ok (e, [])

pub same_done : (x y : Tree) → done x ≡ done y → x ≡ y
same_done x y e = ap (λ (p : Tree × List Lexeme). p.0) (same_Ok (x, []) (y, []) e)

pub one_tree : (ts : List Lexeme) (x y : Tree) → Reads 0 ts x → Reads 0 ts y → x ≡ y
one_tree ts x y rx ry = same_done x y (sym (reads_whole ts x rx) ∙ reads_whole ts y ry)
