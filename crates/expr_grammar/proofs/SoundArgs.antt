-- Arguments: what is read is in the grammar, and where nothing is.
use Rattle.std.proofs.Common.{◌≡◌, ℕ, suc, ◌<◌, ◌≤◌, Bool, true, false, cond, List, [], ◌∷◌, ◌++◌, length, Option, Some, None, Ok, Err, refl, sym, ap, subst, ◌∙◌, append_assoc, arith}
use Rattle.std.specs.Prelude.{codes}
use Rattle.std.proofs.lemmas.List.{append-nil}
use Rattle.expr_grammar.specs.declared.token.TokenKind.{TokenKind}
use Rattle.expr_grammar.specs.declared.token.TokenKind.TheVariants as kinds
use Rattle.expr_grammar.specs.Lexeme.{Lexeme}
use Rattle.expr_grammar.specs.Tree as t
use Rattle.expr_grammar.specs.Tree.{Tree, ArgTree, ArgTrees, StmtTree}
use Rattle.expr_grammar.specs.Grammar.{IsMark, Single, BeginsAt, Reads, ReadsArg}
use Rattle.expr_grammar.specs.Reading.{Front, Read, Aim, Further, is_mark, is_text_kind, between_quotes, quoted_string, expect, argument, arguments, closing_parenthesis, further, read, whole, choice, at_level, operand}
use Rattle.dap_base.specs.Outcome.{◌>>=◌}
use Rattle.expr_grammar.specs.Refusal.{Begins}
use Rattle.expr_grammar.proofs.Found.{mark_from}
use Rattle.expr_grammar.proofs.Quotes.{between_from}
use Rattle.expr_grammar.proofs.Shrinks.{argument_shrinks}
use Rattle.expr_grammar.proofs.Fix.{shrinks}
use Rattle.expr_grammar.proofs.Outcome.{Outcome, seq, after, nothing_taken, refused, loosen, by_head, at_end, headed}
use Rattle.expr_grammar.proofs.CompleteArgs.{reads_whole}
use Rattle.expr_grammar.proofs.Viable.{mark, mark_marks, Viable, viable_nothing, expect_law, SomeArgs, MoreArgs, Law}
use Rattle.expr_grammar.proofs.SoundChoices.{whole_law}

module _ (n : ℕ) (H : (aim : Aim) (ts : List Lexeme) → length ts < n → Law aim ts) where
  -- ---- arguments

  pub string_arg : (k : Lexeme) → k.kind ≡ kinds.Text → (text : List ℕ) → between_quotes k.text ≡ Some text → ReadsArg (k ∷ []) (t.TextArg (record { text = text; at = k.at }))
  string_arg k is text between = record { only = k; parts = refl; is = record { kind = is; text_is = between_from k.text text between; at_is = refl } }

  pub no_empty : (e : Tree) → Reads 0 [] e → ⊥
  unfolding whole choice at_level operand
  no_empty e r = let both : ◌≡◌ {A = Read} (Err 0) (Ok (e, [])) = reads_whole [] e r in absurd cc

  -- an expression as an argument
  pub expr_arg : (ts : List Lexeme) (e : Tree) → Reads 0 ts e → (a : ArgTree) × ReadsArg ts a
  expr_arg [] e r = absurd (no_empty e r)
  expr_arg (k ∷ ts) e r = (t.ExprArg k.at e, (r, refl))

  pub arg_begins : (front : List Lexeme) → Viable 0 front → Begins ReadsArg front
  arg_begins front v = let a = expr_arg (front ++ v.more) v.made v.is in record { more = v.more; made = a.0; is = a.1 }

  pub arg_nothing : Begins ReadsArg []
  arg_nothing = arg_begins [] (viable_nothing 0 (omega arith))

  pub head_is : (k : Lexeme) (ts front rest : List Lexeme) (e : Tree) → Reads 0 front e → k ∷ ts ≡ front ++ rest → BeginsAt k.at front
  head_is k ts [] rest e r parts = absurd (no_empty e r)
  head_is k ts (j ∷ front) rest e r parts = let same : k ≡ j = cc in ap (λ (x : Lexeme). x.at) (sym same)

  pub text_kind : (kind : TokenKind) → is_text_kind kind ≡ true → kind ≡ kinds.Text
  text_kind kinds.Text e = refl
  text_kind kinds.Number e = absurd cc
  text_kind kinds.Name e = absurd cc
  text_kind kinds.Mark e = absurd cc

  abbrev pub Args : List Lexeme → Front ArgTree → Type 0
  Args ts r = Outcome ReadsArg (Begins ReadsArg) (argument read) ts r

  pub quoted_law : (k : Lexeme) (ts : List Lexeme) → is_text_kind k.kind ≡ true → (o : Option (List ℕ)) → between_quotes k.text ≡ o → Args (k ∷ ts) (quoted_string o k.at ts)
  unfolding argument
  quoted_law k ts is None o_is = refused ReadsArg (Begins ReadsArg) (argument read) (k ∷ ts) arg_nothing (by_head (λ us. argument read us ≡ Err (length us)) k ts (λ us. rw (is, o_is) refl))
  quoted_law k ts is (Some text) o_is =
      after ReadsArg (Begins ReadsArg) (argument read) (λ us. Ok (t.TextArg (record { text = text; at = k.at }), us)) k ts (Ok (t.TextArg (record { text = text; at = k.at }), ts)) (λ us. rw (is, o_is) refl)
      (nothing_taken (λ back x. ReadsArg (k ∷ back) x) (λ back. Begins ReadsArg (k ∷ back)) (λ us. Ok (t.TextArg (record { text = text; at = k.at }), us)) ts (t.TextArg (record { text = text; at = k.at }))
      (string_arg k (text_kind k.kind is) text o_is) (λ us same. refl))

  pub argument_by_law : (k : Lexeme) (ts : List Lexeme) → length ts < n → (v : Bool) → is_text_kind k.kind ≡ v → Args (k ∷ ts) (cond v (quoted_string (between_quotes k.text) k.at ts) (whole read (k ∷ ts) >>= λ x. Ok (t.ExprArg k.at x.0, x.1)))
  unfolding argument
  argument_by_law k ts lt true is = quoted_law k ts is (between_quotes k.text) refl
  argument_by_law k ts lt false is =
      headed ReadsArg (Begins ReadsArg) (argument read) (λ us. whole read us >>= λ x. Ok (t.ExprArg k.at x.0, x.1)) k ts (whole read (k ∷ ts) >>= λ x. Ok (t.ExprArg k.at x.0, x.1)) (λ us. rw is refl)
      (seq ReadsArg (Begins ReadsArg) (whole read) (λ e us. Ok (t.ExprArg k.at e, us)) (k ∷ ts) (Reads 0) (Viable 0) (whole_law n H (k ∷ ts) lt)
      (λ front v. arg_begins front v)
      (λ front x e parts r.
      nothing_taken (λ back y. ReadsArg (front ++ back) y) (λ back. Begins ReadsArg (front ++ back)) (λ us. Ok (t.ExprArg k.at x.0, us)) x.1 (t.ExprArg k.at x.0)
      (subst (λ (l : List Lexeme). Reads 0 l x.0 × BeginsAt k.at l) (sym (append-nil front)) (r, head_is k ts front x.1 x.0 r parts)) (λ us same. refl)))

  pub argument_law : (ts : List Lexeme) → length ts ≤ n → Args ts (argument read ts)
  unfolding argument
  argument_law [] le = refused ReadsArg (Begins ReadsArg) (argument read) [] arg_nothing (at_end (λ us. argument read us ≡ Err (length us)) refl)
  argument_law (k ∷ ts) le = argument_by_law k ts le (is_text_kind k.kind) refl

  -- an argument and those after it
  pub joined_args : (front : List Lexeme) (a : ArgTree) → ReadsArg front a → (back : List Lexeme) (more : ArgTrees) → MoreArgs back more → SomeArgs (front ++ back) (t.MoreArgs a more)
  joined_args front a r back more m = record {
    front = front ++ m.front;
    mark = m.mark;
    parts = ap (λ (l : List Lexeme). front ++ l) m.parts ∙ sym (append_assoc front m.front (m.mark ∷ []));
    is_mark = m.is_mark;
    inner = record { left = front; right = m.front; parts = refl; first = r; second = m.inner };
  }

  pub no_more : (k : Lexeme) → IsMark (codes ")") k → MoreArgs (k ∷ []) t.NoArgs
  no_more k m = record { front = []; mark = k; parts = refl; is_mark = m; inner = refl }

  pub args_begin : (front : List Lexeme) → Begins ReadsArg front → Begins SomeArgs front
  args_begin front v =
      let close = mark (codes ")") ∷ [] in
      record {
        more = v.more ++ close;
        made = t.MoreArgs v.made t.NoArgs;
        is = subst (λ (l : List Lexeme). SomeArgs l (t.MoreArgs v.made t.NoArgs)) (append_assoc front v.more close) (joined_args (front ++ v.more) v.made v.is close t.NoArgs (no_more (mark (codes ")")) (mark_marks (codes ")"))));
      }

  pub args_go_on : (front : List Lexeme) (a : ArgTree) → ReadsArg front a → (back : List Lexeme) → Begins MoreArgs back → Begins SomeArgs (front ++ back)
  args_go_on front a r back v = record {
    more = v.more;
    made = t.MoreArgs a v.made;
    is = subst (λ (l : List Lexeme). SomeArgs l (t.MoreArgs a v.made)) (sym (append_assoc front back v.more)) (joined_args front a r (back ++ v.more) v.made v.is);
  }

  pub argument_short : (ts : List Lexeme) (x : ArgTree × List Lexeme) → argument read ts ≡ Ok x → length x.1 < length ts
  argument_short ts x is = argument_shrinks (suc (length ts)) read (λ aim us y lt e. shrinks aim us y e) ts x (omega arith) is

  pub arguments_law : (ts : List Lexeme) → length ts ≤ n → Outcome SomeArgs (Begins SomeArgs) (arguments read) ts (arguments read ts)
  unfolding arguments
  arguments_law ts le =
      seq SomeArgs (Begins SomeArgs) (argument read) (λ a us. read Further us >>= λ more. Ok (t.MoreArgs a more.0, more.1)) ts ReadsArg (Begins ReadsArg) (argument_law ts le)
      (λ front v. args_begin front v)
      (λ front x e parts r.
      seq (λ back y. SomeArgs (front ++ back) y) (λ back. Begins SomeArgs (front ++ back)) (read Further) (λ more us. Ok (t.MoreArgs x.0 more, us)) x.1 MoreArgs (Begins MoreArgs) (H Further x.1 (omega (arith, argument_short ts x e, le)))
      (λ back v. args_go_on front x.0 r back v)
      (λ back y e2 parts2 m.
      nothing_taken (λ last z. SomeArgs (front ++ (back ++ last)) z) (λ last. Begins SomeArgs (front ++ (back ++ last))) (λ us. Ok (t.MoreArgs x.0 y.0, us)) y.1 (t.MoreArgs x.0 y.0)
      (subst (λ (l : List Lexeme). SomeArgs (front ++ l) (t.MoreArgs x.0 y.0)) (sym (append-nil back)) (joined_args front x.0 r back y.0 m)) (λ us same. refl)))

  pub closed_law : (ts : List Lexeme) → Outcome MoreArgs (Begins MoreArgs) (closing_parenthesis read) ts (closing_parenthesis read ts)
  closed_law ts =
      seq MoreArgs (Begins MoreArgs) (expect (codes ")")) (λ _ us. Ok (t.NoArgs, us)) ts (λ front x. Single (IsMark (codes ")")) front) (λ front. front ≡ []) (expect_law (codes ")") ts)
      (λ front nil. subst (Begins MoreArgs) (sym nil) (record { more = mark (codes ")") ∷ []; made = t.NoArgs; is = no_more (mark (codes ")")) (mark_marks (codes ")")) }))
      (λ front x e parts one.
      nothing_taken (λ back y. MoreArgs (front ++ back) y) (λ back. Begins MoreArgs (front ++ back)) (λ us. Ok (t.NoArgs, us)) x.1 t.NoArgs
      (subst (λ (l : List Lexeme). MoreArgs l t.NoArgs) (sym (append-nil front ∙ one.parts)) (no_more one.only one.is)) (λ us same. refl))

  pub after_comma : (k : Lexeme) → IsMark (codes ",") k → (front : List Lexeme) (args : ArgTrees) → SomeArgs front args → MoreArgs (k ∷ front) args
  after_comma k m front t.NoArgs s = absurd s
  after_comma k m front (t.MoreArgs a more) s = record {
    front = k ∷ s.front;
    mark = s.mark;
    parts = ap (λ (l : List Lexeme). k ∷ l) s.parts;
    is_mark = s.is_mark;
    inner = record { mark = k; rest = s.front; parts = refl; is_mark = m; inner = s.inner };
  }

  pub further_by_law : (k : Lexeme) (ts : List Lexeme) → length ts ≤ n → (v : Bool) → is_mark (codes ",") k ≡ v → Outcome MoreArgs (Begins MoreArgs) (further read) (k ∷ ts) (cond v (arguments read ts) (closing_parenthesis read (k ∷ ts)))
  unfolding further
  further_by_law k ts le true is =
      let m = mark_from (codes ",") k is in
      after MoreArgs (Begins MoreArgs) (further read) (arguments read) k ts (arguments read ts) (λ us. rw is refl)
      (loosen SomeArgs (λ back x. MoreArgs (k ∷ back) x) (Begins SomeArgs) (λ back. Begins MoreArgs (k ∷ back)) (arguments read) (arguments read) ts (arguments read ts) (λ us. refl)
      (λ front x s. after_comma k m front x s) (λ front v. record { more = v.more; made = v.made; is = after_comma k m (front ++ v.more) v.made v.is }) (arguments_law ts le))
  further_by_law k ts le false is = headed MoreArgs (Begins MoreArgs) (further read) (closing_parenthesis read) k ts (closing_parenthesis read (k ∷ ts)) (λ us. rw is refl) (closed_law (k ∷ ts))

  pub further_nothing : Outcome MoreArgs (Begins MoreArgs) (further read) [] (further read [])
  unfolding further expect
  further_nothing = refused MoreArgs (Begins MoreArgs) (further read) [] (record { more = mark (codes ")") ∷ []; made = t.NoArgs; is = no_more (mark (codes ")")) (mark_marks (codes ")")) }) (at_end (λ us. further read us ≡ Err (length us)) refl)

  pub further_law : (ts : List Lexeme) → length ts ≤ n → Outcome MoreArgs (Begins MoreArgs) (further read) ts (further read ts)
  unfolding further
  further_law [] le = further_nothing
  further_law (k ∷ ts) le = further_by_law k ts (omega (arith, le)) (is_mark (codes ",") k) refl
