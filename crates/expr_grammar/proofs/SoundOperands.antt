-- Operands and calls: what is read is in the grammar, and where nothing is.
use Rattle.std.proofs.Common.{◌≡◌, ℕ, suc, ◌<◌, ◌≤◌, Bool, true, false, cond, List, [], ◌∷◌, ◌++◌, length, Option, Some, None, Ok, Err, refl, sym, ap, subst, ◌∙◌, append_assoc, arith}
use Rattle.std.specs.Prelude.{codes}
use Rattle.std.specs.Str.{bytes_eq}
use Rattle.std.specs.Cmp.Lexicographic.{same_text}
use Rattle.std.proofs.lemmas.List.{append-nil}
use Rattle.dap_base.specs.Number.{number_value}
use Rattle.expr_grammar.specs.declared.code.UnaryOp.{UnaryOp}
use Rattle.expr_grammar.specs.declared.token.TokenKind.{TokenKind}
use Rattle.expr_grammar.specs.declared.token.TokenKind.TheVariants as kinds
use Rattle.expr_grammar.specs.Lexeme.{Lexeme}
use Rattle.expr_grammar.specs.Tree as t
use Rattle.expr_grammar.specs.Tree.{Tree, ArgTree, ArgTrees, StmtTree}
use Rattle.expr_grammar.specs.Grammar.{unary_text, IsMark, Single, Ended, Reads, ReadsArgs}
use Rattle.expr_grammar.specs.Reading.{Read, Aim, Whole, Operand, Arguments, is_mark, unary_of, name_of, expect, number_read, grouped_expression, marked_operand, call_after_name, name_or_call, operand_by, read, operand}
use Rattle.dap_base.specs.Outcome.{◌>>=◌}
use Rattle.expr_grammar.specs.Refusal.{Begins}
use Rattle.expr_grammar.proofs.Found.{mark_from, unary_found}
use Rattle.expr_grammar.proofs.Outcome.{Outcome, seq, after, nothing_taken, refused, by_head, at_end, headed}
use Rattle.expr_grammar.proofs.Complete.{open_operand}
use Rattle.expr_grammar.proofs.Viable.{mark, mark_marks, Viable, viable_nothing, expect_law, SomeArgs, Law}

module _ (n : ℕ) (H : (aim : Aim) (ts : List Lexeme) → length ts < n → Law aim ts) where
  pub grouped_law : (k : Lexeme) (ts : List Lexeme) → IsMark (codes "(") k → length ts < n → Outcome (λ front x. Reads 12 (k ∷ front) x) (λ front. Viable 12 (k ∷ front)) (grouped_expression read) ts (grouped_expression read ts)
  grouped_law k ts m lt =
      let P = λ (front : List Lexeme) (x : Tree). Reads 12 (k ∷ front) x in
      let V = λ (front : List Lexeme). Viable 12 (k ∷ front) in
      let close = mark (codes ")") in
      let closed = λ (front : List Lexeme) (more : List Lexeme) (e : Tree) (r : Reads 0 (front ++ more) e).
      let made : Viable 12 (k ∷ front) = record { more = more ++ close ∷ []; made = t.Group e; is = (omega arith, record { mark = k; rest = front ++ (more ++ close ∷ []); parts = refl; is_mark = m; inner = record { front = front ++ more; mark = close; parts = sym (append_assoc front more (close ∷ [])); is_mark = mark_marks (codes ")"); inner = r } }) } in made in
      seq P V (read Whole) (λ e us. expect (codes ")") us >>= λ r. Ok (t.Group e, r.1)) ts (Reads 0) (Viable 0) (H Whole ts lt)
      (λ front v. closed front v.more v.made v.is)
      (λ front x e parts is.
      seq (λ back y. P (front ++ back) y) (λ back. V (front ++ back)) (expect (codes ")")) (λ _ us. Ok (t.Group x.0, us)) x.1 (λ back y. Single (IsMark (codes ")")) back) (λ back. back ≡ []) (expect_law (codes ")") x.1)
      (λ back nil. subst (λ (l : List Lexeme). Viable 12 (k ∷ (front ++ l))) (sym nil) (subst (λ (l : List Lexeme). Viable 12 (k ∷ l)) (sym (append-nil front)) (closed front [] x.0 (subst (λ (l : List Lexeme). Reads 0 l x.0) (sym (append-nil front)) is))))
      (λ back y e2 parts2 is2.
      nothing_taken (λ last z. P (front ++ (back ++ last)) z) (λ last. V (front ++ (back ++ last))) (λ us. Ok (t.Group x.0, us)) y.1 (t.Group x.0)
      (omega arith, record { mark = k; rest = front ++ (back ++ []); parts = refl; is_mark = m; inner = record { front = front; mark = is2.only; parts = ap (λ (l : List Lexeme). front ++ l) (append-nil back ∙ is2.parts); is_mark = is2.is; inner = is } })
      (λ us same. refl)))

  pub unary_law : (op : UnaryOp) (k : Lexeme) (ts : List Lexeme) → IsMark (unary_text op) k → length ts < n
      → Outcome (λ front x. Reads 12 (k ∷ front) x) (λ front. Viable 12 (k ∷ front)) (λ us. read Operand us >>= λ x. Ok (t.Unary op x.0, x.1)) ts (read Operand ts >>= λ x. Ok (t.Unary op x.0, x.1))
  unary_law op k ts m lt =
      let made = λ (rest : List Lexeme) (e : Tree) (r : Reads 12 rest e). let it : Reads 12 (k ∷ rest) (t.Unary op e) = (omega arith, record { mark = k; rest = rest; parts = refl; is_mark = m; inner = r }) in it in
      seq (λ front x. Reads 12 (k ∷ front) x) (λ front. Viable 12 (k ∷ front)) (read Operand) (λ e us. Ok (t.Unary op e, us)) ts (Reads 12) (Viable 12) (H Operand ts lt)
      (λ front v. record { more = v.more; made = t.Unary op v.made; is = made (front ++ v.more) v.made v.is })
      (λ front x e parts is.
      nothing_taken (λ back y. Reads 12 (k ∷ (front ++ back)) y) (λ back. Viable 12 (k ∷ (front ++ back))) (λ us. Ok (t.Unary op x.0, us)) x.1 (t.Unary op x.0)
      (made (front ++ []) x.0 (subst (λ (l : List Lexeme). Reads 12 l x.0) (sym (append-nil front)) is)) (λ us same. refl))

  abbrev pub Operands : List Lexeme → Read → Type 0
  Operands ts r = Outcome (Reads 12) (Viable 12) (operand read) ts r

  pub operand_refused : (k : Lexeme) (ts : List Lexeme) → ((us : List Lexeme) → operand read (k ∷ us) ≡ Err (suc (length us))) → Operands (k ∷ ts) (Err (suc (length ts)))
  operand_refused k ts h = refused (Reads 12) (Viable 12) (operand read) (k ∷ ts) (viable_nothing 12 (omega arith)) (by_head (λ us. operand read us ≡ Err (length us)) k ts h)

  pub number_law : (k : Lexeme) (ts : List Lexeme) → k.kind ≡ kinds.Number → (o : Option ℕ) → number_value k.text ≡ o → Operands (k ∷ ts) (number_read o ts)
  unfolding operand
  number_law k ts is None o_is = operand_refused k ts (λ us. rw (is, o_is) refl)
  number_law k ts is (Some v) o_is =
      after (Reads 12) (Viable 12) (operand read) (λ us. Ok (t.Number v, us)) k ts (Ok (t.Number v, ts)) (λ us. rw (is, o_is) refl)
      (nothing_taken (λ back x. Reads 12 (k ∷ back) x) (λ back. Viable 12 (k ∷ back)) (λ us. Ok (t.Number v, us)) ts (t.Number v) (omega arith, record { only = k; parts = refl; is = record { kind = is; value = o_is } }) (λ us same. refl))

  -- ---- calls

  pub called_args : (j k : Lexeme) → j.kind ≡ kinds.Name → IsMark (codes "(") k → (front : List Lexeme) (args : ArgTrees) → Ended (λ inner. ReadsArgs inner args) (codes ")") front → Reads 12 (j ∷ k ∷ front) (t.Call (name_of j) args)
  called_args j k is m front args e = (omega arith, record { left = j ∷ []; mark = k; right = front; parts = refl; is_mark = m; first = record { only = j; parts = refl; is = record { kind = is; text_is = refl; at_is = refl } }; second = e })

  pub some_args : (ts : List Lexeme) (args : ArgTrees) → SomeArgs ts args → Ended (λ inner. ReadsArgs inner args) (codes ")") ts
  some_args ts t.NoArgs s = absurd s
  some_args ts (t.MoreArgs a more) s = s

  pub no_args : (k : Lexeme) → IsMark (codes ")") k → Ended (λ inner. ReadsArgs inner t.NoArgs) (codes ")") (k ∷ [])
  no_args k m = record { front = []; mark = k; parts = refl; is_mark = m; inner = refl }

  module _ (j k : Lexeme) (is : j.kind ≡ kinds.Name) (opens : IsMark (codes "(") k) where
    abbrev Calls : List Lexeme → Tree → Type 0
    Calls front x = Reads 12 (j ∷ k ∷ front) x

    abbrev CallsOn : List Lexeme → Type 0
    CallsOn front = Viable 12 (j ∷ k ∷ front)

    abbrev with_args : List Lexeme → Read
    with_args us = read Arguments us >>= λ x. Ok (t.Call (name_of j) x.0, x.1)

    args_law : (ts : List Lexeme) → length ts < n → Outcome Calls CallsOn with_args ts (with_args ts)
    args_law ts lt =
        seq Calls CallsOn (read Arguments) (λ args us. Ok (t.Call (name_of j) args, us)) ts SomeArgs (Begins SomeArgs) (H Arguments ts lt)
        (λ front v. record { more = v.more; made = t.Call (name_of j) v.made; is = called_args j k is opens (front ++ v.more) v.made (some_args (front ++ v.more) v.made v.is) })
        (λ front x e parts r.
        nothing_taken (λ back y. Calls (front ++ back) y) (λ back. CallsOn (front ++ back)) (λ us. Ok (t.Call (name_of j) x.0, us)) x.1 (t.Call (name_of j) x.0)
        (called_args j k is opens (front ++ []) x.0 (subst (λ (l : List Lexeme). Ended (λ inner. ReadsArgs inner x.0) (codes ")") l) (sym (append-nil front)) (some_args front x.0 r))) (λ us same. refl))

    called_by_law : (m : Lexeme) (ts : List Lexeme) → suc (length ts) < n → (v : Bool) → is_mark (codes ")") m ≡ v → Outcome Calls CallsOn (call_after_name read (name_of j)) (m ∷ ts) (cond v (Ok (t.Call (name_of j) t.NoArgs, ts)) (with_args (m ∷ ts)))
    called_by_law m ts lt true v_is =
        after Calls CallsOn (call_after_name read (name_of j)) (λ us. Ok (t.Call (name_of j) t.NoArgs, us)) m ts (Ok (t.Call (name_of j) t.NoArgs, ts)) (λ us. rw v_is refl)
        (nothing_taken (λ back x. Calls (m ∷ back) x) (λ back. CallsOn (m ∷ back)) (λ us. Ok (t.Call (name_of j) t.NoArgs, us)) ts (t.Call (name_of j) t.NoArgs) (called_args j k is opens (m ∷ []) t.NoArgs (no_args m (mark_from (codes ")") m v_is))) (λ us same. refl))
    called_by_law m ts lt false v_is =
        headed Calls CallsOn (call_after_name read (name_of j)) with_args m ts (with_args (m ∷ ts)) (λ us. rw v_is refl) (args_law (m ∷ ts) lt)

    called_law : (ts : List Lexeme) → length ts < n → Outcome Calls CallsOn (call_after_name read (name_of j)) ts (call_after_name read (name_of j) ts)
    called_law [] lt =
        refused Calls CallsOn (call_after_name read (name_of j)) [] (record { more = mark (codes ")") ∷ []; made = t.Call (name_of j) t.NoArgs; is = called_args j k is opens (mark (codes ")") ∷ []) t.NoArgs (no_args (mark (codes ")")) (mark_marks (codes ")"))) })
        (at_end (λ us. call_after_name read (name_of j) us ≡ Err (length us)) refl)
    called_law (m ∷ ts) lt = called_by_law m ts lt (is_mark (codes ")") m) refl

  module _ (j : Lexeme) (is : j.kind ≡ kinds.Name) where
    abbrev Names : List Lexeme → Tree → Type 0
    Names front x = Reads 12 (j ∷ front) x

    abbrev NamesOn : List Lexeme → Type 0
    NamesOn front = Viable 12 (j ∷ front)

    name_alone : Reads 12 (j ∷ []) (t.Named (name_of j))
    name_alone = (omega arith, record { only = j; parts = refl; is = record { kind = is; text_is = refl; at_is = refl } })

    named_by_law : (k : Lexeme) (ts : List Lexeme) → length ts < n → (v : Bool) → is_mark (codes "(") k ≡ v → Outcome Names NamesOn (name_or_call read (name_of j)) (k ∷ ts) (cond v (call_after_name read (name_of j) ts) (Ok (t.Named (name_of j), k ∷ ts)))
    named_by_law k ts lt true v_is =
        after Names NamesOn (name_or_call read (name_of j)) (call_after_name read (name_of j)) k ts (call_after_name read (name_of j) ts) (λ us. rw v_is refl) (called_law j k is (mark_from (codes "(") k v_is) ts lt)
    named_by_law k ts lt false v_is = nothing_taken Names NamesOn (name_or_call read (name_of j)) (k ∷ ts) (t.Named (name_of j)) name_alone (by_head (λ us. name_or_call read (name_of j) us ≡ Ok (t.Named (name_of j), us)) k ts (λ us. rw v_is refl))

    named_law : (ts : List Lexeme) → length ts < n → Outcome Names NamesOn (name_or_call read (name_of j)) ts (name_or_call read (name_of j) ts)
    named_law [] lt = nothing_taken Names NamesOn (name_or_call read (name_of j)) [] (t.Named (name_of j)) name_alone (at_end (λ us. name_or_call read (name_of j) us ≡ Ok (t.Named (name_of j), us)) refl)
    named_law (k ∷ ts) lt = named_by_law k ts (omega (arith, lt)) (is_mark (codes "(") k) refl

  pub name_law : (k : Lexeme) (ts : List Lexeme) → length ts < n → k.kind ≡ kinds.Name → Operands (k ∷ ts) (name_or_call read (name_of k) ts)
  unfolding operand
  name_law k ts lt is = after (Reads 12) (Viable 12) (operand read) (name_or_call read (name_of k)) k ts (name_or_call read (name_of k) ts) (λ us. rw is refl) (named_law k is ts lt)

  pub open_law : (k : Lexeme) (ts : List Lexeme) → length ts < n → k.kind ≡ kinds.Mark → unary_of k.text ≡ None → (v : Bool) → bytes_eq k.text (codes "(") ≡ v → Operands (k ∷ ts) (cond v (grouped_expression read ts) (Err (suc (length ts))))
  unfolding operand
  open_law k ts lt is none true v_is =
      let m : IsMark (codes "(") k = record { kind = is; text_is = same_text k.text (codes "(") (sym v_is) } in
      after (Reads 12) (Viable 12) (operand read) (grouped_expression read) k ts (grouped_expression read ts) (λ us. open_operand k us m) (grouped_law k ts m lt)
  open_law k ts lt is none false v_is = operand_refused k ts (λ us. rw (is, none, v_is) refl)

  pub marked_law : (k : Lexeme) (ts : List Lexeme) → length ts < n → k.kind ≡ kinds.Mark → (o : Option UnaryOp) → unary_of k.text ≡ o → Operands (k ∷ ts) (marked_operand read o k ts)
  unfolding operand
  marked_law k ts lt is (Some op) o_is =
      let m : IsMark (unary_text op) k = record { kind = is; text_is = unary_found k.text op o_is } in
      after (Reads 12) (Viable 12) (operand read) (λ us. read Operand us >>= λ x. Ok (t.Unary op x.0, x.1)) k ts (read Operand ts >>= λ x. Ok (t.Unary op x.0, x.1)) (λ us. rw (is, o_is) refl) (unary_law op k ts m lt)
  marked_law k ts lt is None o_is = open_law k ts lt is o_is (bytes_eq k.text (codes "(")) refl

  pub operand_by_law : (k : Lexeme) (ts : List Lexeme) → length ts < n → (kind : TokenKind) → k.kind ≡ kind → Operands (k ∷ ts) (operand_by read kind k ts)
  unfolding operand
  operand_by_law k ts lt kinds.Number is = number_law k ts is (number_value k.text) refl
  operand_by_law k ts lt kinds.Name is = name_law k ts lt is
  operand_by_law k ts lt kinds.Text is = operand_refused k ts (λ us. rw is refl)
  operand_by_law k ts lt kinds.Mark is = marked_law k ts lt is (unary_of k.text) refl

  pub operand_law : (ts : List Lexeme) → length ts ≤ n → Operands ts (operand read ts)
  unfolding operand
  operand_law [] le = refused (Reads 12) (Viable 12) (operand read) [] (viable_nothing 12 (omega arith)) (at_end (λ us. operand read us ≡ Err (length us)) refl)
  operand_law (k ∷ ts) le = operand_by_law k ts (omega arith) k.kind refl
