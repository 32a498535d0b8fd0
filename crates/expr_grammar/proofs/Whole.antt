-- All of the tokens: what is read, where nothing is, and the answer that follows.
use Rattle.std.proofs.Common.{◌≡◌, ℕ, zero, suc, ◌+◌, ◌-◌, ◌<◌, ◌≤◌, ◌⊎◌, inl, inr, Bool, true, false, cond, eqb, ltb, List, [], ◌∷◌, ◌++◌, length, take, drop, Result, Ok, Err, refl, sym, ap, subst, ◌∙◌, append_assoc, arith}
use Rattle.dap_base.proofs.Basics.{same_Ok}
use Rattle.std.specs.Prelude.{◌&&◌}
use Rattle.std.proofs.lemmas.Bool.{eqb-true, eqb-false, ltb-true, ltb-false, and_parts, and_cases, cases_lt}
use Rattle.std.proofs.lemmas.List.{append-nil, length-append, take_at, take_all, length-take-le, take-append-drop, take-take}
use Rattle.dap_base.specs.declared.text.Place.{Place}
use Rattle.expr_grammar.specs.declared.fault.Fault.{Fault}
use Rattle.expr_grammar.specs.declared.fault.Fault.TheVariants as faults
use Rattle.expr_grammar.specs.declared.limit.Span.{Span}
use Rattle.expr_grammar.specs.declared.parse.ParseError.{ParseError}
use Rattle.expr_grammar.specs.declared.parse.ParseError.TheVariants.{Unexpected, TooDeep, OutOfMemory}
use Rattle.expr_grammar.specs.Lexeme.{Lexeme}
use Rattle.expr_grammar.specs.Reading.{Front, GivesReading, all_of}
use Rattle.dap_base.specs.Outcome.{◌>>=◌}
use Rattle.expr_grammar.specs.Refusal.{Begins, IsUnexpected, IsDeep, NoneDeepBefore, place_of, IsAccepted, IsUnexpectedFirst, IsDeepFirst, AnswersParse, Accepts, Refuses}
use Rattle.expr_grammar.specs.Counting.{limited_answer}
use Rattle.expr_grammar.proofs.Outcome.{SameHead, Outcome}

-- ---- fronts of a list

split_length : (front rest : List Lexeme) → length (front ++ rest) - length rest ≡ length front
split_length front rest = omega (arith, length-append front rest)

take_front : (ts front rest : List Lexeme) → ts ≡ front ++ rest → take (length ts - length rest) ts ≡ front
take_front ts front rest parts =
    let at : length ts - length rest ≡ length front = ap (λ (l : List Lexeme). length l - length rest) parts ∙ split_length front rest in
    ap (λ (n : ℕ). take n ts) at ∙ ap (λ (l : List Lexeme). take (length front) l) parts ∙ take_at front rest (length front) refl

take_one_more : (ts front : List Lexeme) (k : Lexeme) (rest : List Lexeme) → ts ≡ front ++ k ∷ rest → take (length ts - length (k ∷ rest) + 1) ts ≡ front ++ k ∷ []
take_one_more ts front k rest parts =
    let at : length ts - length (k ∷ rest) + 1 ≡ length (front ++ k ∷ []) = omega (arith, ap length parts, length-append front (k ∷ rest), length-append front (k ∷ [])) in
    let other : ts ≡ (front ++ k ∷ []) ++ rest = parts ∙ sym (append_assoc front (k ∷ []) rest) in
    ap (λ (n : ℕ). take n ts) at ∙ ap (λ (l : List Lexeme). take (length (front ++ k ∷ [])) l) other ∙ take_at (front ++ k ∷ []) rest (length (front ++ k ∷ [])) refl

not_zero_by : (n : ℕ) (v : Bool) → eqb (suc n) 0 ≡ v → v ≡ false
not_zero_by n true is = absurd (omega (arith, eqb-true (suc n) 0 is))
not_zero_by n false is = refl

-- ---- a relation and its reader: complete, and its outcomes known

module _ {X : Type 0} (R : List Lexeme → X → Type 0) (f : List Lexeme → Front X) (complete : (ts : List Lexeme) (x : X) → R ts x → f ts ≡ Ok (x, []))
    (outcome : (ts : List Lexeme) → Outcome R (Begins R) f ts (f ts)) where
  abbrev res : X → List Lexeme → Front X
  res x ts = Ok (x, ts)

  rest_same : (x y : X) (ts us : List Lexeme) → res x ts ≡ res y us → ts ≡ us
  rest_same x y ts us e = ap (λ (p : X × List Lexeme). p.1) (same_Ok (x, ts) (y, us) e)

  value_same : (x y : X) (ts us : List Lexeme) → res x ts ≡ res y us → x ≡ y
  value_same x y ts us e = ap (λ (p : X × List Lexeme). p.0) (same_Ok (x, ts) (y, us) e)

  pub one : (ts : List Lexeme) (x y : X) → R ts x → R ts y → x ≡ y
  one ts x y rx ry = value_same x y [] [] (sym (complete ts x rx) ∙ complete ts y ry)

  -- nothing is read where the reader leaves tokens or fails
  refused_at : (ts front rest : List Lexeme) → ts ≡ front ++ rest → Begins R front → ((k : Lexeme) (us : List Lexeme) (x : X) → SameHead rest (k ∷ us) → f (front ++ k ∷ us) ≡ Ok (x, []) → ⊥) → ((x : X) → rest ≡ [] → R ts x → ⊥)
      → IsUnexpected R ts (length ts - length rest)
  refused_at ts front [] parts begins never not_whole = record {
    within = omega arith;
    begins = subst (Begins R) (sym (take_front ts front [] parts)) begins;
    none = λ lt b. absurd (omega arith);
    not_whole = λ _ x r. not_whole x refl r;
  }
  refused_at ts front (k ∷ rest) parts begins never not_whole =
      let len : length ts ≡ length front + suc (length rest) = ap length parts ∙ length-append front (k ∷ rest) in
      record {
        within = omega arith;
        begins = subst (Begins R) (sym (take_front ts front (k ∷ rest) parts)) begins;
        none = λ lt b.
            let c : Begins R (front ++ k ∷ []) = subst (Begins R) (take_one_more ts front k rest parts) b in
            let shape : (front ++ k ∷ []) ++ c.more ≡ front ++ k ∷ c.more = append_assoc front (k ∷ []) c.more in
            never k c.more c.made refl (complete (front ++ k ∷ c.more) c.made (subst (λ (l : List Lexeme). R l c.made) shape c.is));
        not_whole = λ same x r. absurd (omega (arith, len, same));
      }

  never_ok : (x y : X) (k : Lexeme) (us : List Lexeme) → res x (k ∷ us) ≡ res y [] → ⊥
  never_ok x y k us h = let nil : k ∷ us ≡ [] = rest_same x y (k ∷ us) [] h in absurd cc

  never_err : (n : ℕ) (x : X) (r : Front X) → r ≡ Err n → r ≡ Ok (x, []) → ⊥
  never_err n x r bad good = absurd cc

  left_over : (x : X) (n : ℕ) (r : Result X ℕ) → cond (eqb (suc n) 0) (Ok x) (Err (suc n)) ≡ r → Err (suc n) ≡ r
  left_over x n r h = let g : eqb (suc n) 0 ≡ false = not_zero_by n (eqb (suc n) 0) refl in rw g at h

  record Whole (ts : List Lexeme) (r : Result X ℕ) : Type 0 where
    ok : (x : X) → r ≡ Ok x → R ts x
    err : (k : ℕ) → r ≡ Err k → IsUnexpected R ts (length ts - k)
    most : (k : ℕ) → r ≡ Err k → k ≤ length ts

  whole_by : (ts : List Lexeme) (r : Front X) → f ts ≡ r → Outcome R (Begins R) f ts r → Whole ts (r >>= λ x. cond (eqb (length x.1) 0) (Ok x.0) (Err (length x.1)))
  whole_by ts (Err n) is o = record {
    ok = λ x h. absurd cc;
    err = λ k h.
        let same : n ≡ k = cc in
        subst (λ (v : ℕ). IsUnexpected R ts (length ts - v)) (sym o.left ∙ same) (refused_at ts o.front o.rest o.parts o.goes_on
        (λ j us x head got. never_err (length (j ∷ us)) x (f (o.front ++ j ∷ us)) (o.only (j ∷ us) head) got)
        (λ x nil r. never_err n x (f ts) is (complete ts x r)));
    most = λ k h.
        let same : n ≡ k = cc in
        omega (arith, same, o.left, ap length o.parts, length-append o.front o.rest);
  }
  whole_by ts (Ok (x, [])) is o = record {
    ok = λ y h.
        let same : x ≡ y = cc in
        subst (λ (v : X). R ts v) same (subst (λ (l : List Lexeme). R l x) (sym (o.parts ∙ append-nil o.front)) o.is);
    err = λ k h. absurd cc;
    most = λ k h. absurd cc;
  }
  whole_by ts (Ok (x, k ∷ rest)) is o = record {
    ok = λ y h. let g : Err (suc (length rest)) ≡ Ok y = left_over x (length rest) (Ok y) h in absurd cc;
    err = λ n h.
        let g : Err (suc (length rest)) ≡ Err n = left_over x (length rest) (Err n) h in
        let same : suc (length rest) ≡ n = cc in
        subst (λ (v : ℕ). IsUnexpected R ts (length ts - v)) same (refused_at ts o.front (k ∷ rest) o.parts (record { more = []; made = x; is = subst (λ (l : List Lexeme). R l x) (sym (append-nil o.front)) o.is })
        (λ j us y head got. never_ok x y j us (sym (o.only (j ∷ us) head) ∙ got))
        (λ y nil r. absurd cc));
    most = λ n h.
        let g : Err (suc (length rest)) ≡ Err n = left_over x (length rest) (Err n) h in
        let same : suc (length rest) ≡ n = cc in
        omega (arith, same, ap length o.parts, length-append o.front (k ∷ rest));
  }

  all_whole : (ts : List Lexeme) → Whole ts (all_of f ts)
  all_whole ts = whole_by ts (f ts) refl (outcome ts)

  begins_with : (ts : List Lexeme) (x : X) (n : ℕ) → R ts x → Begins R (take n ts)
  begins_with ts x n r = record { more = drop n ts; made = x; is = subst (λ (l : List Lexeme). R l x) (sym (take-append-drop n ts)) r }

  -- what begins with more begins with less
  begins_less : (ts : List Lexeme) (n m : ℕ) → n ≤ m → Begins R (take m ts) → Begins R (take n ts)
  begins_less ts n m le b =
      let whole : take n ts ++ (drop n (take m ts) ++ b.more) ≡ take m ts ++ b.more =
      sym (append_assoc (take n ts) (drop n (take m ts)) b.more) ∙ ap (λ (l : List Lexeme). l ++ b.more) (ap (λ (l : List Lexeme). l ++ drop n (take m ts)) (sym (take-take n m ts le)) ∙ take-append-drop n (take m ts)) in
      record { more = drop n (take m ts) ++ b.more; made = b.made; is = subst (λ (l : List Lexeme). R l b.made) (sym whole) b.is }

  no_unexpected : (ts : List Lexeme) (i : ℕ) → IsUnexpected R ts i → (x : X) → R ts x → ⊥
  no_unexpected ts i u x r =
      elim (cases_lt i (length ts)) [
        | inl lt ↦ u.none lt (begins_with ts x (i + 1) r)
        | inr le ↦ u.not_whole (omega (arith, u.within)) x r
      ]

  -- ---- from what is read before the limit to the answer
  module _ {V : Type 0} (view : V → X) (span : Span) (ts front : List Lexeme) (limit : ℕ) (is_front : front ≡ take limit ts) (within : limit ≤ length ts)
      (none : NoneDeepBefore span ts limit) (deep : limit < length ts → IsDeep span ts limit) where
    front_length : length front ≡ limit
    front_length = ap length is_front ∙ length-take-le limit ts within

    front_all : limit ≡ length ts → front ≡ ts
    front_all all = is_front ∙ take_all limit ts (omega (arith, all))

    front_take : (n : ℕ) → n ≤ limit → take n front ≡ take n ts
    front_take n le = ap (take n) is_front ∙ take-take n limit ts le

    fewer : (i : ℕ) → i ≤ limit → NoneDeepBefore span ts i
    fewer i le j lt d = none j (omega (arith, lt, le)) d

    at_limit : Begins R front → limit < length ts → AnswersParse view R span ts (Err (TooDeep (place_of ts limit)))
    at_limit b less = (limit, record { deep = deep less; first = none; begins = subst (Begins R) is_front b }, refl)

    ok_by : (v : V) → all_of f front ≡ Ok (view v) → (b : Bool) → eqb limit (length ts) ≡ b → AnswersParse view R span ts (cond b (Ok v) (Err (TooDeep (place_of ts limit))))
    ok_by v got true is =
        let all : limit ≡ length ts = eqb-true limit (length ts) is in
        record { reads = subst (λ (l : List Lexeme). R l (view v)) (front_all all) ((all_whole front).ok (view v) got); none_deep = fewer (length ts) (omega (arith, all)) }
    ok_by v got false is =
        let less : limit < length ts = elim (cases_lt limit (length ts)) [ inl lt ↦ lt | inr ge ↦ absurd (eqb-false limit (length ts) is (omega (arith, ge, within))) ] in
        at_limit (record { more = []; made = view v; is = subst (λ (l : List Lexeme). R l (view v)) (sym (append-nil front)) ((all_whole front).ok (view v) got) }) less

    unexpected : (left : ℕ) → all_of f front ≡ Err left → ((0 < left) ⊎ (limit ≡ length ts)) → AnswersParse view R span ts (Err (Unexpected (place_of ts (limit - left))))
    unexpected left got which =
        let u : IsUnexpected R front (length front - left) = (all_whole front).err left got in
        let most : left ≤ length front = (all_whole front).most left got in
        let i = limit - left in
        let at : length front - left ≡ i = ap (λ (n : ℕ). n - left) front_length in
        let v : IsUnexpected R front i = subst (IsUnexpected R front) at u in
        elim which [
          | inl pos ↦
              let lt : i < limit = omega (arith, most, front_length, pos) in
              let shown : IsUnexpected R ts i = record {
                within = omega (arith, lt, within);
                begins = subst (Begins R) (front_take i (omega (arith, lt))) v.begins;
                none = λ _ b. v.none (omega (arith, lt, front_length)) (subst (Begins R) (sym (front_take (i + 1) (omega (arith, lt)))) b);
                not_whole = λ is x r. absurd (omega (arith, is, lt, within));
              } in
              (i, record { unexpected = shown; none_deep = fewer (i + 1) (omega (arith, lt)) }, refl)
          | inr all ↦ (i, record { unexpected = subst (λ (l : List Lexeme). IsUnexpected R l i) (front_all all) v; none_deep = none_at_end all i (omega (arith, all)) }, refl)
        ] where
          none_at_end : limit ≡ length ts → (i : ℕ) → i ≤ length ts → NoneDeepBefore span ts (i + 1)
          none_at_end all i le j lt d = elim (cases_lt j limit) [ inl before ↦ none j before d | inr ge ↦ absurd (past_end d (omega (arith, ge, all))) ] where
            past_end : {j : ℕ} → IsDeep span ts j → length ts ≤ j → ⊥
            past_end {j} d ge = absurd (omega (arith, ge, ap length d.parts, length-append d.before (d.here ∷ d.after), d.index))

    err_by : (left : ℕ) → all_of f front ≡ Err left → (b : Bool) → (eqb left 0 && ltb limit (length ts)) ≡ b
        → AnswersParse view R span ts (cond b (Err (TooDeep (place_of ts limit))) (Err (Unexpected (place_of ts (limit - left)))))
    err_by left got true is =
        let two = and_parts (eqb left 0) (ltb limit (length ts)) is in
        let zero_is : left ≡ 0 = eqb-true left 0 two.0 in
        let u : IsUnexpected R front (length front - left) = (all_whole front).err left got in
        let whole : take (length front - left) front ≡ front = take_all (length front - left) front (omega (arith, zero_is)) in
        at_limit (subst (Begins R) whole u.begins) (ltb-true limit (length ts) two.1)
    err_by left got false is =
        unexpected left got (elim (and_cases (eqb left 0) (ltb limit (length ts)) is) [
          | inl some ↦ inl (pos_by left some)
          | inr end ↦ inr (omega (arith, ltb-false limit (length ts) end, within))
        ]) where
          pos_by : (n : ℕ) → eqb n 0 ≡ false → 0 < n
          pos_by zero e = absurd (eqb-false 0 0 e refl)
          pos_by (suc n) e = omega arith

    pub answers : (r : Result V Fault) → GivesReading view r (all_of f front) → AnswersParse view R span ts (limited_answer r ts limit)
    answers (Ok v) got = ok_by v got (eqb limit (length ts)) refl
    answers (Err faults.Memory) got = tt
    answers (Err (faults.Unexpected left)) got = err_by left got (eqb left 0 && ltb limit (length ts)) refl

  -- ---- no other answer is one
  module _ {V : Type 0} (view : V → X) (span : Span) (ts : List Lexeme) where
    deep_within : (us : List Lexeme) (i : ℕ) → IsDeep span us i → i < length us
    deep_within us i d = omega (arith, ap length d.parts, length-append d.before (d.here ∷ d.after), d.index)

    begins_at : (i : ℕ) → i < length ts → IsUnexpected R ts i → (j : ℕ) → i < j → Begins R (take j ts) → ⊥
    begins_at i less u j lt b = u.none less (begins_less ts (i + 1) j (omega (arith, lt)) b)

    one_unexpected : (i j : ℕ) → IsUnexpected R ts i → IsUnexpected R ts j → i ≡ j
    one_unexpected i j u v =
        elim (cases_lt i j) [
          | inl lt ↦ absurd (begins_at i (omega (arith, lt, v.within)) u j lt v.begins)
          | inr ge ↦ elim (cases_lt j i) [ inl gt ↦ absurd (begins_at j (omega (arith, gt, u.within)) v i gt u.begins) | inr le ↦ omega (arith, ge, le) ]
        ]

    pub only_value : (r : Result V ParseError) → AnswersParse view R span ts r → (x : X) → IsAccepted R span ts x → Accepts view x r
    only_value (Ok v) a x r = one ts (view v) x a.reads r.reads
    only_value (Err OutOfMemory) a x r = tt
    only_value (Err (Unexpected at)) a x r = no_unexpected ts a.0 a.1.unexpected x r.reads
    only_value (Err (TooDeep at)) a x r = r.none_deep a.0 (deep_within ts a.0 a.1.deep) a.1.deep

    pub only_unexpected : (r : Result V ParseError) → AnswersParse view R span ts r → (i : ℕ) → IsUnexpectedFirst R span ts i → Refuses (Unexpected (place_of ts i)) r
    only_unexpected (Ok v) a i u = no_unexpected ts i u.unexpected (view v) a.reads
    only_unexpected (Err OutOfMemory) a i u = tt
    only_unexpected (Err (Unexpected at)) a i u = ap (λ (p : Place). Unexpected p) (a.2 ∙ ap (place_of ts) (one_unexpected a.0 i a.1.unexpected u.unexpected))
    only_unexpected (Err (TooDeep at)) a i u =
        let within = deep_within ts a.0 a.1.deep in
        elim (cases_lt a.0 (i + 1)) [ inl lt ↦ absurd (u.none_deep a.0 lt a.1.deep) | inr ge ↦ absurd (begins_at i (omega (arith, ge, within)) u.unexpected a.0 (omega (arith, ge)) a.1.begins) ]

    pub only_too_deep : (r : Result V ParseError) → AnswersParse view R span ts r → (i : ℕ) → IsDeepFirst R span ts i → Refuses (TooDeep (place_of ts i)) r
    only_too_deep (Ok v) a i d = a.none_deep i (deep_within ts i d.deep) d.deep
    only_too_deep (Err OutOfMemory) a i d = tt
    only_too_deep (Err (Unexpected at)) a i d =
        let within = deep_within ts i d.deep in
        elim (cases_lt i (a.0 + 1)) [ inl lt ↦ absurd (a.1.none_deep i lt d.deep) | inr ge ↦ absurd (begins_at a.0 (omega (arith, ge, within)) a.1.unexpected i (omega (arith, ge)) d.begins) ]
    only_too_deep (Err (TooDeep at)) a i d =
        let same : a.0 ≡ i = elim (cases_lt a.0 i) [ inl lt ↦ absurd (d.first a.0 lt a.1.deep) | inr ge ↦ elim (cases_lt i a.0) [ inl gt ↦ absurd (a.1.first i gt d.deep) | inr le ↦ omega (arith, ge, le) ] ] in
        ap (λ (p : Place). TooDeep p) (a.2 ∙ ap (place_of ts) same)
