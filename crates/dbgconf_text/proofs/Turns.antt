-- One turn of reading names and values.
use Rattle.std.proofs.Common.{◌≡◌, ◌≢◌, ℕ, zero, suc, ◌+◌, ◌*◌, ◌<◌, ◌≤◌, inl, inr, Bool, true, false, List, [], ◌∷◌, ◌++◌, length, take, drop, slice_get, Option, Some, None, refl, sym, ap, subst, ◌∙◌, arith}
use Rattle.std.specs.Prelude.{codes}
use Rattle.std.specs.List.{IsDistinct, list_any}
use Rattle.std.specs.Str.{bytes_eq}
use Rattle.std.specs.Cmp.Lexicographic.{bytes_decides}
use Rattle.std.proofs.lemmas.Bool.{both_ways, cases_order, or_parts, or_from}
use Rattle.std.proofs.lemmas.List.{append-nil, drop_at, length-take-le, take_all, map_push}
use Rattle.std.proofs.lemmas.Option.{slice_get_within, same_Some}
use Rattle.std.specs.Cmp.{IsEquivalence, both_ways as same_bool}
use Rattle.std.proofs.lemmas.Map.Keys.{IsDistinct-push}
use Rattle.dap_base.specs.declared.text.Place.{Place}
use Rattle.dap_base.specs.Number.{number_value}
use Rattle.dap_base.proofs.Basics.{other_text}
use Rattle.expr_grammar.specs.declared.code.Name.{Name}
use Rattle.expr_grammar.specs.declared.token.TokenKind.{TokenKind}
use Rattle.expr_grammar.specs.declared.token.TokenKind.TheVariants as kinds
use Rattle.expr_grammar.specs.Lexeme.{Lexeme}
use Rattle.expr_grammar.specs.Grammar.{IsMark, IsNumber}
use Rattle.expr_grammar.specs.Reading.{is_mark}
use Rattle.expr_grammar.specs.Refusal.{place_of}
use Rattle.expr_grammar.specs.Refusal as refusal
use Rattle.expr_grammar.proofs.Found.{mark_from}
use Rattle.dbgconf_text.specs.declared.conf.ConfItem.{ConfItem}
use Rattle.dbgconf_text.specs.declared.conf.ConfFault.TheVariants.{Unexpected, Repeated}
use Rattle.dbgconf_text.specs.Conf.{IsConf, ReadsConf, has_item, item_name, names, IsRepeated, NoneRepeated}
use Rattle.dbgconf_text.specs.Turns.{IsNameAt, IsNext, IsRefusal, Stands, is_mark_of, is_number_kind, token_number}
use Rattle.dbgconf_text.proofs.Items.{unexpected, nothing, after_name, after_equals, after_number, stop_name, stop_equals, stop_number, stop_semi, reads_append, reads_length, one_conf}

-- ---- tokens by their index

none_some : {A : Type 0} (x : A) → None ≡ Some x → ⊥
none_some x e = cc

pub split : (ts : List Lexeme) (i : ℕ) (k : Lexeme) → slice_get ts i ≡ Some k → ts ≡ take i ts ++ k ∷ drop (i + 1) ts
split [] i k e = absurd (none_some k e)
split (x ∷ ts) zero k e = ap (λ (y : Lexeme). y ∷ ts) (same_Some x k e)
split (x ∷ ts) (suc i) k e =
    let n : suc i + 1 ≡ suc (i + 1) = omega arith in
    let same : drop (suc i + 1) (x ∷ ts) ≡ drop (i + 1) ts = ap (λ (n : ℕ). drop n (x ∷ ts)) n in
    ap (λ (l : List Lexeme). x ∷ l) (split ts i k e) ∙ ap (λ (l : List Lexeme). x ∷ (take i ts ++ k ∷ l)) (sym same)

at_front : (ts : List Lexeme) (n : ℕ) → slice_get ts n ≡ slice_get (drop n ts) 0
at_front [] zero = refl
at_front [] (suc n) = refl
at_front (x ∷ ts) zero = refl
at_front (x ∷ ts) (suc n) = at_front ts n

-- what is left from an index on, where a token stands there
pub left_at : (ts : List Lexeme) (n : ℕ) (k : Lexeme) → slice_get ts n ≡ Some k → drop n ts ≡ k ∷ drop (n + 1) ts
left_at [] n k e = absurd (none_some k e)
left_at (x ∷ ts) zero k e = ap (λ (y : Lexeme). y ∷ ts) (same_Some x k e)
left_at (x ∷ ts) (suc n) k e =
    let m : suc n + 1 ≡ suc (n + 1) = omega arith in
    left_at ts n k e ∙ ap (λ (l : List Lexeme). k ∷ l) (sym (ap (λ (m : ℕ). drop m (x ∷ ts)) m))

mark_true : (text : List ℕ) (k : Lexeme) → IsMark text k → is_mark text k ≡ true
mark_true text k is =
    let kind = is.kind in
    let text_is = is.text_is in
    let same : bytes_eq text text ≡ true = (bytes_decides text text).1 refl in
    rw (kind, text_is, same) refl

pub mark_some : (text : List ℕ) (o : Option Lexeme) → is_mark_of text o ≡ true → (k : Lexeme) × (o ≡ Some k) × IsMark text k
mark_some text None e = absurd cc
mark_some text (Some k) e = (k, refl, mark_from text k e)

mark_none : (text : List ℕ) (o : Option Lexeme) (k : Lexeme) → is_mark_of text o ≡ false → o ≡ Some k → IsMark text k → ⊥
mark_none text o k e is m =
    let at : is_mark_of text o ≡ is_mark text k = ap (is_mark_of text) is in
    both_ways (is_mark text k) (sym at ∙ e) (mark_true text k m)

number_kind : (kind : TokenKind) → is_number_kind kind ≡ true → kind ≡ kinds.Number
number_kind kinds.Number e = refl
number_kind kinds.Name e = absurd cc
number_kind kinds.Text e = absurd cc
number_kind kinds.Mark e = absurd cc

number_by : (k : Lexeme) (v : ℕ) (b : Bool) → is_number_kind k.kind ≡ b → token_number (Some k) ≡ Some v → IsNumber v k
number_by k v true is e =
    let here : token_number (Some k) ≡ number_value k.text = rw is refl in
    record { kind = number_kind k.kind is; value = sym here ∙ e }
number_by k v false is e =
    let here : token_number (Some k) ≡ None = rw is refl in
    absurd (none_some v (sym here ∙ e))

pub number_some : (o : Option Lexeme) (v : ℕ) → token_number o ≡ Some v → (k : Lexeme) × (o ≡ Some k) × IsNumber v k
number_some None v e = absurd (none_some v e)
number_some (Some k) v e = (k, refl, number_by k v (is_number_kind k.kind) refl e)

number_none : (o : Option Lexeme) (k : Lexeme) (v : ℕ) → token_number o ≡ None → o ≡ Some k → IsNumber v k → ⊥
number_none o k v e is n =
    let kind = n.kind in
    let at : token_number (Some k) ≡ number_value k.text = rw kind refl in
    none_some v (sym e ∙ ap token_number is ∙ at ∙ n.value)

-- ---- names that stand before

fresh_here : (ts : List Lexeme) (i : ℕ) (conf : List ConfItem) (a : Lexeme) → Stands ts i conf → slice_get ts i ≡ Some a → has_item conf a.text ≡ false → IsRepeated ts i → ⊥
fresh_here ts i conf a s at fresh r =
    let same : r.before ≡ conf = one_conf r.before conf (take i ts) r.reads s.reads in
    let here : r.here ≡ a = same_Some r.here a (sym r.at ∙ at) in
    let again : has_item conf a.text ≡ true = ap (λ (k : Lexeme). has_item conf k.text) (sym here) ∙ ap (λ (c : List ConfItem). has_item c r.here.text) (sym same) ∙ r.again in
    both_ways (has_item conf a.text) fresh again

inside : (ts : List Lexeme) (i : ℕ) (conf : List ConfItem) (j : ℕ) → Stands ts i conf → i < j → j < i + 4 → IsRepeated ts j → ⊥
inside ts i conf j s low high r =
    let within : j < length ts = slice_get_within ts j r.here r.at in
    let a : length (take j ts) ≡ 4 * length r.before = reads_length r.before (take j ts) r.reads in
    let b : length (take i ts) ≡ 4 * length conf = reads_length conf (take i ts) s.reads in
    omega (arith, a, b, length-take-le j ts (omega (arith, within)), length-take-le i ts s.within, low, high)

none_until : (ts : List Lexeme) (i : ℕ) (conf : List ConfItem) (a : Lexeme) (k : ℕ) → Stands ts i conf → slice_get ts i ≡ Some a → has_item conf a.text ≡ false → k ≤ i + 4 → NoneRepeated ts k
none_until ts i conf a k s at fresh le = λ j lt r.
    elim (cases_order j i) [
      | inl same ↦ fresh_here ts i conf a s at fresh (subst (IsRepeated ts) same r)
      | inr other ↦ elim other [ inl low ↦ s.none j low r | inr high ↦ inside ts i conf j s high (omega (arith, lt, le)) r ]
    ]

-- ---- refusals

module _ (ts : List Lexeme) (i : ℕ) (conf : List ConfItem) (s : Stands ts i conf) where
  size : length (take i ts) ≡ i
  size = length-take-le i ts s.within

  pub refused_name : (a : Lexeme) (at : Place) → slice_get ts i ≡ Some a → a.kind ≢ kinds.Name → at ≡ place_of ts i → IsRefusal ts (Unexpected at)
  refused_name a at here other place =
      let u = unexpected ts (take i ts) [] (a ∷ drop (i + 1) ts) conf s.reads (split ts i a here) nothing (stop_name a (drop (i + 1) ts) other) in
      let n : length (take i ts) + 0 ≡ i = omega (arith, size) in
      (i, record { unexpected = subst (λ (m : ℕ). refusal.IsUnexpected ReadsConf ts m) n u; none = s.none }, place)

  pub refused_repeated : (a : Lexeme) (at : Place) → slice_get ts i ≡ Some a → a.kind ≡ kinds.Name → has_item conf a.text ≡ true → at ≡ place_of ts i → IsRefusal ts (Repeated at)
  refused_repeated a at here kind again place =
      (i, record { repeated = record { before = conf; reads = s.reads; here = a; at = here; is_name = kind; again = again }; none = s.none }, place)

  module _ (n : Name) (name : IsNameAt ts i n) (fresh : has_item conf n.text ≡ false) where
    fresh_text : has_item conf name.0.text ≡ false
    fresh_text = ap (has_item conf) name.2.text_is ∙ fresh

    pub refused_equals : (at : Place) → is_mark_of (codes "=") (slice_get ts (i + 1)) ≡ false → at ≡ place_of ts (i + 1) → IsRefusal ts (Unexpected at)
    refused_equals at other place =
        let stop = stop_equals name.0 (drop (i + 1) ts) (λ k is m. mark_none (codes "=") (slice_get ts (i + 1)) k other (at_front ts (i + 1) ∙ is) m) in
        let u = unexpected ts (take i ts) (name.0 ∷ []) (drop (i + 1) ts) conf s.reads (split ts i name.0 name.1) (after_name n name.0 name.2) stop in
        let m : length (take i ts) + 1 ≡ i + 1 = omega (arith, size) in
        (i + 1, record { unexpected = subst (λ (m : ℕ). refusal.IsUnexpected ReadsConf ts m) m u; none = none_until ts i conf name.0 (i + 1) s name.1 fresh_text (omega arith) }, place)

    module _ (equals : is_mark_of (codes "=") (slice_get ts (i + 1)) ≡ true) where
      second : (k : Lexeme) × (slice_get ts (i + 1) ≡ Some k) × IsMark (codes "=") k
      second = mark_some (codes "=") (slice_get ts (i + 1)) equals

      pub two_within : i + 1 < length ts
      two_within = slice_get_within ts (i + 1) second.0 second.1

      two : (n2 : ℕ) → n2 ≡ i + 2 → ts ≡ take i ts ++ (name.0 ∷ second.0 ∷ drop n2 ts)
      two n2 is =
          let e : drop (i + 1 + 1) ts ≡ drop n2 ts = ap (λ (m : ℕ). drop m ts) (omega (arith, is)) in
          split ts i name.0 name.1 ∙ ap (λ (l : List Lexeme). take i ts ++ name.0 ∷ l) (left_at ts (i + 1) second.0 second.1) ∙ ap (λ (l : List Lexeme). take i ts ++ (name.0 ∷ second.0 ∷ l)) e

      pub refused_number : (at : Place) → token_number (slice_get ts (i + 2)) ≡ None → at ≡ place_of ts (i + 2) → IsRefusal ts (Unexpected at)
      refused_number at other place =
          let stop = stop_number name.0 second.0 (drop (i + 2) ts) (λ k v is num. number_none (slice_get ts (i + 2)) k v other (at_front ts (i + 2) ∙ is) num) in
          let u = unexpected ts (take i ts) (name.0 ∷ second.0 ∷ []) (drop (i + 2) ts) conf s.reads (two (i + 2) refl) (after_equals n name.0 second.0 name.2 second.2) stop in
          let m : length (take i ts) + 2 ≡ i + 2 = omega (arith, size) in
          (i + 2, record { unexpected = subst (λ (m : ℕ). refusal.IsUnexpected ReadsConf ts m) m u; none = none_until ts i conf name.0 (i + 2) s name.1 fresh_text (omega arith) }, place)

      module _ (v : ℕ) (value : token_number (slice_get ts (i + 2)) ≡ Some v) where
        third : (k : Lexeme) × (slice_get ts (i + 2) ≡ Some k) × IsNumber v k
        third = number_some (slice_get ts (i + 2)) v value

        pub three_within : i + 2 < length ts
        three_within = slice_get_within ts (i + 2) third.0 third.1

        three : (n3 : ℕ) → n3 ≡ i + 3 → ts ≡ take i ts ++ (name.0 ∷ second.0 ∷ third.0 ∷ drop n3 ts)
        three n3 is =
            let e : drop (i + 2 + 1) ts ≡ drop n3 ts = ap (λ (m : ℕ). drop m ts) (omega (arith, is)) in
            two (i + 2) refl ∙ ap (λ (l : List Lexeme). take i ts ++ (name.0 ∷ second.0 ∷ l)) (left_at ts (i + 2) third.0 third.1) ∙ ap (λ (l : List Lexeme). take i ts ++ (name.0 ∷ second.0 ∷ third.0 ∷ l)) e

        pub refused_semi : (at : Place) → is_mark_of (codes ";") (slice_get ts (i + 3)) ≡ false → at ≡ place_of ts (i + 3) → IsRefusal ts (Unexpected at)
        refused_semi at other place =
            let stop = stop_semi name.0 second.0 third.0 (drop (i + 3) ts) (λ k is m. mark_none (codes ";") (slice_get ts (i + 3)) k other (at_front ts (i + 3) ∙ is) m) in
            let u = unexpected ts (take i ts) (name.0 ∷ second.0 ∷ third.0 ∷ []) (drop (i + 3) ts) conf s.reads (three (i + 3) refl) (after_number n v name.0 second.0 third.0 name.2 second.2 third.2) stop in
            let m : length (take i ts) + 3 ≡ i + 3 = omega (arith, size) in
            (i + 3, record { unexpected = subst (λ (m : ℕ). refusal.IsUnexpected ReadsConf ts m) m u; none = none_until ts i conf name.0 (i + 3) s name.1 fresh_text (omega arith) }, place)

        pub next_item : is_mark_of (codes ";") (slice_get ts (i + 3)) ≡ true → IsNext ts i conf (record { name = n; value = v })
        next_item semi =
            let fourth = mark_some (codes ";") (slice_get ts (i + 3)) semi in
            let within = slice_get_within ts (i + 3) fourth.0 fourth.1 in
            let all : ts ≡ take i ts ++ (name.0 ∷ second.0 ∷ third.0 ∷ fourth.0 ∷ drop (i + 3 + 1) ts) =
            three (i + 3) refl ∙ ap (λ (l : List Lexeme). take i ts ++ (name.0 ∷ second.0 ∷ third.0 ∷ l)) (left_at ts (i + 3) fourth.0 fourth.1) in
            let left : drop i ts ≡ name.0 ∷ second.0 ∷ third.0 ∷ fourth.0 ∷ drop (i + 3 + 1) ts = ap (drop i) all ∙ drop_at (take i ts) (name.0 ∷ second.0 ∷ third.0 ∷ fourth.0 ∷ drop (i + 3 + 1) ts) i size in
            record {
              within = omega (arith, within);
              item_is = record { name = name.0; equals = second.0; number = third.0; semi = fourth.0; parts = ap (take 4) left; is_name = name.2; is_equals = second.2; is_number = third.2; is_semi = fourth.2 };
              fresh = fresh;
            }

-- ---- from turn to turn

distinct_nil : IsDistinct bytes_eq (names [])
unfolding IsDistinct
distinct_nil = tt

bytes_eq_equiv : IsEquivalence bytes_eq
bytes_eq_equiv = record {
  refl = λ x. (bytes_decides x x).1 refl;
  symm = λ x y. same_bool (bytes_eq x y) (bytes_eq y x) (λ e. (bytes_decides y x).1 (sym ((bytes_decides x y).0 e))) (λ e. (bytes_decides x y).1 (sym ((bytes_decides y x).0 e)));
  congr = λ x y z e. ap (λ (l : List ℕ). bytes_eq l z) ((bytes_decides x y).0 e);
}

pub starts : (ts : List Lexeme) (conf : List ConfItem) → conf ≡ [] → Stands ts 0 conf
starts ts conf is = subst (Stands ts 0) (sym is) (record { within = omega arith; reads = refl; distinct = distinct_nil; none = λ j lt r. absurd (omega (arith, lt)) })

fresh_names : (conf : List ConfItem) (name : List ℕ) → has_item conf name ≡ false → list_any (bytes_eq name) (names conf) ≡ false
fresh_names [] name e = refl
fresh_names (x ∷ conf) name e =
    let two = or_parts (bytes_eq x.name.text name) (has_item conf name) e in
    or_from (bytes_eq name x.name.text) (list_any (bytes_eq name) (names conf)) (other_text x.name.text name two.0) (fresh_names conf name two.1)

nothing_taken : (n : ℕ) → take {A = Lexeme} n [] ≡ []
nothing_taken zero = refl
nothing_taken (suc n) = refl

take_further : (start n : ℕ) (ts : List Lexeme) → take (start + n) ts ≡ take start ts ++ take n (drop start ts)
take_further zero n ts = let m : 0 + n ≡ n = omega arith in ap (λ (m : ℕ). take m ts) m
take_further (suc start) n [] = nothing_taken (suc start + n) ∙ sym (nothing_taken n)
take_further (suc start) n (x ∷ ts) =
    let e : suc start + n ≡ suc (start + n) = omega arith in
    ap (λ (m : ℕ). take m (x ∷ ts)) e ∙ ap (λ (l : List Lexeme). x ∷ l) (take_further start n ts)

pub stands_on : (ts : List Lexeme) (i j : ℕ) (conf conf' : List ConfItem) (item : ConfItem) → Stands ts i conf → IsNext ts i conf item → conf' ≡ conf ++ item ∷ [] → j ≡ i + 4 → Stands ts j conf'
stands_on ts i j conf conf' item s n conf_is j_is =
    let four = take 4 (drop i ts) in
    let one : ReadsConf four (item ∷ []) = record { left = four; right = []; parts = sym (append-nil four); first = n.item_is; second = refl } in
    let reads : ReadsConf (take i ts ++ four) (conf ++ item ∷ []) = reads_append conf (take i ts) (item ∷ []) four s.reads one in
    let name_at : slice_get ts i ≡ Some n.item_is.name = at_front ts i ∙ head (drop i ts) n.item_is.name (n.item_is.equals ∷ n.item_is.number ∷ n.item_is.semi ∷ []) n.item_is.parts in
    let fresh : has_item conf n.item_is.name.text ≡ false = ap (has_item conf) n.item_is.is_name.text_is ∙ n.fresh in
    let whole : Stands ts (i + 4) (conf ++ item ∷ []) = record {
      within = n.within;
      reads = subst (λ (l : List Lexeme). ReadsConf l (conf ++ item ∷ [])) (sym (take_further i 4 ts)) reads;
      distinct = subst (IsDistinct bytes_eq) (sym (map_push item_name conf item)) (IsDistinct-push bytes_eq_equiv (names conf) item.name.text s.distinct (fresh_names conf item.name.text n.fresh));
      none = none_until ts i conf n.item_is.name (i + 4) s name_at fresh (omega arith);
    } in
    subst (λ (c : List ConfItem). Stands ts j c) (sym conf_is) (subst (λ (k : ℕ). Stands ts k (conf ++ item ∷ [])) (sym j_is) whole) where
      head : (l : List Lexeme) (k : Lexeme) (more : List Lexeme) → take 4 l ≡ k ∷ more → slice_get l 0 ≡ Some k
      head [] k more e = absurd cc
      head (x ∷ l) k more e = let same : x ≡ k = cc in ap (λ (y : Lexeme). Some y) same

pub is_conf : (ts : List Lexeme) (i : ℕ) (conf : List ConfItem) → Stands ts i conf → length ts ≤ i → IsConf ts conf
is_conf ts i conf s le = record { reads = subst (λ (l : List Lexeme). ReadsConf l conf) (take_all i ts le) s.reads; distinct = s.distinct }
