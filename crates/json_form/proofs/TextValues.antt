-- What a JSON text says in strings are texts, with no more bytes than the whole.
use Rattle.std.proofs.Common.{◌≡◌, ℕ, zero, suc, ◌<◌, ◌≤◌, Bool, true, false, cond, ◌&&◌, eqb, List, [], ◌∷◌, ◌++◌, length, drop, Option, Some, None, option_map, Ordering, Less, Equal, Greater, nat_cmp, refl, sym, subst, append_assoc, arith, IsUtf8}
use Rattle.std.specs.Prelude.{IfSome}
use Rattle.std.specs.Option.{option_and_then}
use Rattle.std.specs.Ordering.{match_ordering}
use Rattle.std.specs.Cmp.Lexicographic.{slice_cmp}
use Rattle.std.specs.List.{AllByRecursion, starts_with}
use Rattle.std.proofs.lemmas.Bool.{eqb-true}
use Rattle.json.specs.Ascii as ascii
use Rattle.json.specs.Text.{content, plain}
use Rattle.json.specs.Token.{Token, begin_object, end_object, begin_array, end_array, key, string, number, boolean, null, bad}
use Rattle.json.specs.Word.{is_operator, is_space, word, literal, number_before, after_number, head, ends_word}
use Rattle.json.specs.Lex.{Lexeme, token, comma, colon, Class, quote, backslash, operator, space, other, class, operator_lexeme, string_token, Mode, between, in_word, in_string, in_escape, lex_byte, lex, Place, fresh, after_value, after_comma, after_key, begins_colon, may_begin, may_close, if_allowed, place_token, punctuate, tokens}
use Rattle.json.specs.Json as j
use Rattle.json.specs.Json.{Json, Parse, parse_map, after_end_array, read_key, items_step, members_step, items, members, value_with, value, if_last}
use Rattle.serde_json.specs.Data as d
use Rattle.serde_json.specs.Data.{Data, put}
use Rattle.serde_json.specs.Read.{number_of, of_json, of_items, of_members, max_depth, read}
use Rattle.serde_json.specs.Find.{get, get_member}
use Rattle.json_form.specs.Short as words
use Rattle.json_form.specs.Short.{IsShort}
use Rattle.json_form.proofs.TextBytes.{after_ascii, string_good}

module _ (n : ℕ) where
  abbrev AreShort : Data → Type 0
  AreShort = words.AreShort n

  abbrev ItemsShort : d.Items → Type 0
  ItemsShort = words.ItemsShort n

  abbrev MembersShort : d.Members → Type 0
  MembersShort = words.MembersShort n

  -- ---- tokens

  abbrev ShortToken : Token → Type 0
  ShortToken begin_object = Unit {0}
  ShortToken end_object = Unit {0}
  ShortToken begin_array = Unit {0}
  ShortToken end_array = Unit {0}
  ShortToken (key s) = IsShort n s
  ShortToken (string s) = IsShort n s
  ShortToken (number s) = Unit {0}
  ShortToken (boolean b) = Unit {0}
  ShortToken null = Unit {0}
  ShortToken bad = Unit {0}

  abbrev ShortLexeme : Lexeme → Type 0
  ShortLexeme (token t) = ShortToken t
  ShortLexeme comma = Unit {0}
  ShortLexeme colon = Unit {0}

  abbrev ShortLexemes : List Lexeme → Type 0
  ShortLexemes ls = AllByRecursion ShortLexeme ls

  abbrev ShortTokens : List Token → Type 0
  ShortTokens ts = AllByRecursion ShortToken ts

  cond_lexeme : (b : Bool) (x y : Lexeme) → ShortLexeme x → ShortLexeme y → ShortLexeme (cond b x y)
  cond_lexeme true x y p q = p
  cond_lexeme false x y p q = q

  cond_token : (b : Bool) (x y : Token) → ShortToken x → ShortToken y → ShortToken (cond b x y)
  cond_token true x y p q = p
  cond_token false x y p q = q

  operator_short : (x : ℕ) → ShortLexeme (operator_lexeme x)
  operator_short x =
      cond_lexeme (eqb x ascii.open_brace) _ _ tt (cond_lexeme (eqb x ascii.close_brace) _ _ tt (cond_lexeme (eqb x ascii.open_bracket) _ _ tt
      (cond_lexeme (eqb x ascii.close_bracket) _ _ tt (cond_lexeme (eqb x ascii.comma) _ _ tt tt))))

  number_short : (t : List ℕ) (o : Option (List ℕ)) → ShortToken (number_before t o)
  number_short t None = tt
  number_short t (Some rest) = cond_token (ends_word rest) _ _ tt tt

  literal_short : (name : List ℕ) (made : Token) (t : List ℕ) → ShortToken made → ShortToken (literal name made t)
  literal_short name made t is = either (starts_with eqb t name && ends_word (drop (length name) t)) made is where
    either : (b : Bool) (x : Token) → ShortToken x → ShortToken (cond b x bad)
    either true x p = p
    either false x p = tt

  word_short : (t : List ℕ) → ShortToken (word t)
  unfolding word
  word_short t =
      cond_token (eqb (head t) ascii.lower_t) _ _ (literal_short ascii.true_text (boolean true) t tt)
      (cond_token (eqb (head t) ascii.lower_f) _ _ (literal_short ascii.false_text (boolean false) t tt)
      (cond_token (eqb (head t) ascii.lower_n) _ _ (literal_short ascii.null_text null t tt) (number_short t (after_number t))))

  quote_by : (x : ℕ) (a b c e : Bool) → eqb x ascii.quote ≡ a → cond a quote (cond b backslash (cond c operator (cond e space other))) ≡ quote → x < 128
  quote_by x true b c e is h = omega (arith, eqb-true x ascii.quote is)
  quote_by x false true c e is h = absurd cc
  quote_by x false false true e is h = absurd cc
  quote_by x false false false true is h = absurd cc
  quote_by x false false false false is h = absurd cc

  quote_low : (x : ℕ) → class x ≡ quote → x < 128
  quote_low x h = quote_by x (eqb x ascii.quote) (eqb x ascii.backslash) (is_operator x) (is_space x) refl h

  string_short : (xs : List ℕ) → IsUtf8 xs → length xs ≤ n → (o : Option (List ℕ)) → content plain xs ≡ o → ShortToken (string_token o)
  string_short xs utf8 le None is = tt
  string_short xs utf8 le (Some s) is = let g = string_good xs s utf8 is in record { utf8 = g.0; few = omega (arith, g.1, le) }

  byte_short : (m : Mode) (c : Class) (x : ℕ) (pre xs : List ℕ) (k : Mode → List Lexeme) → class x ≡ c → IsUtf8 (pre ++ x ∷ xs) → length xs ≤ n → ((next : Mode) → ShortLexemes (k next)) → ShortLexemes (lex_byte m c x xs k)
  byte_short between quote x pre xs k is utf8 le later = (string_short xs (after_ascii pre x xs utf8 (quote_low x is)) le (content plain xs) refl, later in_string)
  byte_short between backslash x pre xs k is utf8 le later = (tt, later in_word)
  byte_short between operator x pre xs k is utf8 le later = (operator_short x, later between)
  byte_short between space x pre xs k is utf8 le later = later between
  byte_short between other x pre xs k is utf8 le later = (word_short (x ∷ xs), later in_word)
  byte_short in_word quote x pre xs k is utf8 le later = later in_word
  byte_short in_word backslash x pre xs k is utf8 le later = later in_word
  byte_short in_word operator x pre xs k is utf8 le later = (operator_short x, later between)
  byte_short in_word space x pre xs k is utf8 le later = later between
  byte_short in_word other x pre xs k is utf8 le later = later in_word
  byte_short in_string quote x pre xs k is utf8 le later = later between
  byte_short in_string backslash x pre xs k is utf8 le later = later in_escape
  byte_short in_string operator x pre xs k is utf8 le later = later in_string
  byte_short in_string space x pre xs k is utf8 le later = later in_string
  byte_short in_string other x pre xs k is utf8 le later = later in_string
  byte_short in_escape c x pre xs k is utf8 le later = later in_string

  lex_short : (m : Mode) (pre xs : List ℕ) → IsUtf8 (pre ++ xs) → length xs ≤ n → ShortLexemes (lex m xs)
  unfolding lex
  lex_short m pre [] utf8 le = tt
  lex_short m pre (x ∷ xs) utf8 le =
      byte_short m (class x) x pre xs (λ next. lex next xs) refl utf8 (omega (arith, le))
      (λ next. lex_short next (pre ++ x ∷ []) xs (subst IsUtf8 (sym (append_assoc pre (x ∷ []) xs)) utf8) (omega (arith, le)))

  allowed_short : (b : Bool) (t : Token) (k : Place → List Token) (next : Place) → ShortToken t → ((p : Place) → ShortTokens (k p)) → ShortTokens (if_allowed b t k next)
  allowed_short true t k next is later = (is, later next)
  allowed_short false t k next is later = (tt, tt)

  place_short : (p : Place) (t : Token) (b : Bool) (k : Place → List Token) → ShortToken t → ((p : Place) → ShortTokens (k p)) → ShortTokens (place_token p t b k)
  place_short p begin_object b k is later = allowed_short (may_begin p) begin_object k fresh tt later
  place_short p end_object b k is later = allowed_short (may_close p) end_object k after_value tt later
  place_short p begin_array b k is later = allowed_short (may_begin p) begin_array k fresh tt later
  place_short p end_array b k is later = allowed_short (may_close p) end_array k after_value tt later
  place_short p (key s) b k is later = (tt, tt)
  place_short p (string s) true k is later = allowed_short (may_begin p) (key s) k after_key is later
  place_short p (string s) false k is later = allowed_short (may_begin p) (string s) k after_value is later
  place_short p (number s) b k is later = allowed_short (may_begin p) (number s) k after_value tt later
  place_short p (boolean v) b k is later = allowed_short (may_begin p) (boolean v) k after_value tt later
  place_short p null b k is later = allowed_short (may_begin p) null k after_value tt later
  place_short p bad b k is later = (tt, tt)

  punctuate_short : (p : Place) (ls : List Lexeme) → ShortLexemes ls → ShortTokens (punctuate p ls)
  unfolding punctuate
  punctuate_short fresh [] are = tt
  punctuate_short after_value [] are = tt
  punctuate_short after_comma [] are = (tt, tt)
  punctuate_short after_key [] are = (tt, tt)
  punctuate_short fresh (token t ∷ ls) are = place_short fresh t (begins_colon ls) (λ next. punctuate next ls) are.0 (λ next. punctuate_short next ls are.1)
  punctuate_short after_value (token t ∷ ls) are = place_short after_value t (begins_colon ls) (λ next. punctuate next ls) are.0 (λ next. punctuate_short next ls are.1)
  punctuate_short after_comma (token t ∷ ls) are = place_short after_comma t (begins_colon ls) (λ next. punctuate next ls) are.0 (λ next. punctuate_short next ls are.1)
  punctuate_short after_key (token t ∷ ls) are = place_short after_key t (begins_colon ls) (λ next. punctuate next ls) are.0 (λ next. punctuate_short next ls are.1)
  punctuate_short fresh (comma ∷ ls) are = (tt, tt)
  punctuate_short after_value (comma ∷ ls) are = punctuate_short after_comma ls are.1
  punctuate_short after_comma (comma ∷ ls) are = (tt, tt)
  punctuate_short after_key (comma ∷ ls) are = (tt, tt)
  punctuate_short fresh (colon ∷ ls) are = (tt, tt)
  punctuate_short after_value (colon ∷ ls) are = (tt, tt)
  punctuate_short after_comma (colon ∷ ls) are = (tt, tt)
  punctuate_short after_key (colon ∷ ls) are = punctuate_short fresh ls are.1

  tokens_short : (text : List ℕ) → IsUtf8 text → length text ≤ n → ShortTokens (tokens text)
  tokens_short text utf8 le = punctuate_short fresh (lex between text) (lex_short between [] text utf8 le)

  -- ---- trees of tokens

  abbrev mutual
    ShortJson : Json → Type 0
    ShortJson j.null = Unit {0}
    ShortJson (j.boolean b) = Unit {0}
    ShortJson (j.number s) = Unit {0}
    ShortJson (j.string s) = IsShort n s
    ShortJson (j.array js) = ShortItems js
    ShortJson (j.object ms) = ShortMembers ms

    ShortItems : j.Items → Type 0
    ShortItems j.no_items = Unit {0}
    ShortItems (j.item x js) = ShortJson x × ShortItems js

    ShortMembers : j.Members → Type 0
    ShortMembers j.no_members = Unit {0}
    ShortMembers (j.member k x ms) = ShortJson x × ShortMembers ms

  -- what is read is short, and so is what is left
  abbrev Reads : {A : Type 0} → (A → Type 0) → Option (A × List Token) → Type 0
  Reads Short o = IfSome o (λ p. Short p.0 × ShortTokens p.1)

  abbrev Reader : {A : Type 0} → (A → Type 0) → Parse A → Type 0
  Reader Short f = (ts : List Token) → ShortTokens ts → Reads Short (f ts)

  mapped : {A B : Type 0} (P : A → Type 0) (Q : B → Type 0) (f : A → B) → ((x : A) → P x → Q (f x)) → (o : Option (A × List Token)) → Reads P o → Reads Q (parse_map f o)
  mapped P Q f to None r = tt
  mapped P Q f to (Some p) r = (to p.0 r.0, r.1)

  then_read : {A B : Type 0} (P : A → Type 0) (Q : B → Type 0) (o : Option (A × List Token)) (f : A × List Token → Option (B × List Token)) → Reads P o → ((p : A × List Token) → P p.0 → ShortTokens p.1 → Reads Q (f p))
      → Reads Q (option_and_then f o)
  then_read P Q None f r later = tt
  then_read P Q (Some p) f r later = later p r.0 r.1

  closed_short : (ts : List Token) → ShortTokens ts → IfSome (after_end_array ts) ShortTokens
  closed_short [] are = tt
  closed_short (begin_object ∷ ts) are = tt
  closed_short (end_object ∷ ts) are = tt
  closed_short (begin_array ∷ ts) are = tt
  closed_short (end_array ∷ ts) are = are.1
  closed_short (key s ∷ ts) are = tt
  closed_short (string s ∷ ts) are = tt
  closed_short (number s ∷ ts) are = tt
  closed_short (boolean b ∷ ts) are = tt
  closed_short (null ∷ ts) are = tt
  closed_short (bad ∷ ts) are = tt

  key_short : (ts : List Token) → ShortTokens ts → Reads (λ (k : Option (List ℕ)). Unit {0}) (read_key ts)
  key_short [] are = tt
  key_short (begin_object ∷ ts) are = tt
  key_short (end_object ∷ ts) are = (tt, are.1)
  key_short (begin_array ∷ ts) are = tt
  key_short (end_array ∷ ts) are = tt
  key_short (key s ∷ ts) are = (tt, are.1)
  key_short (string s ∷ ts) are = tt
  key_short (number s ∷ ts) are = tt
  key_short (boolean b ∷ ts) are = tt
  key_short (null ∷ ts) are = tt
  key_short (bad ∷ ts) are = tt

  module _ (one : Parse Json) (law : Reader ShortJson one) where
    item_short : (more : Parse j.Items) → Reader ShortItems more → (ts : List Token) → ShortTokens ts → (o : Option (List Token)) → IfSome o ShortTokens → Reads ShortItems (items_step one more ts o)
    item_short more rest ts are (Some after) left = (tt, left)
    item_short more rest ts are None left =
        then_read ShortJson ShortItems (one ts) _ (law ts are) (λ p is left. mapped ShortItems ShortItems (j.item p.0) (λ js all. (is, all)) (more p.1) (rest p.1 left))

    items_short : (fuel : ℕ) → Reader ShortItems (items one fuel)
    unfolding items
    items_short zero ts are = tt
    items_short (suc fuel) ts are = item_short (items one fuel) (items_short fuel) ts are (after_end_array ts) (closed_short ts are)

    member_short : (more : Parse j.Members) → Reader ShortMembers more → (k : Option (List ℕ)) (ts : List Token) → ShortTokens ts → Reads ShortMembers (members_step one more k ts)
    member_short more rest None ts are = (tt, are)
    member_short more rest (Some k) ts are =
        then_read ShortJson ShortMembers (one ts) _ (law ts are) (λ p is left. mapped ShortMembers ShortMembers (j.member k p.0) (λ ms all. (is, all)) (more p.1) (rest p.1 left))

    members_short : (fuel : ℕ) → Reader ShortMembers (members one fuel)
    unfolding members
    members_short zero ts are = tt
    members_short (suc fuel) ts are =
        then_read (λ (k : Option (List ℕ)). Unit {0}) ShortMembers (read_key ts) _ (key_short ts are) (λ p is left. member_short (members one fuel) (members_short fuel) p.0 p.1 left)

  with_short : (a : Parse j.Items) (o : Parse j.Members) → Reader ShortItems a → Reader ShortMembers o → Reader ShortJson (value_with a o)
  with_short a o p q [] are = tt
  with_short a o p q (begin_object ∷ ts) are = mapped ShortMembers ShortJson j.object (λ ms all. all) (o ts) (q ts are.1)
  with_short a o p q (end_object ∷ ts) are = tt
  with_short a o p q (begin_array ∷ ts) are = mapped ShortItems ShortJson j.array (λ js all. all) (a ts) (p ts are.1)
  with_short a o p q (end_array ∷ ts) are = tt
  with_short a o p q (key s ∷ ts) are = tt
  with_short a o p q (string s ∷ ts) are = (are.0, are.1)
  with_short a o p q (number s ∷ ts) are = (tt, are.1)
  with_short a o p q (boolean b ∷ ts) are = (tt, are.1)
  with_short a o p q (null ∷ ts) are = (tt, are.1)
  with_short a o p q (bad ∷ ts) are = tt

  value_short : (depth : ℕ) → Reader ShortJson (value depth)
  unfolding value
  value_short zero = with_short (λ ts. None) (λ ts. None) (λ ts are. tt) (λ ts are. tt)
  value_short (suc depth) =
      with_short (λ ts. items (value depth) (length ts) ts) (λ ts. members (value depth) (length ts) ts) (λ ts are. items_short (value depth) (value_short depth) (length ts) ts are)
      (λ ts are. members_short (value depth) (value_short depth) (length ts) ts are)

  -- ---- values

  order_short : (o : Ordering) (a b c : d.Members) → MembersShort a → MembersShort b → MembersShort c → MembersShort (match_ordering o a b c)
  order_short Less a b c p q r = p
  order_short Equal a b c p q r = q
  order_short Greater a b c p q r = r

  put_short : (k : List ℕ) (x : Data) (ms : d.Members) → AreShort x → MembersShort ms → MembersShort (put k x ms)
  put_short k x d.no_members is all = (is, tt)
  put_short k x (d.member l y ms) is all = order_short (slice_cmp nat_cmp k l) _ _ _ (is, all) (is, all.1) (all.0, put_short k x ms is all.1)

  some_mapped : {A B : Type 0} (P : A → Type 0) (Q : B → Type 0) (f : A → B) → ((x : A) → P x → Q (f x)) → (o : Option A) → IfSome o P → IfSome (option_map f o) Q
  some_mapped P Q f to None p = tt
  some_mapped P Q f to (Some x) p = to x p

  some_then : {A B : Type 0} (P : A → Type 0) (Q : B → Type 0) (f : A → Option B) (o : Option A) → IfSome o P → ((x : A) → P x → IfSome (f x) Q) → IfSome (option_and_then f o) Q
  some_then P Q f None p later = tt
  some_then P Q f (Some x) p later = later x p

  any : {A : Type 0} (o : Option A) → IfSome o (λ v. Unit {0})
  any None = tt
  any (Some v) = tt

  mutual
    of_json_short : (x : Json) → ShortJson x → IfSome (of_json x) AreShort
    of_json_short j.null is = tt
    of_json_short (j.boolean b) is = tt
    of_json_short (j.number s) is = some_mapped (λ v. Unit {0}) AreShort d.number (λ v p. tt) (number_of s) (any (number_of s))
    of_json_short (j.string s) is = is
    of_json_short (j.array js) is = some_mapped ItemsShort AreShort d.array (λ ds all. all) (of_items js) (of_items_short js is)
    of_json_short (j.object ms) is = some_mapped MembersShort AreShort d.object (λ all p. p) (of_members ms d.no_members) (of_members_short ms d.no_members is tt)

    of_items_short : (js : j.Items) → ShortItems js → IfSome (of_items js) ItemsShort
    of_items_short j.no_items are = tt
    of_items_short (j.item x js) are =
        some_then AreShort ItemsShort _ (of_json x) (of_json_short x are.0) (λ v is. some_mapped ItemsShort ItemsShort (d.item v) (λ ds all. (is, all)) (of_items js) (of_items_short js are.1))

    of_members_short : (ms : j.Members) (found : d.Members) → ShortMembers ms → MembersShort found → IfSome (of_members ms found) MembersShort
    of_members_short j.no_members found are all = all
    of_members_short (j.member k x ms) found are all =
        some_then AreShort MembersShort _ (of_json x) (of_json_short x are.0) (λ v is. of_members_short ms (put k v found) are.1 (put_short k v found is all))

  last_short : (x : Json) (ts : List Token) → ShortJson x → IfSome (if_last x ts) ShortJson
  last_short x [] is = is
  last_short x (t ∷ ts) is = tt

  pub read_short : (text : List ℕ) → IsUtf8 text → length text ≤ n → IfSome (read text) AreShort
  read_short text utf8 le =
      some_then ShortJson AreShort of_json _
      (some_then (λ p. ShortJson p.0 × ShortTokens p.1) ShortJson _ (value max_depth (tokens text)) (value_short max_depth (tokens text) (tokens_short text utf8 le)) (λ p is. last_short p.0 p.1 is.0)) of_json_short

  -- ---- looking into a value

  member_by : (o : Ordering) (rest : Option Data) (x : Data) → IfSome rest AreShort → AreShort x → IfSome (match_ordering o rest (Some x) rest) AreShort
  member_by Less rest x p is = p
  member_by Equal rest x p is = is
  member_by Greater rest x p is = p

  get_member_short : (k : List ℕ) (ms : d.Members) → MembersShort ms → IfSome (get_member k ms) AreShort
  get_member_short k d.no_members all = tt
  get_member_short k (d.member l x ms) all = member_by (slice_cmp nat_cmp k l) (get_member k ms) x (get_member_short k ms all.1) all.0

  pub get_short : (k : List ℕ) (v : Data) → AreShort v → IfSome (get k v) AreShort
  get_short k d.null is = tt
  get_short k (d.boolean b) is = tt
  get_short k (d.number x) is = tt
  get_short k (d.string s) is = tt
  get_short k (d.array ds) is = tt
  get_short k (d.object ms) is = get_member_short k ms is

-- the value of a text is short
pub value_is_short : (text : List ℕ) (v : Data) → IsUtf8 text → read text ≡ Some v → words.AreShort (length text) v
value_is_short text v utf8 is = by (read text) is (read_short (length text) text utf8 (omega arith)) where
  by : (o : Option Data) → o ≡ Some v → IfSome o (words.AreShort (length text)) → words.AreShort (length text) v
  by None e p = absurd cc
  by (Some w) e p = (let same : w ≡ v = cc in subst (words.AreShort (length text)) same p)
