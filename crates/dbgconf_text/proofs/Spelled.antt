-- What is read from a text is spelled as names, and has values of 64 bits.
use Rattle.std.proofs.Common.{◌≡◌, ℕ, ◌+◌, ◌*◌, ◌^◌, ◌<◌, ◌≤◌, Bool, true, false, cond, eqb, List, [], ◌∷◌, ◌++◌, length, take, drop, Some, None, Result, Ok, Err, IfOk, refl, sym, ap, subst, ◌∙◌, arith}
use Rattle.std.specs.Prelude.{◌&&◌, nat_lt}
use Rattle.std.specs.List.{list_all}
use Rattle.std.specs.Char.{is_digit}
use Rattle.std.specs.Str.Parse.{digits_value}
use Rattle.std.proofs.lemmas.Bool.{and_parts, ltb-true}
use Rattle.std.proofs.lemmas.Option.{same_Some, none-some}
use Rattle.dap_base.specs.Number.{number_value, digits_number, after_zero, marks_hexadecimal}
use Rattle.expr_grammar.specs.declared.token.TokenKind.{TokenKind}
use Rattle.expr_grammar.specs.Lexeme.{Lexeme}
use Rattle.expr_grammar.specs.Spelling.{IsNameText, IsTokenText}
use Rattle.expr_grammar.specs.Lexing.{Divides, AreTokensOf}
use Rattle.dbgconf_text.specs.declared.conf.ConfItem.{ConfItem}
use Rattle.dbgconf_text.specs.declared.conf.ConfFault.{ConfFault}
use Rattle.dbgconf_text.specs.declared.conf.ConfFault.TheVariants.{OutOfMemory}
use Rattle.dbgconf_text.specs.Conf.{AnswersText, AnswersTokens, cut, bad, no_memory, IsConf, ReadsConf}
use Rattle.dbgconf_text.specs.Cuts.{AreSmall}
use Rattle.dbgconf_text.specs.Replacing.{settings_of}
use Rattle.dbgconf_text.specs.Written.{AreSpelled, AreNames}
use Rattle.expr_grammar.proofs.Fronts.{token_some}
use Rattle.expr_grammar.proofs.Moves.{gap_order}
use Rattle.dbgconf_text.proofs.Items.{reads_length}

-- ---- numbers have 64 bits

small_by : (radix v : ℕ) (ds : List ℕ) (b : Bool) → (list_all (λ c. is_digit c radix) ds && nat_lt (digits_value radix ds) (2 ^ 64)) ≡ b → cond b (Some (digits_value radix ds)) None ≡ Some v → v < 2 ^ 64
small_by radix v ds true is e =
    let lt = ltb-true (digits_value radix ds) (2 ^ 64) (and_parts (list_all (λ c. is_digit c radix) ds) (nat_lt (digits_value radix ds) (2 ^ 64)) is).1 in
    subst (λ (x : ℕ). x < 2 ^ 64) (same_Some (digits_value radix ds) v e) lt
small_by radix v ds false is e = absurd (none-some v e)

small_digits : (radix : ℕ) (ds : List ℕ) (v : ℕ) → digits_number radix ds ≡ Some v → v < 2 ^ 64
small_digits radix [] v e = absurd (none-some v e)
small_digits radix (d ∷ ds) v e = small_by radix v (d ∷ ds) (list_all (λ c. is_digit c radix) (d ∷ ds) && nat_lt (digits_value radix (d ∷ ds)) (2 ^ 64)) refl e

zero_small : 0 < 2 ^ 64
zero_small = omega arith

small_after : (cs : List ℕ) (v : ℕ) → after_zero cs ≡ Some v → v < 2 ^ 64
small_after [] v e = subst (λ (x : ℕ). x < 2 ^ 64) (same_Some 0 v e) zero_small
small_after (c ∷ cs) v e = by (marks_hexadecimal c) e where
  by : (b : Bool) → cond b (digits_number 16 cs) None ≡ Some v → v < 2 ^ 64
  by true e = small_digits 16 cs v e
  by false e = absurd (none-some v e)

pub small_number : (t : List ℕ) (v : ℕ) → number_value t ≡ Some v → v < 2 ^ 64
small_number [] v e = absurd (none-some v e)
small_number (c ∷ cs) v e = by (eqb c 48) e where
  by : (b : Bool) → cond b (after_zero cs) (digits_number 10 (c ∷ cs)) ≡ Some v → v < 2 ^ 64
  by true e = small_after cs v e
  by false e = small_digits 10 (c ∷ cs) v e

-- ---- tokens of a text

abbrev AreTexts : List Lexeme → Type 0
AreTexts [] = Unit {0}
AreTexts (k ∷ ts) = IsTokenText k.kind k.text × AreTexts ts

texts : (text : List ℕ) (a : ℕ) (ts : List Lexeme) (b : ℕ) → Divides text a ts b → AreTexts ts
texts text a [] b d = tt
texts text a (k ∷ ts) b d = (subst (λ (l : List ℕ). IsTokenText k.kind l) (sym d.1.is_slice) d.1.front.is, texts text (k.start + length k.text) ts b d.2)

texts_of : (ts us : List Lexeme) → ts ≡ us → AreTexts ts → AreTexts us
texts_of ts us e h = subst AreTexts e h

spelled : (conf : List ConfItem) (ts : List Lexeme) → ReadsConf ts conf → AreTexts ts → AreSpelled conf
spelled [] ts r h = tt
spelled (item ∷ more) ts r h =
    let p = r.first in
    let parts : ts ≡ p.name ∷ p.equals ∷ p.number ∷ p.semi ∷ r.right = r.parts ∙ ap (λ (l : List Lexeme). l ++ r.right) p.parts in
    let all = texts_of ts (p.name ∷ p.equals ∷ p.number ∷ p.semi ∷ r.right) parts h in
    let name : IsNameText p.name.text = subst (λ (k : TokenKind). IsTokenText k p.name.text) p.is_name.kind all.0 in
    (subst IsNameText p.is_name.text_is name, small_number p.number.text item.value p.is_number.value, spelled more r.right r.second all.1.1.1.1)

pub small_values : (conf : List ConfItem) (ts : List Lexeme) → ReadsConf ts conf → AreSmall (settings_of conf)
small_values [] ts r = tt
small_values (item ∷ more) ts r = (small_number r.first.number.text item.value r.first.is_number.value, small_values more r.right r.second)

-- there are no more tokens than bytes
tokens_length : (text : List ℕ) (a : ℕ) (ts : List Lexeme) (b : ℕ) → Divides text a ts b → length ts + a ≤ b
tokens_length text a [] b d = omega (arith, gap_order d)
tokens_length text a (k ∷ ts) b d =
    let some : 0 < length k.text = omega (arith, token_some k.kind (take (length k.text) (drop k.start text)) d.1.front.is, ap length d.1.is_slice) in
    omega (arith, some, gap_order d.0, tokens_length text (k.start + length k.text) ts b d.2)

pub fits_length : (text : List ℕ) (ts : List Lexeme) (conf : List ConfItem) → AreTokensOf text ts → ReadsConf ts conf → 4 * length conf ≤ length text
fits_length text ts conf are r = omega (arith, reads_length conf ts r, tokens_length text 0 ts (length text) are)

pub read_names : (text : List ℕ) (ts : List Lexeme) (conf : List ConfItem) → AreTokensOf text ts → IsConf ts conf → AreNames conf
read_names text ts conf are is = record { spelled = spelled conf ts is.reads (texts text 0 ts (length text) are); distinct = is.distinct }

abbrev okay : List ConfItem → Result (List ConfItem) ConfFault
okay conf = Ok conf

ok_err : (conf : List ConfItem) (x : ConfFault) → okay conf ≡ Err x → ⊥
ok_err conf x e = cc

names_by : (text : List ℕ) (conf : List ConfItem) (r : Result (List ConfItem) ConfFault) → r ≡ Ok conf → AnswersText text r → AreNames conf
names_by text conf r e (cut ts are is) =
    let is_conf : IsConf ts conf = subst (λ (x : Result (List ConfItem) ConfFault). AnswersTokens ts x) e is in
    read_names text ts conf are is_conf
names_by text conf r e (bad at first wrong) = absurd (ok_err conf _ (sym e ∙ wrong))
names_by text conf r e (no_memory wrong) = absurd (ok_err conf OutOfMemory (sym e ∙ wrong))

pub are_names : (text : List ℕ) (r : Result (List ConfItem) ConfFault) → AnswersText text r → IfOk r AreNames
are_names text (Ok conf) h = names_by text conf (Ok conf) refl h
are_names text (Err x) h = tt
