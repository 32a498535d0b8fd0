-- A text has one answer.
use Rattle.std.proofs.Common.{◌≡◌, ℕ, ◌+◌, inl, inr, true, false, List, [], ◌∷◌, ◌++◌, length, take, drop, Result, Ok, Err, refl, sym, ap, subst, ◌∙◌, arith}
use Rattle.std.specs.List.{IsDistinct, AllByRecursion}
use Rattle.std.specs.Str.{bytes_eq}
use Rattle.std.proofs.lemmas.Bool.{both_ways, cases_lt, or_cases}
use Rattle.std.proofs.lemmas.List.{take-append-drop}
use Rattle.std.proofs.lemmas.Map.Keys.{IsDistinct-head, IsDistinct-tail}
use Rattle.expr_grammar.specs.declared.token_list.TokenError.{TokenError}
use Rattle.expr_grammar.specs.declared.token_list.TokenError.TheVariants as tokens
use Rattle.expr_grammar.specs.Lexeme.{Lexeme}
use Rattle.dap_base.specs.declared.text.Place.{Place}
use Rattle.expr_grammar.specs.Refusal.{place_of}
use Rattle.expr_grammar.specs.Lexing.{AreTokensOf, IsFirstBad, Lexes, place_at}
use Rattle.expr_grammar.proofs.OneDivision.{gives_bad, gives_tokens}
use Rattle.dbgconf_text.specs.declared.conf.ConfItem.{ConfItem}
use Rattle.dbgconf_text.specs.declared.conf.ConfFault.{ConfFault}
use Rattle.dbgconf_text.specs.declared.conf.ConfFault.TheVariants.{BadToken, Unexpected, Repeated, OutOfMemory}
use Rattle.dbgconf_text.specs.Conf.{AnswersText, cut, bad, no_memory, AnswersTokens, GivesItems, IsConf, IsRepeated, IsRepeatedFirst, IsUnexpectedFirst, ReadsConf, Refuses, has_item, names}
use Rattle.dbgconf_text.specs.Turns.{token_fault}
use Rattle.dbgconf_text.proofs.Items.{cancel, one_conf, reads_append, first}
use Rattle.dbgconf_text.proofs.Turns.{left_at}
use Rattle.dbgconf_text.proofs.OneRefusal.{not_both, one_repeated, one_unexpected}

pub no_tokens : (text : List ℕ) (e : TokenError) → Lexes text (Err e) → AnswersText text (Err (token_fault e))
no_tokens text (tokens.BadToken at) l = bad l.0 l.1 (ap (λ p. Err (BadToken p)) l.2)
no_tokens text tokens.OutOfMemory l = no_memory refl

-- tokens of names and values are not refused
pub not_unexpected : (ts : List Lexeme) (i : ℕ) (conf : List ConfItem) → IsUnexpectedFirst ts i → ReadsConf ts conf → ⊥
not_unexpected ts i conf u r =
    elim (cases_lt i (length ts)) [
      | inl lt ↦ u.unexpected.none lt (record { more = drop (i + 1) ts; made = conf; is = subst (λ (l : List Lexeme). ReadsConf l conf) (sym (take-append-drop (i + 1) ts)) r })
      | inr ge ↦ let whole : i ≡ length ts = omega (arith, ge, u.unexpected.within) in u.unexpected.not_whole whole conf r
    ]

all_false : (x : List ℕ) (before : List ConfItem) (y : ConfItem) (rest : List ConfItem) → AllByRecursion (λ z. bytes_eq x z ≡ false) (names (before ++ y ∷ rest)) → bytes_eq x y.name.text ≡ false
all_false x [] y rest h = h.0
all_false x (b ∷ before) y rest h = all_false x before y rest h.1

not_again : (before : List ConfItem) (y : ConfItem) (rest : List ConfItem) → IsDistinct bytes_eq (names (before ++ y ∷ rest)) → has_item before y.name.text ≡ true → ⊥
not_again [] y rest d e = absurd cc
not_again (b ∷ before) y rest d e =
    elim (or_cases (bytes_eq b.name.text y.name.text) (has_item before y.name.text) e) [
      | inl same ↦ both_ways (bytes_eq b.name.text y.name.text) (all_false b.name.text before y rest (IsDistinct-head bytes_eq b.name.text (names (before ++ y ∷ rest)) d)) same
      | inr later ↦ not_again before y rest (IsDistinct-tail bytes_eq b.name.text (names (before ++ y ∷ rest)) d) later
    ]

cons_is : (a b : Lexeme) (x y : List Lexeme) → a ∷ x ≡ b ∷ y → a ≡ b
cons_is a b x y e = cc

pub not_repeated : (ts : List Lexeme) (i : ℕ) (conf : List ConfItem) → IsRepeated ts i → IsConf ts conf → ⊥
not_repeated ts i conf r is =
    let left = left_at ts i r.here r.at in
    let x = cancel r.before (take i ts) (drop i ts) conf r.reads (subst (λ (l : List Lexeme). ReadsConf l conf) (sym (take-append-drop i ts)) is.reads) in
    let f = first x.0 r.here (drop (i + 1) ts) (subst (λ (l : List Lexeme). ReadsConf l x.0) left x.1) in
    let whole : ReadsConf ts (r.before ++ x.0) = subst (λ (l : List Lexeme). ReadsConf l (r.before ++ x.0)) (take-append-drop i ts) (reads_append r.before (take i ts) x.0 (drop i ts) r.reads x.1) in
    let same : conf ≡ r.before ++ f.item ∷ f.more = one_conf conf (r.before ++ x.0) ts is.reads whole ∙ ap (λ (l : List ConfItem). r.before ++ l) f.made_is in
    let here : r.here ≡ f.n = cons_is r.here f.n (drop (i + 1) ts) (f.e ∷ f.m ∷ f.s ∷ f.rest) f.parts in
    let text : r.here.text ≡ f.item.name.text = ap (λ (k : Lexeme). k.text) here ∙ f.is_name.text_is in
    not_again r.before f.item f.more (subst (λ (c : List ConfItem). IsDistinct bytes_eq (names c)) same is.distinct) (ap (has_item r.before) (sym text) ∙ r.again)

gives_by : (ts : List Lexeme) (conf : List ConfItem) (r : Result (List ConfItem) ConfFault) → AnswersTokens ts r → IsConf ts conf → GivesItems conf r
gives_by ts conf (Ok given) h is = one_conf given conf ts h.reads is.reads
gives_by ts conf (Err (BadToken at)) h is = absurd h
gives_by ts conf (Err (Unexpected at)) h is = not_unexpected ts h.0 conf h.1 is.reads
gives_by ts conf (Err (Repeated at)) h is = not_repeated ts h.0 conf h.1.repeated is
gives_by ts conf (Err OutOfMemory) h is = tt

pub gives : (text : List ℕ) (ts : List Lexeme) (conf : List ConfItem) (r : Result (List ConfItem) ConfFault) → AnswersText text r → AreTokensOf text ts → IsConf ts conf → GivesItems conf r
gives text ts conf r (cut us others h) are is =
    let same : us ≡ ts = gives_tokens text (Ok us) others ts are in
    gives_by ts conf r (subst (λ (l : List Lexeme). AnswersTokens l r) same h) is
gives text ts conf r (bad at first_bad e) are is = absurd (gives_tokens text (Err (tokens.BadToken _)) (at, first_bad, refl) ts are)
gives text ts conf r (no_memory e) are is = subst (GivesItems conf) (sym e) tt

-- ---- a refusal is answered where it is due

refuses_bad : (text : List ℕ) (n at : ℕ) (r : Result (List ConfItem) ConfFault) → IsFirstBad text n → IsFirstBad text at → r ≡ Err (BadToken (place_at text n)) → Refuses (BadToken (place_at text at)) r
refuses_bad text n at r known first e =
    let same : place_at text n ≡ place_at text at = gives_bad text (Err (tokens.BadToken (place_at text n))) (n, known, refl) at first in
    subst (Refuses (BadToken (place_at text at))) (sym e) (ap (λ (p : Place). BadToken p) same)

pub only_bad : (text : List ℕ) (r : Result (List ConfItem) ConfFault) → AnswersText text r → (at : ℕ) → IsFirstBad text at → Refuses (BadToken (place_at text at)) r
only_bad text r (cut ts are h) at first = absurd (gives_bad text (Ok ts) are at first)
only_bad text r (bad n known e) at first = refuses_bad text n at r known first e
only_bad text r (no_memory e) at first = subst (Refuses (BadToken (place_at text at))) (sym e) tt

unexpected_by : (ts : List Lexeme) (i : ℕ) (r : Result (List ConfItem) ConfFault) → AnswersTokens ts r → IsUnexpectedFirst ts i → Refuses (Unexpected (place_of ts i)) r
unexpected_by ts i (Ok conf) h u = absurd (not_unexpected ts i conf u h.reads)
unexpected_by ts i (Err (BadToken at)) h u = absurd h
unexpected_by ts i (Err (Unexpected at)) h u =
    let same : h.0 ≡ i = one_unexpected ts h.0 i h.1.unexpected u.unexpected in
    ap (λ (p : Place). Unexpected p) (h.2 ∙ ap (place_of ts) same)
unexpected_by ts i (Err (Repeated at)) h u = absurd (not_both ts i h.0 u h.1)
unexpected_by ts i (Err OutOfMemory) h u = tt

repeated_by : (ts : List Lexeme) (i : ℕ) (r : Result (List ConfItem) ConfFault) → AnswersTokens ts r → IsRepeatedFirst ts i → Refuses (Repeated (place_of ts i)) r
repeated_by ts i (Ok conf) h u = absurd (not_repeated ts i conf u.repeated h)
repeated_by ts i (Err (BadToken at)) h u = absurd h
repeated_by ts i (Err (Unexpected at)) h u = absurd (not_both ts h.0 i h.1 u)
repeated_by ts i (Err (Repeated at)) h u =
    let same : h.0 ≡ i = one_repeated ts h.0 i h.1 u in
    ap (λ (p : Place). Repeated p) (h.2 ∙ ap (place_of ts) same)
repeated_by ts i (Err OutOfMemory) h u = tt

-- what is answered to these tokens is answered to their text
module _ (text : List ℕ) (ts : List Lexeme) (are : AreTokensOf text ts) (fault : ConfFault) (by : (r : Result (List ConfItem) ConfFault) → AnswersTokens ts r → Refuses fault r) where
  refuses : (r : Result (List ConfItem) ConfFault) → AnswersText text r → Refuses fault r
  refuses r (cut us others h) =
      let same : us ≡ ts = gives_tokens text (Ok us) others ts are in
      by r (subst (λ (l : List Lexeme). AnswersTokens l r) same h)
  refuses r (bad at first e) = absurd (gives_tokens text (Err (tokens.BadToken (place_at text at))) (at, first, refl) ts are)
  refuses r (no_memory e) = subst (Refuses fault) (sym e) tt

pub only_unexpected : (text : List ℕ) (ts : List Lexeme) (i : ℕ) (r : Result (List ConfItem) ConfFault) → AnswersText text r → AreTokensOf text ts → IsUnexpectedFirst ts i → Refuses (Unexpected (place_of ts i)) r
only_unexpected text ts i r h are u = refuses text ts are (Unexpected (place_of ts i)) (λ r h. unexpected_by ts i r h u) r h

pub only_repeated : (text : List ℕ) (ts : List Lexeme) (i : ℕ) (r : Result (List ConfItem) ConfFault) → AnswersText text r → AreTokensOf text ts → IsRepeatedFirst ts i → Refuses (Repeated (place_of ts i)) r
only_repeated text ts i r h are u = refuses text ts are (Repeated (place_of ts i)) (λ r h. repeated_by ts i r h u) r h
