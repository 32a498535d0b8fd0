-- Tokens are refused in one way.
use Rattle.std.proofs.Common.{◌≡◌, ℕ, zero, suc, ◌+◌, ◌<◌, ◌≤◌, inl, inr, List, [], ◌∷◌, ◌++◌, length, take, drop, Some, slice_get, refl, sym, ap, subst, ◌∙◌, append_assoc, arith}
use Rattle.std.proofs.lemmas.Bool.{cases_lt, cases_order}
use Rattle.std.proofs.lemmas.List.{take-append-drop, take-take}
use Rattle.std.proofs.lemmas.Option.{slice_get_within}
use Rattle.expr_grammar.specs.declared.code.Name.{Name}
use Rattle.expr_grammar.specs.Lexeme.{Lexeme}
use Rattle.expr_grammar.specs.Refusal.{Begins, IsUnexpected}
use Rattle.dbgconf_text.specs.Conf.{IsRepeated, IsUnexpectedFirst, IsRepeatedFirst, ReadsConf}
use Rattle.dbgconf_text.proofs.Items.{after_name, reads_append}

-- what begins with tokens begins with fewer of them
fewer : (ts : List Lexeme) (i j : ℕ) → i ≤ j → Begins ReadsConf (take j ts) → Begins ReadsConf (take i ts)
fewer ts i j le b =
    let whole : take i ts ++ drop i (take j ts) ≡ take j ts = ap (λ (l : List Lexeme). l ++ drop i (take j ts)) (sym (take-take i j ts le)) ∙ take-append-drop i (take j ts) in
    record {
      more = drop i (take j ts) ++ b.more;
      made = b.made;
      is = subst (λ (l : List Lexeme). ReadsConf l b.made) (sym (sym (append_assoc (take i ts) (drop i (take j ts)) b.more) ∙ ap (λ (l : List Lexeme). l ++ b.more) whole)) b.is;
    }

later : (ts : List Lexeme) (i j : ℕ) → IsUnexpected ReadsConf ts i → i < j → Begins ReadsConf (take j ts) → j ≤ length ts → ⊥
later ts i j u lt b le = u.none (omega (arith, lt, le)) (fewer ts (i + 1) j (omega (arith, lt)) b)

pub one_unexpected : (ts : List Lexeme) (i j : ℕ) → IsUnexpected ReadsConf ts i → IsUnexpected ReadsConf ts j → i ≡ j
one_unexpected ts i j u v =
    elim (cases_order i j) [
      | inl same ↦ same
      | inr other ↦ elim other [ inl lt ↦ absurd (later ts i j u lt v.begins v.within) | inr gt ↦ absurd (later ts j i v gt u.begins u.within) ]
    ]

-- a name that is repeated is not unexpected, nor is anything before it
with_name : (ts : List Lexeme) (j : ℕ) → IsRepeated ts j → Begins ReadsConf (take (j + 1) ts)
with_name ts j r =
    let n : Name = record { text = r.here.text; at = r.here.at } in
    let c = after_name n r.here (record { kind = r.is_name; text_is = refl; at_is = refl }) in
    let all = reads_append r.before (take j ts) c.made (r.here ∷ [] ++ c.more) r.reads c.is in
    record { more = c.more; made = r.before ++ c.made; is = subst (λ (l : List Lexeme). ReadsConf l (r.before ++ c.made)) (sym (ap (λ (l : List Lexeme). l ++ c.more) (upto ts j r.here r.at) ∙ append_assoc (take j ts) (r.here ∷ []) c.more)) all } where
      upto : (ts : List Lexeme) (j : ℕ) (k : Lexeme) → slice_get ts j ≡ Some k → take (j + 1) ts ≡ take j ts ++ k ∷ []
      upto [] j k e = absurd cc
      upto (x ∷ ts) zero k e = let same : x ≡ k = cc in ap (λ (y : Lexeme). y ∷ []) same
      upto (x ∷ ts) (suc j) k e = let m : suc j + 1 ≡ suc (j + 1) = omega arith in ap (λ (m : ℕ). take m (x ∷ ts)) m ∙ ap (λ (l : List Lexeme). x ∷ l) (upto ts j k e)

pub not_both : (ts : List Lexeme) (i j : ℕ) → IsUnexpectedFirst ts i → IsRepeatedFirst ts j → ⊥
not_both ts i j u r =
    elim (cases_lt j i) [
      | inl lt ↦ u.none j lt r.repeated
      | inr ge ↦ later ts i (j + 1) u.unexpected (omega (arith, ge)) (with_name ts j r.repeated) (omega (arith, slice_get_within ts j r.repeated.here r.repeated.at))
    ]

pub one_repeated : (ts : List Lexeme) (i j : ℕ) → IsRepeatedFirst ts i → IsRepeatedFirst ts j → i ≡ j
one_repeated ts i j u v =
    elim (cases_order i j) [
      | inl same ↦ same
      | inr other ↦ elim other [ inl lt ↦ absurd (v.none i lt u.repeated) | inr gt ↦ absurd (u.none j gt v.repeated) ]
    ]
