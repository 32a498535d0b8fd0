-- A text and values have one replacement.
use Rattle.std.proofs.Common.{◌≡◌, ◌⊎◌, inl, inr, ℕ, List, Option, Some, None, Result, Ok, Err, refl, sym, ap, ◌∙◌}
use Rattle.std.proofs.lemmas.Option.{same_Some}
use Rattle.dap_base.specs.declared.text.Place.{Place}
use Rattle.expr_grammar.specs.Lexeme.{Lexeme}
use Rattle.expr_grammar.specs.Lexing.{AreTokensOf}
use Rattle.expr_grammar.proofs.OneDivision.{gives_tokens}
use Rattle.dbgconf_text.specs.declared.conf.ConfItem.{ConfItem}
use Rattle.dbgconf_text.specs.declared.replacing.ReplaceFault.{ReplaceFault}
use Rattle.dbgconf_text.specs.declared.replacing.ReplaceFault.TheVariants.{UndefinedName, OutOfMemory}
use Rattle.dbgconf_text.specs.Cuts.{cuts, spliced_text}
use Rattle.dbgconf_text.specs.Replacing.{AreCode, Replaces, code, no_code, no_memory, settings_of, undefined_name}

none_some : (x : Place) → None ≡ Some x → ⊥
none_some x e = cc

abbrev with_text : List ℕ → Result (List ℕ) ReplaceFault
with_text new = Ok new

abbrev with_fault : ReplaceFault → Result (List ℕ) ReplaceFault
with_fault fault = Err fault

text_is : (x y : List ℕ) → with_text x ≡ with_text y → x ≡ y
text_is x y e = cc

text_no_fault : (x : List ℕ) (y : ReplaceFault) → with_text x ≡ with_fault y → ⊥
text_no_fault x y e = cc

fault_no_text : (x : List ℕ) (y : ReplaceFault) → with_fault y ≡ with_text x → ⊥
fault_no_text x y e = cc

place_no_memory : (x : Place) → with_fault (UndefinedName x) ≡ with_fault OutOfMemory → ⊥
place_no_memory x e = cc

pub one_text : (text : List ℕ) (conf : List ConfItem) (x y : List ℕ) → Replaces text conf (Ok x) → Replaces text conf (Ok y) → x ≡ y
one_text text conf x y (code ts are is a) (code us them too b) =
    let same : ts ≡ us = gives_tokens text (Ok ts) are us them in
    a.1 ∙ ap (λ (l : List Lexeme). spliced_text text 0 (cuts (settings_of conf) l)) same ∙ sym b.1
one_text text conf x y (code ts are is a) (no_code none e) = absurd (none ts are is)
one_text text conf x y (code ts are is a) (no_memory e) = absurd (text_no_fault y OutOfMemory e)
one_text text conf x y (no_code none e) (code us them too b) = absurd (none us them too)
one_text text conf x y (no_code none e) (no_code other f) = text_is x text e ∙ sym (text_is y text f)
one_text text conf x y (no_code none e) (no_memory f) = absurd (text_no_fault y OutOfMemory f)
one_text text conf x y (no_memory e) b = absurd (text_no_fault x OutOfMemory e)

pub one_place : (text : List ℕ) (conf : List ConfItem) (x y : Place) → Replaces text conf (Err (UndefinedName x)) → Replaces text conf (Err (UndefinedName y)) → x ≡ y
one_place text conf x y (code ts are is a) (code us them too b) =
    let same : ts ≡ us = gives_tokens text (Ok ts) are us them in
    same_Some x y (sym a ∙ ap (λ (l : List Lexeme). undefined_name l conf) same ∙ b)
one_place text conf x y (code ts are is a) (no_code none e) = absurd (none ts are is)
one_place text conf x y (code ts are is a) (no_memory e) = absurd (place_no_memory y e)
one_place text conf x y (no_code none e) b = absurd (fault_no_text text (UndefinedName x) e)
one_place text conf x y (no_memory e) b = absurd (place_no_memory x e)

pub text_or_place : (text : List ℕ) (conf : List ConfItem) (x : List ℕ) (y : Place) → Replaces text conf (Ok x) → Replaces text conf (Err (UndefinedName y)) → ⊥
text_or_place text conf x y (code ts are is a) (code us them too b) =
    let same : ts ≡ us = gives_tokens text (Ok ts) are us them in
    none_some y (sym a.0 ∙ ap (λ (l : List Lexeme). undefined_name l conf) same ∙ b)
text_or_place text conf x y a (no_code none e) = fault_no_text text (UndefinedName y) e
text_or_place text conf x y a (no_memory e) = place_no_memory y e
text_or_place text conf x y (no_code none e) (code us them too b) = none us them too
text_or_place text conf x y (no_memory e) (code us them too b) = text_no_fault x OutOfMemory e

pub some_replacement : (text : List ℕ) (ts : List Lexeme) (conf : List ConfItem) → AreTokensOf text ts → AreCode ts → ((new : List ℕ) × Replaces text conf (Ok new)) ⊎ ((at : Place) × Replaces text conf (Err (UndefinedName at)))
some_replacement text ts conf are is = by (undefined_name ts conf) refl where
  by : (o : Option Place) → undefined_name ts conf ≡ o → ((new : List ℕ) × Replaces text conf (Ok new)) ⊎ ((at : Place) × Replaces text conf (Err (UndefinedName at)))
  by None e = inl (spliced_text text 0 (cuts (settings_of conf) ts), code ts are is (e, refl))
  by (Some at) e = inr (at, code ts are is e)
