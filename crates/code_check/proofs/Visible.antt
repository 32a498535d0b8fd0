-- The names visible after statements.
use Rattle.std.proofs.Common.{◌≡◌, ◌∙◌, sym, ap, subst, ℕ, Bool, true, false, ◌||◌, cond, List, [], ◌∷◌, ◌++◌, bytes_eq, refl, true≢false}
use Rattle.std.proofs.lemmas.Slice.Eq.{bytes_eq-Decides}
use Rattle.std.proofs.lemmas.List.Folds.{list_any-append}
use Rattle.std.proofs.Math.Bool.{or-false}
use Rattle.expr_grammar.specs.Tree.{StmtTree, Empty, Declare, Plain}
use Rattle.expr_grammar.specs.Names.{has_name, with_name}
use Rattle.code_check.specs.BlockFaults.{names_after_all, declares}

pub or_assoc : (a b c : Bool) → ((a || b) || c) ≡ (a || (b || c))
or_assoc true b c = refl
or_assoc false b c = refl

pub absorbed : (a b : Bool) → (b ≡ true → a ≡ true) → a ≡ (a || b)
absorbed true b h = refl
absorbed false true h = absurd (true≢false (sym (h refl)))
absorbed false false h = refl

with_at : (names : List (List ℕ)) (name x : List ℕ) (b : Bool) → has_name names name ≡ b → has_name (cond b names (names ++ name ∷ [])) x ≡ (has_name names x || bytes_eq x name)
with_at names name x true e = absorbed (has_name names x) (bytes_eq x name) (λ same. subst (λ n. has_name names n ≡ true) (sym ((bytes_eq-Decides x name).0 same)) e)
with_at names name x false e = list_any-append (bytes_eq x) names (name ∷ []) ∙ ap (λ b. has_name names x || b) (or-false (bytes_eq x name))

pub has_name-with : (names : List (List ℕ)) (name x : List ℕ) → has_name (with_name names name) x ≡ (has_name names x || bytes_eq x name)
has_name-with names name x = with_at names name x (has_name names name) refl

pub has_name_after : (names : List (List ℕ)) (code : List StmtTree) (name : List ℕ) → has_name (names_after_all names code) name ≡ (has_name names name || declares code name)
has_name_after names [] name = sym (or-false (has_name names name))
has_name_after names (Empty at ∷ code) name = has_name_after names code name
has_name_after names (Declare declared value ∷ code) name =
    has_name_after (with_name names declared.text) code name ∙ ap (λ b. b || declares code name) (has_name-with names declared.text name) ∙ or_assoc (has_name names name) (bytes_eq name declared.text) (declares code name)
has_name_after names (Plain at e ∷ code) name = has_name_after names code name
