-- Sets that are the same are equal.
use Rattle.std.proofs.Common.{◌≡◌, ◌∙◌, ℕ, suc, ◌+◌, ◌<◌, ◌==◌, Bool, true, false, ◌&&◌, if◌then◌else◌, List, [], ◌∷◌, Option, Some, None, bytes_eq, length, drop, drop-cons, add-one, get_or, refl, ap, sym, true≢false, eqb-true, arith}
use Rattle.std.proofs.lemmas.Slice.Eq.{bytes_eq-Decides}
use Rattle.std.proofs.lemmas.Bool.{and_parts}
use Rattle.device_tree.specs.Same.{same_text}
use Rattle.device_tree.specs.StepTree.{StepTree, no_steps, block, control}
use Rattle.device_tree.specs.StepsView.{steps_view}
use Rattle.device_tree.specs.declared.steps.Step.{Step}
use Rattle.device_tree.specs.declared.steps.Step.TheVariants.{Block, Control}
use Rattle.sequence_resolve.specs.declared.entry.LevelKind.{LevelKind}
use Rattle.sequence_resolve.specs.declared.entry.LevelKind.TheVariants as kinds
use Rattle.sequence_resolve.specs.declared.entry.SeqEntry.{SeqEntry}
use Rattle.sequence_resolve.specs.declared.entry.SeqSet.{SeqSet}
use Rattle.set_lines.proofs.SameLemmas.{text_equal}
use Rattle.pack_faults.specs.Equal.{same_flag, same_number, same_steps, same_step, all_same, level_number, same_entry, same_set}

-- ---- item by item

and_false : (a : Bool) → a && false ≡ false
and_false true = refl
and_false false = refl

pub apart_sizes : {A : Type 0} (same : A → A → Bool) (xs ys : List A) → (length xs ≡ length ys → ⊥) → all_same same xs ys ≡ false
apart_sizes same [] [] apart = absurd (apart refl)
apart_sizes same [] (y ∷ ys) apart = refl
apart_sizes same (x ∷ xs) [] apart = refl
apart_sizes same (x ∷ xs) (y ∷ ys) apart =
    let rest : all_same same xs ys ≡ false = apart_sizes same xs ys (λ e. apart (omega (arith, e))) in
    rw rest (and_false (same x y))

-- the items from this place on
pub next_same : {A : Type 0} (same : A → A → Bool) (xs ys : List A) (i : ℕ) (x y : A) → i < length xs → i < length ys → x ≡ get_or xs i x → y ≡ get_or ys i y
    → all_same same (drop i xs) (drop i ys) ≡ same x y && all_same same (drop (i + 1) xs) (drop (i + 1) ys)
next_same same xs ys i x y below beyond is other =
    let left : drop i xs ≡ x ∷ drop (i + 1) xs = rw (add-one, drop-cons xs i x) (ap (λ z. z ∷ drop (suc i) xs) (sym is)) in
    let right : drop i ys ≡ y ∷ drop (i + 1) ys = rw (add-one, drop-cons ys i y) (ap (λ z. z ∷ drop (suc i) ys) (sym other)) in
    ap (λ zs. all_same same zs (drop i ys)) left ∙ ap (all_same same (x ∷ drop (i + 1) xs)) right

pub all_equal : {A : Type 0} (same : A → A → Bool) → ((x y : A) → same x y ≡ true → x ≡ y) → (xs ys : List A) → all_same same xs ys ≡ true → xs ≡ ys
all_equal same h [] [] e = refl
all_equal same h [] (y ∷ ys) e = absurd (true≢false (sym e))
all_equal same h (x ∷ xs) [] e = absurd (true≢false (sym e))
all_equal same h (x ∷ xs) (y ∷ ys) e =
    let p = and_parts (same x y) (all_same same xs ys) e in
    ap (λ z. z ∷ xs) (h x y p.0) ∙ ap (λ zs. y ∷ zs) (all_equal same h xs ys p.1)

-- ---- steps

pub same_items : (xs ys : List Step) → all_same same_step xs ys ≡ same_steps (steps_view xs) (steps_view ys)
same_items [] [] = refl
same_items [] (Block d b ∷ ys) = refl
same_items [] (Control d q u o ∷ ys) = refl
same_items (Block c a ∷ xs) [] = refl
same_items (Control c r t s ∷ xs) [] = refl
same_items (Block c a ∷ xs) (Block d b ∷ ys) = ap (λ z. (bytes_eq c d && same_flag a b) && z) (same_items xs ys)
same_items (Block c a ∷ xs) (Control d q u o ∷ ys) = refl
same_items (Control c r t s ∷ xs) (Block d b ∷ ys) = refl
same_items (Control c r t s ∷ xs) (Control d q u o ∷ ys) =
    ap (λ z. (same_text c d && (same_text r q && (same_number t u && same_steps s o))) && z) (same_items xs ys)

flag_equal : (x y : Bool) → same_flag x y ≡ true → x ≡ y
flag_equal true y e = sym e
flag_equal false true e = absurd (true≢false (sym e))
flag_equal false false e = refl

number_equal : (x y : Option ℕ) → same_number x y ≡ true → x ≡ y
number_equal None None e = refl
number_equal None (Some y) e = absurd (true≢false (sym e))
number_equal (Some x) None e = absurd (true≢false (sym e))
number_equal (Some x) (Some y) e = ap (λ n. Some n) (eqb-true x y e)

steps_equal : (x y : StepTree) → same_steps x y ≡ true → x ≡ y
steps_equal no_steps no_steps e = refl
steps_equal no_steps (block d b more) e = absurd (true≢false (sym e))
steps_equal no_steps (control d q u o more) e = absurd (true≢false (sym e))
steps_equal (block c a rest) no_steps e = absurd (true≢false (sym e))
steps_equal (block c a rest) (block d b more) e =
    let p = and_parts (bytes_eq c d && same_flag a b) (same_steps rest more) e in
    let q = and_parts (bytes_eq c d) (same_flag a b) p.0 in
    ap (λ z. block z a rest) ((bytes_eq-Decides c d).0 q.0) ∙ ap (λ z. block d z rest) (flag_equal a b q.1) ∙ ap (block d b) (steps_equal rest more p.1)
steps_equal (block c a rest) (control d q u o more) e = absurd (true≢false (sym e))
steps_equal (control c r t s rest) no_steps e = absurd (true≢false (sym e))
steps_equal (control c r t s rest) (block d b more) e = absurd (true≢false (sym e))
steps_equal (control c r t s rest) (control d q u o more) e =
    let p = and_parts (same_text c d && (same_text r q && (same_number t u && same_steps s o))) (same_steps rest more) e in
    let conds = and_parts (same_text c d) _ p.0 in
    let repeats = and_parts (same_text r q) _ conds.1 in
    let inner = and_parts (same_number t u) (same_steps s o) repeats.1 in
    ap (λ z. control z r t s rest) (text_equal c d conds.0) ∙ ap (λ z. control d z t s rest) (text_equal r q repeats.0)
    ∙ ap (λ z. control d q z s rest) (number_equal t u inner.0) ∙ ap (λ z. control d q u z rest) (steps_equal s o inner.1) ∙ ap (control d q u o) (steps_equal rest more p.1)

-- ---- sequences

abbrev level_at : ℕ → LevelKind
level_at n = if n == 0 then kinds.Defaults else if n == 1 then kinds.Family else if n == 2 then kinds.SubFamily else if n == 3 then kinds.Device else kinds.Variant

level_again : (kind : LevelKind) → level_at (level_number kind) ≡ kind
level_again kinds.Defaults = refl
level_again kinds.Family = refl
level_again kinds.SubFamily = refl
level_again kinds.Device = refl
level_again kinds.Variant = refl

level_equal : (x y : LevelKind) → level_number x == level_number y ≡ true → x ≡ y
level_equal x y e = sym (level_again x) ∙ ap level_at (eqb-true (level_number x) (level_number y) e) ∙ level_again y

entry_equal_at : (x y : SeqEntry) → x.name ≡ y.name → x.from ≡ y.from → x.disabled ≡ y.disabled → x.steps ≡ y.steps → x ≡ y
entry_equal_at x y p q r s =
    let one : x ≡ record x { name = y.name } = ap (λ v. record x { name = v }) p in
    let two : record x { name = y.name } ≡ record x { name = y.name; from = y.from } = ap (λ v. record x { name = y.name; from = v }) q in
    let three : record x { name = y.name; from = y.from } ≡ record y { steps = x.steps } = ap (λ v. record y { steps = x.steps; disabled = v }) r in
    let four : record y { steps = x.steps } ≡ y = ap (λ v. record y { steps = v }) s in
    one ∙ two ∙ three ∙ four

entry_equal : (x y : SeqEntry) → same_entry x y ≡ true → x ≡ y
entry_equal x y e =
    let names = and_parts (bytes_eq x.name y.name) _ e in
    let levels = and_parts (level_number x.from == level_number y.from) _ names.1 in
    let rest = and_parts (same_flag x.disabled y.disabled) (same_steps x.steps y.steps) levels.1 in
    entry_equal_at x y ((bytes_eq-Decides x.name y.name).0 names.0) (level_equal x.from y.from levels.0) (flag_equal x.disabled y.disabled rest.0) (steps_equal x.steps y.steps rest.1)

pub set_equal : (x y : SeqSet) → same_set x y ≡ true → x ≡ y
set_equal x y e =
    let p = and_parts (bytes_eq x.debugvars y.debugvars) (all_same same_entry x.entries y.entries) e in
    let vars : x.debugvars ≡ y.debugvars = (bytes_eq-Decides x.debugvars y.debugvars).0 p.0 in
    let list : x.entries ≡ y.entries = all_equal same_entry entry_equal x.entries y.entries p.1 in
    let first : x ≡ record y { debugvars = x.debugvars } = ap (λ v. record x { entries = v }) list in
    let second : record y { debugvars = x.debugvars } ≡ y = ap (λ v. record y { debugvars = v }) vars in
    first ∙ second
