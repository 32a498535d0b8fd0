-- The first faulty text of lists of texts.
use Rattle.std.proofs.Common.{◌≡◌, ◌∙◌, sym, subst, ap, refl, ℕ, List, [], ◌∷◌, ◌++◌, map, append_assoc}
use Rattle.std.specs.List.{AllByRecursion}
use Rattle.std.proofs.lemmas.List.{map-append}
use Rattle.dap_base.specs.declared.text.Place.{Place}
use Rattle.expr_grammar.specs.declared.limit.Span.TheVariants as spans
use Rattle.expr_grammar.specs.Grammar.{ReadsCode, ReadsExpr}
use Rattle.sequence_trees.specs.declared.spot.Part.{Part}
use Rattle.sequence_trees.specs.declared.spot.Part.TheVariants as kinds
use Rattle.sequence_trees.specs.Order.{TextAt, moved_text, IsFine, IsFaulty, IsFirstFaulty}
use Rattle.sequence_trees.proofs.TextLaws as laws
use Rattle.sequence_trees.proofs.TextLaws.{exact_code, exact_condition}

abbrev pub AreFine : {W : Type 0} → List (TextAt W) → Type 0
AreFine texts = AllByRecursion (λ t. IsFine t.part t.text) texts

abbrev pub text_at : {W : Type 0} → W → Part → List ℕ → TextAt W
text_at step part text = record { step = step; part = part; text = text }

-- ---- one text

pub not_both : (part : Part) (text : List ℕ) (at : Place) → IsFine part text → IsFaulty part text at → ⊥
not_both kinds.Debugvars text at a f = laws.not_both ReadsCode spans.Statement exact_code text a.0 at a.1 f
not_both kinds.Block text at a f = laws.not_both ReadsCode spans.Statement exact_code text a.0 at a.1 f
not_both kinds.If text at a f = laws.not_both ReadsExpr spans.Text exact_condition text a.0 at a.1 f
not_both kinds.While text at a f = laws.not_both ReadsExpr spans.Text exact_condition text a.0 at a.1 f
not_both kinds.Control text at a f = absurd a

pub one_place : (part : Part) (text : List ℕ) (at there : Place) → IsFaulty part text at → IsFaulty part text there → at ≡ there
one_place kinds.Debugvars text at there f g = laws.one_fault ReadsCode spans.Statement exact_code text at there f g
one_place kinds.Block text at there f g = laws.one_fault ReadsCode spans.Statement exact_code text at there f g
one_place kinds.If text at there f g = laws.one_fault ReadsExpr spans.Text exact_condition text at there f g
one_place kinds.While text at there f g = laws.one_fault ReadsExpr spans.Text exact_condition text at there f g
one_place kinds.Control text at there f g = absurd f

-- ---- several texts

pub fine_both : {W : Type 0} (xs ys : List (TextAt W)) → AreFine xs → AreFine ys → AreFine (xs ++ ys)
fine_both [] ys a b = b
fine_both (x ∷ xs) ys a b = (a.0, fine_both xs ys a.1 b)

pub fine_moved : {V W : Type 0} (f : V → W) (xs : List (TextAt V)) → AreFine xs → AreFine (map (moved_text f) xs)
fine_moved f [] a = a
fine_moved f (x ∷ xs) a = (a.0, fine_moved f xs a.1)

pub fine_within : {W : Type 0} (xs : List (TextAt W)) (y : TextAt W) (ys : List (TextAt W)) → AreFine (xs ++ y ∷ ys) → IsFine y.part y.text
fine_within [] y ys a = a.0
fine_within (x ∷ xs) y ys a = fine_within xs y ys a.1

pub fine_not_faulty : {W : Type 0} (xs : List (TextAt W)) (step : W) (part : Part) (at : Place) → AreFine xs → IsFirstFaulty xs step part at → ⊥
fine_not_faulty {W} xs step part at a f =
    let here : AreFine (f.before ++ text_at step part f.text ∷ f.after) = subst (λ (ts : List (TextAt W)). AreFine ts) f.parts a in
    not_both part f.text at (fine_within f.before (text_at step part f.text) f.after here) f.faulty

-- ---- the first faulty text stays the first one

pub first_before : {W : Type 0} (xs ys : List (TextAt W)) (step : W) (part : Part) (at : Place) → IsFirstFaulty xs step part at → IsFirstFaulty (xs ++ ys) step part at
first_before xs ys step part at f = record {
  before = f.before;
  text = f.text;
  after = f.after ++ ys;
  parts = ap (λ ts. ts ++ ys) f.parts ∙ append_assoc f.before (text_at step part f.text ∷ f.after) ys;
  fine = f.fine;
  faulty = f.faulty;
}

pub first_after : {W : Type 0} (xs ys : List (TextAt W)) (step : W) (part : Part) (at : Place) → AreFine xs → IsFirstFaulty ys step part at → IsFirstFaulty (xs ++ ys) step part at
first_after xs ys step part at a f = record {
  before = xs ++ f.before;
  text = f.text;
  after = f.after;
  parts = ap (λ ts. xs ++ ts) f.parts ∙ sym (append_assoc xs f.before (text_at step part f.text ∷ f.after));
  fine = fine_both xs f.before a f.fine;
  faulty = f.faulty;
}

pub first_moved : {V W : Type 0} (g : V → W) (xs : List (TextAt V)) (step : V) (part : Part) (at : Place) → IsFirstFaulty xs step part at → IsFirstFaulty (map (moved_text g) xs) (g step) part at
first_moved g xs step part at f = record {
  before = map (moved_text g) f.before;
  text = f.text;
  after = map (moved_text g) f.after;
  parts = ap (map (moved_text g)) f.parts ∙ map-append (moved_text g) f.before (text_at step part f.text ∷ f.after);
  fine = fine_moved g f.before f.fine;
  faulty = f.faulty;
}

-- a single text
pub first_single : {W : Type 0} (step : W) (part : Part) (text : List ℕ) (at : Place) → IsFaulty part text at → IsFirstFaulty (text_at step part text ∷ []) step part at
first_single step part text at f = record { before = []; text = text; after = []; parts = refl; fine = tt; faulty = f }

-- ---- there is one

-- what two first faulty texts have in common
pub record Same {W : Type 0} (step other : W) (part other_part : Part) (at there : Place) : Type 0 where
  pub same_step : step ≡ other
  pub same_part : part ≡ other_part
  pub same_place : at ≡ there

one_split : {W : Type 0} (xs ys : List (TextAt W)) (step other : W) (part other_part : Part) (text other_text : List ℕ) (after rest : List (TextAt W)) (at there : Place)
    → xs ++ text_at step part text ∷ after ≡ ys ++ text_at other other_part other_text ∷ rest → AreFine xs → AreFine ys
    → IsFaulty part text at → IsFaulty other_part other_text there → Same step other part other_part at there
one_split [] [] step other part other_part text other_text after rest at there e a b f g =
    let same : text_at step part text ≡ text_at other other_part other_text = cc in
    let same_part : part ≡ other_part = ap (λ t. t.part) same in
    let same_text : text ≡ other_text = ap (λ t. t.text) same in
    let moved_place : IsFaulty part text there = subst (λ (p : Part). IsFaulty p text there) (sym same_part) (subst (λ (t : List ℕ). IsFaulty other_part t there) (sym same_text) g) in
    record { same_step = ap (λ t. t.step) same; same_part = same_part; same_place = one_place part text at there f moved_place }
one_split {W} [] (y ∷ ys) step other part other_part text other_text after rest at there e a b f g =
    let same : y ≡ text_at step part text = cc in
    absurd (not_both part text at (subst (λ (t : TextAt W). IsFine t.part t.text) same b.0) f)
one_split {W} (x ∷ xs) [] step other part other_part text other_text after rest at there e a b f g =
    let same : x ≡ text_at other other_part other_text = cc in
    absurd (not_both other_part other_text there (subst (λ (t : TextAt W). IsFine t.part t.text) same a.0) g)
one_split (x ∷ xs) (y ∷ ys) step other part other_part text other_text after rest at there e a b f g =
    let tails : xs ++ text_at step part text ∷ after ≡ ys ++ text_at other other_part other_text ∷ rest = cc in
    one_split xs ys step other part other_part text other_text after rest at there tails a.1 b.1 f g

pub one_first : {W : Type 0} (texts : List (TextAt W)) (step other : W) (part other_part : Part) (at there : Place)
    → IsFirstFaulty texts step part at → IsFirstFaulty texts other other_part there → Same step other part other_part at there
one_first texts step other part other_part at there f g =
    one_split f.before g.before step other part other_part f.text g.text f.after g.after at there (sym f.parts ∙ g.parts) f.fine g.fine f.faulty g.faulty
