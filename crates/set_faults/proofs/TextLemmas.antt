-- The faults of texts, one part after another.
use Rattle.std.proofs.Common.{◌≡◌, ◌∙◌, sym, ap, subst, ℕ, zero, suc, ◌+◌, ◌<◌, List, [], ◌∷◌, ◌++◌, map, length, take, get_or, Option, Some, None, refl, arith, append_assoc, true, false, ◌⊎◌, inl, inr, cond}
use Rattle.std.proofs.lemmas.List.{append-nil, map-append, take_more}
use Rattle.dap_base.specs.declared.text.Place.{Place}
use Rattle.device_tree.specs.StepsView.{steps_view}
use Rattle.device_tree.specs.declared.steps.Step.{Step}
use Rattle.device_tree.specs.declared.steps.Step.TheVariants as d
use Rattle.sequence_resolve.specs.declared.entry.SeqEntry.{SeqEntry}
use Rattle.sequence_trees.specs.declared.spot.Part.{Part}
use Rattle.sequence_trees.specs.declared.spot.Part.TheVariants as parts
use Rattle.sequence_trees.specs.Order.{TextAt, StepText, SetStep, moved_text, under, own, text_if_some, steps_texts, entry_texts, entries_texts, debugvars_texts}
use Rattle.sequence_trees.specs.Outcomes.{step_texts}
use Rattle.sequence_trees.proofs.StepLemmas.{texts_first}
use Rattle.set_faults.specs.declared.site.Fault.{Fault}
use Rattle.set_faults.specs.Syntax.{IsFaultOf, syntax_fault, AreFaultsOf, AddsFaultsOf, inside}

-- ---- one part after another

are_two : (a b : List (TextAt SetStep)) (f g : List Fault) → AreFaultsOf a f → AreFaultsOf b g → AreFaultsOf (a ++ b) (f ++ g)
are_two [] b f g h k = subst (λ l. AreFaultsOf b (l ++ g)) (sym h) k
are_two (t ∷ a) b f g h k = (h.0, h.1 ++ g, h.2, ap (λ l. l ++ g) h.3 ∙ append_assoc (syntax_fault t.step t.part h.0) h.1 g, are_two a b h.1 g h.4 k)

pub added_two : {a b : List (TextAt SetStep)} {old mid new : List Fault} → AddsFaultsOf a old mid → AddsFaultsOf b mid new → AddsFaultsOf (a ++ b) old new
added_two {a} {b} {old} {mid} {new} h k = record {
  found = h.found ++ k.found;
  are = are_two a b h.found k.found h.are k.are;
  is_new = k.is_new ∙ ap (λ l. l ++ k.found) h.is_new ∙ append_assoc old h.found k.found;
}

pub added_none : (old : List Fault) → AddsFaultsOf [] old old
added_none old = record { found = []; are = refl; is_new = sym (append-nil old) }

pub added_one : (step : SetStep) (part : Part) (text : List ℕ) (at : Option Place) (old new : List Fault) → IsFaultOf part text at → new ≡ old ++ syntax_fault step part at
    → AddsFaultsOf (record { step = step; part = part; text = text } ∷ []) old new
added_one step part text at old new h e = record { found = syntax_fault step part at; are = (at, [], h, sym (append-nil (syntax_fault step part at)), refl); is_new = e }

-- ---- what a text is to be

as_debugvars : (text : List ℕ) (at : Option Place) → IsFaultOf parts.Block text at → IsFaultOf parts.Debugvars text at
as_debugvars text None h = h
as_debugvars text (Some at) h = h

as_while : (text : List ℕ) (at : Option Place) → IsFaultOf parts.If text at → IsFaultOf parts.While text at
as_while text None h = h
as_while text (Some at) h = h

as_condition : (part : Part) (text : List ℕ) (at : Option Place) → (part ≡ parts.If) ⊎ (part ≡ parts.While) → IsFaultOf parts.If text at → IsFaultOf part text at
as_condition part text at (inl is) h = subst (λ p. IsFaultOf p text at) (sym is) h
as_condition part text at (inr is) h = subst (λ p. IsFaultOf p text at) (sym is) (as_while text at h)

-- ---- steps seen from the set

moved_own : (step : SetStep) (part : Part) (text : List ℕ) → moved_text (inside step) (own part text) ≡ record { step = step; part = part; text = text }
moved_own step part text = ap (λ p. record { step = record { sequence = step.sequence; path = p }; part = part; text = text }) (append-nil step.path)

-- the text of a step itself
pub added_own : (step : SetStep) (part : Part) (text : List ℕ) (at : Option Place) (old new : List Fault) → IsFaultOf part text at → new ≡ old ++ syntax_fault step part at
    → AddsFaultsOf (map (moved_text (inside step)) (own part text ∷ [])) old new
added_own step part text at old new h e = subst (λ t. AddsFaultsOf (t ∷ []) old new) (sym (moved_own step part text)) (added_one step part text at old new h e)

pub added_condition : (step : SetStep) (part : Part) (text : List ℕ) (at : Option Place) (old new : List Fault) → (part ≡ parts.If) ⊎ (part ≡ parts.While) → IsFaultOf parts.If text at
    → new ≡ old ++ syntax_fault step part at → AddsFaultsOf (map (moved_text (inside step)) (text_if_some part (Some text))) old new
added_condition step part text at old new which h e = added_own step part text at old new (as_condition part text at which h) e

pub added_debugvars : (text : List ℕ) (at : Option Place) (old new : List Fault) → IsFaultOf parts.Block text at → new ≡ old ++ syntax_fault (record { sequence = None; path = [] }) parts.Debugvars at
    → AddsFaultsOf (debugvars_texts text) old new
added_debugvars text at old new h e = added_one (record { sequence = None; path = [] }) parts.Debugvars text at old new (as_debugvars text at h) e

pub added_control : (step : SetStep) (cond repeat : Option (List ℕ)) (inner : List StepText) (old one two new : List Fault)
    → AddsFaultsOf (map (moved_text (inside step)) (text_if_some parts.If cond)) old one → AddsFaultsOf (map (moved_text (inside step)) (text_if_some parts.While repeat)) one two
    → AddsFaultsOf (map (moved_text (inside step)) inner) two new → AddsFaultsOf (map (moved_text (inside step)) ((text_if_some parts.If cond ++ text_if_some parts.While repeat) ++ inner)) old new
added_control step cond repeat inner old one two new h j k =
    rw (map-append (moved_text (inside step)) (text_if_some parts.If cond ++ text_if_some parts.While repeat) inner, map-append (moved_text (inside step)) (text_if_some parts.If cond) (text_if_some parts.While repeat))
    (added_two (added_two h j) k)

abbrev inner_step : SetStep → ℕ → SetStep
inner_step step n = record { sequence = step.sequence; path = step.path ++ n ∷ [] }

moved_under : (step : SetStep) (n : ℕ) (texts : List StepText) → map (moved_text (inside (inner_step step n))) texts ≡ map (moved_text (inside step)) (under n texts)
moved_under step n [] = refl
moved_under step n (t ∷ texts) =
    ap (λ p. record { step = record { sequence = step.sequence; path = p }; part = t.part; text = t.text } ∷ map (moved_text (inside (inner_step step n))) texts) (append_assoc step.path (n ∷ []) t.step)
    ∙ ap (λ l. moved_text (inside step) (moved_text (λ path. n ∷ path) t) ∷ l) (moved_under step n texts)

texts_last : (ss : List Step) (s : Step) (n : ℕ) → steps_texts n (steps_view (ss ++ s ∷ [])) ≡ steps_texts n (steps_view ss) ++ under (n + length ss) (step_texts s)
texts_last [] s n = let e : n ≡ n + 0 = omega arith in texts_first s [] n ∙ append-nil (under n (step_texts s)) ∙ ap (λ m. under m (step_texts s)) e
texts_last (x ∷ ss) s n =
    let e : suc n + length ss ≡ n + suc (length ss) = omega arith in
    texts_first x (ss ++ s ∷ []) n ∙ ap (λ l. under n (step_texts x) ++ l) (texts_last ss s (suc n) ∙ ap (λ m. steps_texts (suc n) (steps_view ss) ++ under m (step_texts s)) e)
    ∙ sym (append_assoc (under n (step_texts x)) (steps_texts (suc n) (steps_view ss)) (under (n + suc (length ss)) (step_texts s)))
    ∙ ap (λ l. l ++ under (n + suc (length ss)) (step_texts s)) (sym (texts_first x ss n))

length_taken : {X : Type 0} (xs : List X) (i : ℕ) → i < length xs → 0 + length (take i xs) ≡ i
length_taken [] i h = absurd (omega arith)
length_taken (x ∷ xs) zero h = refl
length_taken (x ∷ xs) (suc i) h = let r = length_taken xs i (omega arith) in omega (arith, r)

-- the next step of a list
pub added_step : (step : SetStep) (items : List Step) (i : ℕ) (s : Step) (old mid new : List Fault) → i < length items → s ≡ get_or items i s
    → AddsFaultsOf (map (moved_text (inside step)) (steps_texts 0 (steps_view (take i items)))) old mid → AddsFaultsOf (map (moved_text (inside (inner_step step i))) (step_texts s)) mid new
    → AddsFaultsOf (map (moved_text (inside step)) (steps_texts 0 (steps_view (take (i + 1) items)))) old new
added_step step items i s old mid new lt at before next =
    let grown : take (i + 1) items ≡ take i items ++ s ∷ [] = take_more items i s lt ∙ ap (λ x. take i items ++ x ∷ []) (sym at) in
    let last : steps_texts 0 (steps_view (take i items ++ s ∷ [])) ≡ steps_texts 0 (steps_view (take i items)) ++ under i (step_texts s) =
    texts_last (take i items) s 0 ∙ ap (λ m. steps_texts 0 (steps_view (take i items)) ++ under m (step_texts s)) (length_taken items i lt) in
    rw (grown, last, map-append (moved_text (inside step)) (steps_texts 0 (steps_view (take i items))) (under i (step_texts s))) (added_two before (rw (moved_under step i (step_texts s)) at next))

-- ---- sequences

off : (e : SeqEntry) → e.disabled ≡ true → entry_texts e ≡ []
off e h = rw h refl

on : (e : SeqEntry) → e.disabled ≡ false → entry_texts e ≡ map (moved_text (inside (record { sequence = Some e.name; path = [] }))) (steps_texts 0 e.steps)
on e h = rw h refl

pub added_off : (e : SeqEntry) (old : List Fault) → e.disabled ≡ true → AddsFaultsOf (entry_texts e) old old
added_off e old h = rw (off e h) (added_none old)

pub added_on : (e : SeqEntry) (old new : List Fault) → e.disabled ≡ false → AddsFaultsOf (map (moved_text (inside (record { sequence = Some e.name; path = [] }))) (steps_texts 0 e.steps)) old new → AddsFaultsOf (entry_texts e) old new
added_on e old new h k = rw (on e h) k

entries_last : (es : List SeqEntry) (e : SeqEntry) → entries_texts (es ++ e ∷ []) ≡ entries_texts es ++ entry_texts e
entries_last [] e = append-nil (entry_texts e)
entries_last (x ∷ es) e = ap (λ l. entry_texts x ++ l) (entries_last es e) ∙ sym (append_assoc (entry_texts x) (entries_texts es) (entry_texts e))

-- the next sequence of a set
pub added_entry : (debugvars : List (TextAt SetStep)) (entries : List SeqEntry) (i : ℕ) (e : SeqEntry) (old mid new : List Fault) → i < length entries → e ≡ get_or entries i e
    → AddsFaultsOf (debugvars ++ entries_texts (take i entries)) old mid → AddsFaultsOf (entry_texts e) mid new → AddsFaultsOf (debugvars ++ entries_texts (take (i + 1) entries)) old new
added_entry debugvars entries i e old mid new lt at before next =
    let grown : take (i + 1) entries ≡ take i entries ++ e ∷ [] = take_more entries i e lt ∙ ap (λ x. take i entries ++ x ∷ []) (sym at) in
    rw (grown, entries_last (take i entries) e, ← append_assoc debugvars (entries_texts (take i entries)) (entry_texts e)) (added_two before next)

pub all_added : (texts : List (TextAt SetStep)) (found : List Fault) → AddsFaultsOf texts [] found → AreFaultsOf texts found
all_added texts found h = subst (AreFaultsOf texts) (sym h.is_new) h.are
