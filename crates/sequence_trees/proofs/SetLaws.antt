-- A set is read as one set of trees, or has one first fault, and never both.
use Rattle.std.proofs.Common.{◌≡◌, ◌∙◌, sym, ap, ℕ, List, [], ◌∷◌, Some, Result, Ok, Err}
use Rattle.expr_grammar.specs.declared.limit.Span.TheVariants as spans
use Rattle.expr_grammar.specs.Grammar.{ReadsCode}
use Rattle.expr_grammar.specs.Tree.{StmtTree}
use Rattle.sequence_resolve.specs.declared.entry.SeqEntry.{SeqEntry}
use Rattle.sequence_resolve.specs.declared.entry.SeqSet.{SeqSet}
use Rattle.sequence_trees.specs.declared.spot.Spot.{Spot}
use Rattle.sequence_trees.specs.declared.set.ReadSet.{ReadSet}
use Rattle.sequence_trees.specs.declared.set_reader.SetFault.{SetFault}
use Rattle.sequence_trees.specs.declared.set_reader.SetFault.TheVariants as sets
use Rattle.sequence_trees.specs.Trees.{CodeSteps, SequenceTrees, SetTrees}
use Rattle.sequence_trees.specs.Order.{enabled_steps, steps_texts, entry_texts, entries_texts, debugvars_texts, set_texts, step_of, IsFirstFault}
use Rattle.sequence_trees.specs.Reading.{ReadsSteps, ReadsEntry, ReadsEntries, ReadsSet}
use Rattle.sequence_trees.specs.Texts.{IsCodeOf}
use Rattle.sequence_trees.specs.SetView.{set_trees}
use Rattle.sequence_trees.specs.Answers.{AnswersSet, GivesSet, ReportsSpot}
use Rattle.sequence_trees.proofs.TextLaws.{one_value, exact_code}
use Rattle.sequence_trees.proofs.OrderLaws.{AreFine, fine_both, fine_moved, fine_not_faulty, Same, one_first}
use Rattle.sequence_trees.proofs.ReadingLaws.{steps_fine, one_steps}

-- ---- what is read is fine

pub entry_fine : (e : SeqEntry) (steps : CodeSteps) → ReadsSteps (enabled_steps e) steps → AreFine (entry_texts e)
entry_fine e steps is = fine_moved (λ path. record { sequence = Some e.name; path = path }) (steps_texts 0 (enabled_steps e)) (steps_fine (enabled_steps e) 0 steps is)

entries_fine : (es : List SeqEntry) (ss : List SequenceTrees) → ReadsEntries es ss → AreFine (entries_texts es)
entries_fine [] ss is = tt
entries_fine (e ∷ es) ss is = fine_both (entry_texts e) (entries_texts es) (entry_fine e is.0.steps is.3.steps) (entries_fine es is.1 is.4)

pub debugvars_fine : (text : List ℕ) (code : List StmtTree) → IsCodeOf text code → AreFine (debugvars_texts text)
debugvars_fine text code is = ((code, is), tt)

set_fine : (set : SeqSet) (trees : SetTrees) → ReadsSet set trees → AreFine (set_texts set)
set_fine set trees is = fine_both (debugvars_texts set.debugvars) (entries_texts set.entries) (debugvars_fine set.debugvars trees.debugvars is.debugvars) (entries_fine set.entries trees.sequences is.sequences)

-- ---- there is one set of trees

same_sequence : (s t : SequenceTrees) → s.name ≡ t.name → s.steps ≡ t.steps → s ≡ t
same_sequence s t e f = ap (λ n. record { name = n; steps = s.steps }) e ∙ ap (λ x. record { name = t.name; steps = x }) f

one_entry : (e : SeqEntry) (s t : SequenceTrees) → ReadsEntry e s → ReadsEntry e t → s ≡ t
one_entry e s t a b = same_sequence s t (a.name ∙ sym b.name) (one_steps (enabled_steps e) s.steps t.steps a.steps b.steps)

same_entries : (s t : SequenceTrees) (ss ts : List SequenceTrees) → s ≡ t → ss ≡ ts → s ∷ ss ≡ t ∷ ts
same_entries s t ss ts e f = cc

one_entries : (es : List SeqEntry) (ss ts : List SequenceTrees) → ReadsEntries es ss → ReadsEntries es ts → ss ≡ ts
one_entries [] ss ts a b = a ∙ sym b
one_entries (e ∷ es) ss ts a b =
    a.2 ∙ same_entries a.0 b.0 a.1 b.1 (one_entry e a.0 b.0 a.3 b.3) (one_entries es a.1 b.1 a.4 b.4) ∙ sym b.2

pub one_set : (set : SeqSet) (x y : SetTrees) → ReadsSet set x → ReadsSet set y → x ≡ y
one_set set x y a b =
    let code : x.debugvars ≡ y.debugvars = one_value ReadsCode spans.Statement exact_code set.debugvars x.debugvars y.debugvars a.debugvars b.debugvars in
    let sequences : x.sequences ≡ y.sequences = one_entries set.entries x.sequences y.sequences a.sequences b.sequences in
    ap (λ c. record { debugvars = c; sequences = x.sequences }) code ∙ ap (λ s. record { debugvars = y.debugvars; sequences = s }) sequences

pub not_both : (set : SeqSet) (trees : SetTrees) (spot : Spot) → ReadsSet set trees → IsFirstFault set spot → ⊥
not_both set trees spot is f = fine_not_faulty (set_texts set) (step_of spot) spot.part spot.place (set_fine set trees is) f

same_spot : (s t : Spot) → Same (step_of s) (step_of t) s.part t.part s.place t.place → s ≡ t
same_spot s t same =
    let sequence : s.sequence ≡ t.sequence = ap (λ x. x.sequence) same.same_step in
    let path : s.path ≡ t.path = ap (λ x. x.path) same.same_step in
    ap (λ x. record { sequence = x; path = s.path; part = s.part; place = s.place }) sequence
    ∙ ap (λ x. record { sequence = t.sequence; path = x; part = s.part; place = s.place }) path
    ∙ ap (λ x. record { sequence = t.sequence; path = t.path; part = x; place = s.place }) same.same_part
    ∙ ap (λ x. record { sequence = t.sequence; path = t.path; part = t.part; place = x }) same.same_place

pub one_fault : (set : SeqSet) (s t : Spot) → IsFirstFault set s → IsFirstFault set t → s ≡ t
one_fault set s t f g = same_spot s t (one_first (set_texts set) (step_of s) (step_of t) s.part t.part s.place t.place f g)

-- ---- what the reader answers

pub only_read : (set : SeqSet) (r : Result ReadSet SetFault) → AnswersSet set r → (trees : SetTrees) → ReadsSet set trees → GivesSet trees r
only_read set (Ok read) a trees is = one_set set (set_trees read) trees a is
only_read set (Err (sets.Syntax spot)) a trees is = not_both set trees spot is a
only_read set (Err sets.OutOfMemory) a trees is = tt

pub only_fault : (set : SeqSet) (r : Result ReadSet SetFault) → AnswersSet set r → (spot : Spot) → IsFirstFault set spot → ReportsSpot spot r
only_fault set (Ok read) a spot f = not_both set (set_trees read) spot a f
only_fault set (Err (sets.Syntax reported)) a spot f = one_fault set reported spot a f
only_fault set (Err sets.OutOfMemory) a spot f = tt
