-- Sequences read one after another, and looked up by their names.
use Rattle.std.proofs.Common.{◌≡◌, ◌∙◌, sym, subst, ap, refl, ℕ, zero, suc, ◌+◌, ◌<◌, Bool, true, false, cond, List, [], ◌∷◌, ◌++◌, map, take, length, get_or, Option, None, Some, is_some, option_map, Err, Bor, String, Global, bytes_eq, string_bytes, arith, true≢false}
use Rattle.std.proofs.lemmas.List.{map-append, take_more}
use Rattle.std.proofs.lemmas.Slice.Eq.{bytes_eq-Decides}
use Rattle.std.specs.List.{IsDistinct, AllByRecursion}
use Rattle.std.proofs.lemmas.Map.Keys.{IsDistinct-head, IsDistinct-tail}
use Rattle.std.specs.Map.{lookup}
use Rattle.std.specs.Option.{option_copied}
use Rattle.std.specs.String.{string_eq}
use Rattle.std.specs.declared.hash.FoldHasher.{FoldHasher}
use Rattle.std.specs.declared.hash.BuildHasherDefault.{BuildHasherDefault}
use Rattle.indexmap.specs.IndexMap.{IndexMap, insert_entry}
use Rattle.indexmap.proofs.CallerLemmas.{insert_entry-new}
use Rattle.dap_base.specs.declared.text.Place.{Place}
use Rattle.dap_base.proofs.Basics.{same_text}
use Rattle.expr_grammar.specs.Tree.{StmtTree}
use Rattle.sequence_resolve.specs.declared.entry.SeqEntry.{SeqEntry}
use Rattle.sequence_resolve.specs.declared.entry.SeqSet.{SeqSet}
use Rattle.sequence_trees.specs.declared.spot.Part.{Part}
use Rattle.sequence_trees.specs.declared.spot.Part.TheVariants as kinds
use Rattle.sequence_trees.specs.declared.steps.CheckedStep.{CheckedStep}
use Rattle.sequence_trees.specs.declared.step_reader.FaultyText.{FaultyText}
use Rattle.sequence_trees.specs.declared.step_reader.StepFault.TheVariants as step_faults
use Rattle.sequence_trees.specs.declared.set_reader.SetFault.{SetFault}
use Rattle.sequence_trees.specs.declared.set_reader.SetFault.TheVariants as faults
use Rattle.sequence_trees.specs.Trees.{CodeSteps, SequenceTrees, steps_tree, steps_named}
use Rattle.sequence_trees.specs.SetView.{entry_view}
use Rattle.sequence_trees.specs.Texts.{IsCodeOf, IsFaultyCode}
use Rattle.sequence_trees.specs.Order.{SetStep, enabled_steps, steps_texts, entry_texts, entries_texts, debugvars_texts, set_texts, step_of, IsFirstFaulty}
use Rattle.sequence_trees.specs.Reading.{ReadsSteps, ReadsEntry, ReadsEntries}
use Rattle.sequence_trees.specs.Answers.{AnswersSet}
use Rattle.sequence_trees.specs.Outcomes.{IsFaultOf, IsSetFaultOf, spot_in}
use Rattle.sequence_trees.proofs.OrderLaws.{first_before, first_after, first_moved, first_single}
use Rattle.sequence_trees.proofs.SetLaws.{entry_fine, debugvars_fine}

-- ---- the table

-- looking a name up in the table finds the steps of the first sequence with the name
found_steps : (b : Bool) (s : List CheckedStep) (o : Option (List CheckedStep)) → option_map steps_tree (cond b (Some s) o) ≡ cond b (Some (steps_tree s)) (option_map steps_tree o)
found_steps true s o = refl
found_steps false s o = refl

pub lookup_named : (name : List ℕ) (es : List (String Global × List CheckedStep)) → option_map steps_tree (lookup (λ k. bytes_eq name (string_bytes k)) es) ≡ steps_named name (map entry_view es)
lookup_named name [] = refl
lookup_named name (e ∷ es) =
    found_steps (bytes_eq name (string_bytes e.0)) e.1 (lookup (λ k. bytes_eq name (string_bytes k)) es)
    ∙ ap (λ o. cond (bytes_eq name (string_bytes e.0)) (Some (steps_tree e.1)) o) (lookup_named name es)

named_or_not : (o : Option (List CheckedStep)) → is_some o ≡ is_some (option_map steps_tree o)
named_or_not None = refl
named_or_not (Some x) = refl

-- a name is in the table exactly where a sequence has it
pub found_named : (name : List ℕ) (es : List (String Global × List CheckedStep)) → is_some (lookup (λ k. bytes_eq name (string_bytes k)) es) ≡ is_some (steps_named name (map entry_view es))
found_named name es = named_or_not (lookup (λ k. bytes_eq name (string_bytes k)) es) ∙ ap is_some (lookup_named name es)

pub option_map-copied : {A B : Type 0} (f : A → B) (o : Option (Bor A)) → option_map (λ x. f x.now) o ≡ option_map f (option_copied o)
option_map-copied f None = refl
option_map-copied f (Some x) = refl

none_from : (o : Option (List CheckedStep)) → option_map steps_tree o ≡ None → o ≡ None
none_from None e = refl
none_from (Some x) e = absurd cc

abbrev Table : Type 0
Table = IndexMap (String Global) (List CheckedStep) (BuildHasherDefault FoldHasher)

-- an entry of a new name goes last
pub added : (m : Table) (k : String Global) (v : List CheckedStep) → steps_named (string_bytes k) (map entry_view m.entries) ≡ None
    → map entry_view (insert_entry string_eq m.entries k v) ≡ map entry_view m.entries ++ record { name = string_bytes k; steps = steps_tree v } ∷ []
added m k v new =
    let none : lookup (string_eq k) m.entries ≡ None = none_from _ (lookup_named (string_bytes k) m.entries ∙ new) in
    ap (map entry_view) (insert_entry-new string_eq m k v none) ∙ map-append entry_view m.entries ((k, v) ∷ [])

-- ---- names

flipped : (x y : List ℕ) (b : Bool) → bytes_eq y x ≡ b → bytes_eq x y ≡ false → b ≡ false
flipped x y false is differs = refl
flipped x y true is differs = let same : y ≡ x = same_text y x is in absurd (true≢false (sym ((bytes_eq-Decides x y).1 (sym same)) ∙ differs))

apart_at : (name : List ℕ) (es : List SeqEntry) (i : ℕ) (e : SeqEntry) → i < length es → AllByRecursion (λ y. bytes_eq name y ≡ false) (map (λ x. x.name) es) → bytes_eq name (get_or es i e).name ≡ false
apart_at name [] i e lt all = absurd (omega arith)
apart_at name (x ∷ es) zero e lt all = all.0
apart_at name (x ∷ es) (suc i) e lt all = apart_at name es i e (omega arith) all.1

skipped : (name : List ℕ) (s : SequenceTrees) (more : List SequenceTrees) (b : Bool) → bytes_eq name s.name ≡ b → b ≡ false → steps_named name (s ∷ more) ≡ steps_named name more
skipped name s more b is differs = rw (is, differs) refl

-- a name of the set is none of the names before it
pub new_name : (es : List SeqEntry) (i : ℕ) (e : SeqEntry) (ss : List SequenceTrees) → IsDistinct bytes_eq (map (λ x. x.name) es) → i < length es → ReadsEntries (take i es) ss
    → steps_named (get_or es i e).name ss ≡ None
new_name [] i e ss distinct lt is = absurd (omega arith)
new_name (x ∷ es) zero e ss distinct lt is = ap (steps_named x.name) is
new_name (x ∷ es) (suc i) e ss distinct lt is =
    let name = (get_or es i e).name in
    let less : i < length es = omega arith in
    let differs : bytes_eq x.name name ≡ false = apart_at x.name es i e less (IsDistinct-head bytes_eq x.name (map (λ y. y.name) es) distinct) in
    let other : bytes_eq name x.name ≡ false = flipped x.name name (bytes_eq name x.name) refl differs in
    let named : bytes_eq name is.0.name ≡ false = subst (λ (n : List ℕ). bytes_eq name n ≡ false) (sym is.3.name) other in
    ap (steps_named name) is.2 ∙ skipped name is.0 is.1 false named refl ∙ new_name es i e is.1 (IsDistinct-tail bytes_eq x.name (map (λ y. y.name) es) distinct) less is.4

pub fresh : (es : List SeqEntry) (i : ℕ) (e : SeqEntry) (ss : List SequenceTrees) → IsDistinct bytes_eq (map (λ x. x.name) es) → i < length es → e ≡ get_or es i e → ReadsEntries (take i es) ss
    → steps_named e.name ss ≡ None
fresh es i e ss distinct lt at is = subst (λ (x : SeqEntry). steps_named x.name ss ≡ None) (sym at) (new_name es i e ss distinct lt is)

-- ---- one sequence more

entries_more : (es : List SeqEntry) (ss : List SequenceTrees) (e : SeqEntry) (s : SequenceTrees) → ReadsEntries es ss → ReadsEntry e s → ReadsEntries (es ++ e ∷ []) (ss ++ s ∷ [])
entries_more [] ss e s before is = (s, [], ap (λ xs. xs ++ s ∷ []) before, is, refl)
entries_more (x ∷ es) ss e s before is =
    (before.0, before.1 ++ s ∷ [], ap (λ xs. xs ++ s ∷ []) before.2, before.3, entries_more es before.1 e s before.4 is)

pub one_more : (es : List SeqEntry) (i : ℕ) (e : SeqEntry) (ss : List SequenceTrees) (steps : CodeSteps) → i < length es → e ≡ get_or es i e → ReadsEntries (take i es) ss
    → ReadsSteps (enabled_steps e) steps → ReadsEntries (take (i + 1) es) (ss ++ record { name = e.name; steps = steps } ∷ [])
one_more es i e ss steps lt at before is =
    let grown : take (i + 1) es ≡ take i es ++ e ∷ [] = take_more es i e lt ∙ ap (λ x. take i es ++ x ∷ []) (sym at) in
    rw grown (entries_more (take i es) ss e (record { name = e.name; steps = steps }) before (record { name = refl; steps = is }))

-- ---- faults

pub fault_debugvars : (text : List ℕ) (at : Place) → IsFaultyCode text at → IsFirstFaulty (debugvars_texts text) (record { sequence = None; path = [] }) kinds.Debugvars at
fault_debugvars text at f = first_single (record { sequence = None; path = [] }) kinds.Debugvars text at f

pub fault_entry : (e : SeqEntry) (f : FaultyText) → e.disabled ≡ false → IsFaultOf (steps_texts 0 e.steps) (step_faults.Syntax f) → IsSetFaultOf (entry_texts e) (faults.Syntax (spot_in e.name f))
fault_entry e f on is =
    rw on (first_moved (λ path. record { sequence = Some e.name; path = path }) (steps_texts 0 e.steps) f.path f.part f.place is)

fault_among : (es : List SeqEntry) (i : ℕ) (e : SeqEntry) (ss : List SequenceTrees) (step : SetStep) (part : Part) (at : Place) → i < length es → ReadsEntries (take i es) ss
    → IsFirstFaulty (entry_texts (get_or es i e)) step part at → IsFirstFaulty (entries_texts es) step part at
fault_among [] i e ss step part at lt before f = absurd (omega arith)
fault_among (x ∷ es) zero e ss step part at lt before f = first_before (entry_texts x) (entries_texts es) step part at f
fault_among (x ∷ es) (suc i) e ss step part at lt before f =
    first_after (entry_texts x) (entries_texts es) step part at (entry_fine x before.0.steps before.3.steps) (fault_among es i e before.1 step part at (omega arith) before.4 f)

pub fault_first : (set : SeqSet) (fault : SetFault) → IsSetFaultOf (debugvars_texts set.debugvars) fault → IsSetFaultOf (set_texts set) fault
fault_first set faults.OutOfMemory f = tt
fault_first set (faults.Syntax spot) f = first_before (debugvars_texts set.debugvars) (entries_texts set.entries) (step_of spot) spot.part spot.place f

pub fault_at : (set : SeqSet) (code : List StmtTree) (i : ℕ) (e : SeqEntry) (ss : List SequenceTrees) (fault : SetFault) → i < length set.entries → e ≡ get_or set.entries i e
    → IsCodeOf set.debugvars code → ReadsEntries (take i set.entries) ss → IsSetFaultOf (entry_texts e) fault → IsSetFaultOf (set_texts set) fault
fault_at set code i e ss faults.OutOfMemory lt at is before f = tt
fault_at set code i e ss (faults.Syntax spot) lt at is before f =
    first_after (debugvars_texts set.debugvars) (entries_texts set.entries) (step_of spot) spot.part spot.place (debugvars_fine set.debugvars code is)
    (fault_among set.entries i e ss (step_of spot) spot.part spot.place lt before (subst (λ (x : SeqEntry). IsFirstFaulty (entry_texts x) (step_of spot) spot.part spot.place) at f))

pub reported : (set : SeqSet) (fault : SetFault) → IsSetFaultOf (set_texts set) fault → AnswersSet set (Err fault)
reported set faults.OutOfMemory f = tt
reported set (faults.Syntax spot) f = f
