-- The texts of a set are read as trees, or one of them is the first that is faulty.
use Rattle.std.proofs.Common.{◌⊎◌, inl, inr, ℕ, suc, List, [], ◌∷◌, ◌++◌, map, Option, Some, None, refl}
use Rattle.dap_base.specs.declared.text.Place.{Place}
use Rattle.device_tree.specs.StepTree as device
use Rattle.sequence_resolve.specs.declared.entry.SeqEntry.{SeqEntry}
use Rattle.sequence_resolve.specs.declared.entry.SeqSet.{SeqSet}
use Rattle.expr_grammar.specs.declared.limit.Span.{Span}
use Rattle.expr_grammar.specs.declared.limit.Span.TheVariants as spans
use Rattle.expr_grammar.specs.Lexeme.{Lexeme}
use Rattle.expr_grammar.specs.Lexing.{AreTokensOf, place_at}
use Rattle.expr_grammar.specs.Grammar.{ReadsCode, ReadsExpr}
use Rattle.expr_grammar.specs.Refusal.{place_of}
use Rattle.expr_grammar.specs.Tree.{Tree, StmtTree}
use Rattle.sequence_trees.specs.declared.spot.Part.{Part}
use Rattle.sequence_trees.specs.declared.spot.Part.TheVariants as kinds
use Rattle.sequence_trees.specs.declared.spot.Spot.{Spot}
use Rattle.sequence_trees.specs.Texts.{IsTextOf, IsFaultyText, bad_token, unexpected, too_deep, IsCodeOf, IsConditionOf, IsFaultyCode, IsFaultyCondition}
use Rattle.sequence_trees.specs.Trees.{CodeStep, Block, Control, CodeSteps, NoSteps, MoreSteps, SequenceTrees, SetTrees}
use Rattle.sequence_trees.specs.Order.{TextAt, moved_text, IsFirstFaulty, StepText, text_if_some, block_texts, control_texts, under, steps_texts, enabled_steps, entry_texts, entries_texts, debugvars_texts, IsFirstFault}
use Rattle.sequence_trees.specs.Reading.{MayBeCondition, ReadsBlock, ReadsControl, Begins, ReadsSteps, ReadsEntry, ReadsEntries, ReadsSet}
use Rattle.sequence_trees.proofs.OrderLaws.{AreFine, fine_both, fine_moved, first_before, first_after, first_moved, first_single}
use Rattle.sequence_trees.proofs.ReadingLaws.{cond_fine, repeat_fine, block_fine, control_fine, steps_fine}
use Rattle.expr_grammar.proofs.SomeTokens.{cut}
use Rattle.expr_grammar.proofs.SomeTree.{Parsed, expression, code}

-- ---- one text

-- what the text is, or the place of its first fault
abbrev Read : {X : Type 0} → (List Lexeme → X → Type 0) → Span → List ℕ → Type 0
Read {X} R span text = ((x : X) × IsTextOf R span text x) ⊎ ((at : Place) × IsFaultyText R span text at)

module _ {X : Type 0} (R : List Lexeme → X → Type 0) (span : Span) (parsed : (ts : List Lexeme) → Parsed R span ts) (text : List ℕ) where
  of_tokens : (ts : List Lexeme) → AreTokensOf text ts → Parsed R span ts → Read R span text
  of_tokens ts are (inl p) = inl (p.0, record { tokens = ts; cut = are; accepted = p.1 })
  of_tokens ts are (inr (inl u)) = inr (place_of ts u.0, unexpected ts are u.0 u.1 refl)
  of_tokens ts are (inr (inr d)) = inr (place_of ts d.0, too_deep ts are d.0 d.1 refl)

  read_text : Read R span text
  read_text = elim (cut text) [ inl c ↦ of_tokens c.0 c.1 (parsed c.0) | inr b ↦ inr (place_at text b.0, bad_token b.0 b.1 refl) ]

pub read_code : (text : List ℕ) → ((x : List StmtTree) × IsCodeOf text x) ⊎ ((at : Place) × IsFaultyCode text at)
read_code text = read_text ReadsCode spans.Statement (code spans.Statement) text

read_condition : (text : List ℕ) → ((e : Tree) × IsConditionOf text e) ⊎ ((at : Place) × IsFaultyCondition text at)
read_condition text = read_text ReadsExpr spans.Text (expression spans.Text) text

-- ---- several texts

-- one of the texts is the first that is faulty
abbrev Faulty : {W : Type 0} → List (TextAt W) → Type 0
Faulty {W} texts = (step : W) × (part : Part) × (at : Place) × IsFirstFaulty texts step part at

before : {W : Type 0} (xs ys : List (TextAt W)) → Faulty xs → Faulty (xs ++ ys)
before xs ys f = (f.0, f.1, f.2, first_before xs ys f.0 f.1 f.2 f.3)

after : {W : Type 0} (xs ys : List (TextAt W)) → AreFine xs → Faulty ys → Faulty (xs ++ ys)
after xs ys fine f = (f.0, f.1, f.2, first_after xs ys f.0 f.1 f.2 fine f.3)

seen : {V W : Type 0} (g : V → W) (xs : List (TextAt V)) → Faulty xs → Faulty (map (moved_text g) xs)
seen g xs f = (g f.0, f.1, f.2, first_moved g xs f.0 f.1 f.2 f.3)

-- ---- the texts of a step

abbrev Condition : Option (List ℕ) → List StepText → Type 0
Condition text texts = ((c : Option Tree) × MayBeCondition text c) ⊎ Faulty texts

read_cond : (text : Option (List ℕ)) → Condition text (text_if_some kinds.If text)
read_cond None = inl (None, refl)
read_cond (Some text) = elim (read_condition text) [ inl r ↦ inl (Some r.0, (r.0, refl, r.1)) | inr f ↦ inr ([], kinds.If, f.0, first_single [] kinds.If text f.0 f.1) ]

read_repeat : (text : Option (List ℕ)) → Condition text (text_if_some kinds.While text)
read_repeat None = inl (None, refl)
read_repeat (Some text) = elim (read_condition text) [ inl r ↦ inl (Some r.0, (r.0, refl, r.1)) | inr f ↦ inr ([], kinds.While, f.0, first_single [] kinds.While text f.0 f.1) ]

read_block : (text : List ℕ) → ((s : CodeStep) × ReadsBlock text s) ⊎ Faulty (block_texts text)
read_block text = elim (read_code text) [
  | inl r ↦ inl (Block r.0, record { code = r.0; is = refl; reads = r.1 })
  | inr f ↦ inr ([], kinds.Block, f.0, first_single [] kinds.Block text f.0 f.1)
]

module _ (cond repeat : Option (List ℕ)) (timeout : Option ℕ) (Inner : CodeSteps → Type 0) (inner : List StepText) where
  read_control : Condition cond (text_if_some kinds.If cond) → Condition repeat (text_if_some kinds.While repeat) → ((own : CodeSteps) × Inner own) ⊎ Faulty inner
      → ((s : CodeStep) × ReadsControl cond repeat timeout Inner s) ⊎ Faulty (control_texts cond repeat inner)
  read_control (inr f) r i = inr (before (text_if_some kinds.If cond ++ text_if_some kinds.While repeat) inner (before (text_if_some kinds.If cond) (text_if_some kinds.While repeat) f))
  read_control (inl c) (inr f) i =
      inr (before (text_if_some kinds.If cond ++ text_if_some kinds.While repeat) inner (after (text_if_some kinds.If cond) (text_if_some kinds.While repeat) (cond_fine cond c.0 c.1) f))
  read_control (inl c) (inl r) (inr f) =
      let fine = fine_both (text_if_some kinds.If cond) (text_if_some kinds.While repeat) (cond_fine cond c.0 c.1) (repeat_fine repeat r.0 r.1) in
      inr (after (text_if_some kinds.If cond ++ text_if_some kinds.While repeat) inner fine f)
  read_control (inl c) (inl r) (inl i) =
      inl (Control c.0 r.0 timeout i.0, record { cond = c.0; repeat = r.0; inner = i.0; is = refl; reads_cond = c.1; reads_repeat = r.1; reads_inner = i.1 })

-- ---- the texts of steps

module _ (n : ℕ) (First : CodeStep → Type 0) (More : CodeSteps → Type 0) (xs ys : List StepText) (fine : (s : CodeStep) → First s → AreFine xs) where
  read_begin : ((s : CodeStep) × First s) ⊎ Faulty xs → ((m : CodeSteps) × More m) ⊎ Faulty ys → ((all : CodeSteps) × Begins First More all) ⊎ Faulty (under n xs ++ ys)
  read_begin (inr f) m = inr (before (under n xs) ys (seen (λ path. n ∷ path) xs f))
  read_begin (inl s) (inr f) = inr (after (under n xs) ys (fine_moved (λ path. n ∷ path) xs (fine s.0 s.1)) f)
  read_begin (inl s) (inl m) = inl (MoreSteps s.0 m.0, record { first = s.0; more = m.0; parts = refl; reads_first = s.1; reads_more = m.1 })

read_steps : (s : device.StepTree) (n : ℕ) → ((steps : CodeSteps) × ReadsSteps s steps) ⊎ Faulty (steps_texts n s)
read_steps device.no_steps n = inl (NoSteps, refl)
read_steps (device.block text atomic rest) n =
    read_begin n (ReadsBlock text) (λ more. ReadsSteps rest more) (block_texts text) (steps_texts (suc n) rest) (block_fine text) (read_block text) (read_steps rest (suc n))
read_steps (device.control cond repeat timeout inner rest) n =
    let Own : CodeSteps → Type 0 = λ own. ReadsSteps inner own in
    read_begin n (ReadsControl cond repeat timeout Own) (λ more. ReadsSteps rest more) (control_texts cond repeat (steps_texts 0 inner)) (steps_texts (suc n) rest)
    (λ s r. control_fine cond repeat timeout Own (steps_texts 0 inner) s (λ own is. steps_fine inner 0 own is) r)
    (read_control cond repeat timeout Own (steps_texts 0 inner) (read_cond cond) (read_repeat repeat) (read_steps inner 0))
    (read_steps rest (suc n))

-- ---- the texts of a set

read_entry : (e : SeqEntry) → ((s : SequenceTrees) × ReadsEntry e s) ⊎ Faulty (entry_texts e)
read_entry e = elim (read_steps (enabled_steps e) 0) [
  | inl r ↦ inl (record { name = e.name; steps = r.0 }, record { name = refl; steps = r.1 })
  | inr f ↦ inr (seen (λ path. record { sequence = Some e.name; path = path }) (steps_texts 0 (enabled_steps e)) f)
]

entry_fine : (e : SeqEntry) (s : SequenceTrees) → ReadsEntry e s → AreFine (entry_texts e)
entry_fine e s r = fine_moved (λ path. record { sequence = Some e.name; path = path }) (steps_texts 0 (enabled_steps e)) (steps_fine (enabled_steps e) 0 s.steps r.steps)

read_entries : (es : List SeqEntry) → ((ss : List SequenceTrees) × ReadsEntries es ss) ⊎ Faulty (entries_texts es)
read_entries [] = inl ([], refl)
read_entries (e ∷ es) = elim (read_entry e) [
  | inl s ↦ elim (read_entries es) [
    | inl more ↦ inl (s.0 ∷ more.0, (s.0, more.0, refl, s.1, more.1))
    | inr f ↦ inr (after (entry_texts e) (entries_texts es) (entry_fine e s.0 s.1) f)
  ]
  | inr f ↦ inr (before (entry_texts e) (entries_texts es) f)
]

-- the trees of the set, or its first faulty text
abbrev pub ReadOrFaulty : SeqSet → Type 0
ReadOrFaulty set = ((trees : SetTrees) × ReadsSet set trees) ⊎ ((spot : Spot) × IsFirstFault set spot)

module _ (set : SeqSet) where
  -- a faulty text as a spot of the set
  at_spot : Faulty (debugvars_texts set.debugvars ++ entries_texts set.entries) → ReadOrFaulty set
  at_spot f = inr (record { sequence = f.0.sequence; path = f.0.path; part = f.1; place = f.2 }, f.3)

  of_debugvars : (code : List StmtTree) → IsCodeOf set.debugvars code → ReadOrFaulty set
  of_debugvars code is = elim (read_entries set.entries) [
    | inl r ↦ inl (record { debugvars = code; sequences = r.0 }, record { debugvars = is; sequences = r.1 })
    | inr f ↦ at_spot (after (debugvars_texts set.debugvars) (entries_texts set.entries) ((code, is), tt) f)
  ]

  pub read_set : ReadOrFaulty set
  read_set = elim (read_code set.debugvars) [
    | inl r ↦ of_debugvars r.0 r.1
    | inr f ↦ at_spot (before (debugvars_texts set.debugvars) (entries_texts set.entries)
        (record { sequence = None; path = [] }, kinds.Debugvars, f.0, first_single (record { sequence = None; path = [] }) kinds.Debugvars set.debugvars f.0 f.1))
  ]
