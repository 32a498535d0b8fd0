-- The run of a checked set lacks nothing: chains of calls, the debug variables, and whole runs.
use Rattle.std.proofs.Common.{◌≡◌, ◌<◌, ◌≤◌, ℕ, zero, suc, ◌+◌, Bool, true, false, cond, not, ◌||◌, List, [], ◌∷◌, ◌++◌, map, length, slice_get, slice_index_or, nat_lt, None, Some, unwrap_or, Contains, ◌⊎◌, inl, inr, codes, refl, sym, ap, subst, ◌∙◌, arith, bytes_eq}
use Rattle.std.proofs.Math.Bool.{or-true}
use Rattle.std.specs.List.{position_or_len}
use Rattle.std.proofs.lemmas.List.Elements.{Contains-append_cases}
use Rattle.call_graph.specs.Graph.{callees_of, BeginsChain}
use Rattle.call_graph.proofs.Chains.{chain_is_node}
use Rattle.dap_base.specs.Outcome.{◌>>=◌}
use Rattle.dap_base.proofs.Basics.{text_itself, contains_map}
use Rattle.expr_grammar.specs.Tree as t
use Rattle.expr_grammar.specs.Tree.{Tree, ArgTree, ArgTrees, StmtTree}
use Rattle.function_table.specs.Variables.{names_of_predefined}
use Rattle.expr_grammar.specs.Names.{has_name, with_name}
use Rattle.code_check.specs.First as first
use Rattle.code_check.specs.ExprFaults.{Scope, ExprFault}
use Rattle.code_check.specs.BlockFaults.{names_after, names_after_all, seeing, BlockFault}
use Rattle.code_check.specs.declared.fault.CodeFault.{CodeFault}
use Rattle.code_check.specs.declared.fault.FaultKind.TheVariants as kinds
use Rattle.sequence_trees.specs.Trees as c
use Rattle.sequence_trees.specs.Trees.{CodeSteps, SequenceTrees, SetTrees, steps_named}
use Rattle.sequence_trees.specs.declared.spot.Part.TheVariants as parts
use Rattle.seq_check.specs.Calls.{number_of, expr_calls, sequence_calls, call_graph}
use Rattle.seq_check.specs.SetFaults.{SetFault, names_of, debugvars_scope, sequences_scope, FaultInSequences}
use Rattle.seq_check.specs.StepFaults.{StepFault, FaultInSteps}
use Rattle.seq_check.specs.Valid.{IsSound}
use Rattle.seq_check.specs.declared.calls.TextCall.{TextCall}
use Rattle.seq_check.specs.declared.faulty.Holder.TheVariants as holders
use Rattle.seq_check.specs.declared.step_calls.StepCall.{StepCall}
use Rattle.sequence_rules.specs.declared.bindings.Binding.{Binding}
use Rattle.sequence_rules.specs.Complete.{names_in}
use Rattle.sequence_rules.specs.Machine.{Machine, State, Out, with_locals}
use Rattle.sequence_rules.specs.Steps.{declared_names, given_back, sequence_result, steps_at, sequence_at, debug_result, run_of, steps_result}
use Rattle.sequence_rules.specs.Variables.{with_new, with_all_new}
use Rattle.sequence_rules.proofs.NameLemmas.{set_names, new_names}
use Rattle.code_check.proofs.Visible.{has_name-with}
use Rattle.sequence_meaning.proofs.Fine.{Fine, fine_bind, given_some, fine_weak, Has}
use Rattle.sequence_meaning.proofs.FineCalls.{LacksNothing}
use Rattle.sequence_meaning.proofs.FineValues.{Runs, fine_stored, fine_value}
use Rattle.sequence_meaning.proofs.FineSteps.{AreGoodCalls, own_steps, append_none, fine_steps}

-- ---- sequences by their names

index_in : (b : Bool) (n l : ℕ) → nat_lt n l ≡ b → n ≤ l → unwrap_or (cond b (Some n) None) l ≡ n
index_in true n l h k = refl
index_in false n l h k = grind arith

pos_within : (p : List ℕ → Bool) (xs : List (List ℕ)) → position_or_len p xs ≤ length xs
pos_within p [] = omega arith
pos_within p (x ∷ xs) = one (not (p x)) (pos_within p xs)
  where
    one : (b : Bool) → position_or_len p xs ≤ length xs → cond b (1 + position_or_len p xs) 0 ≤ suc (length xs)
    one true h = omega arith
    one false h = omega arith

number_is : (names : List (List ℕ)) (name : List ℕ) → number_of names name ≡ position_or_len (bytes_eq name) names
number_is names name = index_in _ _ _ refl (pos_within (bytes_eq name) names)

-- the steps of a name: they are found, they are those of its number, and they have no fault
record Found (names : List (List ℕ)) (sc : Scope) (sequences : List SequenceTrees) (name : List ℕ) : Type 0 where
  steps : CodeSteps
  named : steps_named name sequences ≡ Some steps
  number : position_or_len (bytes_eq name) (map (λ s. s.name) sequences) < length sequences
  calls : slice_index_or (map (λ (cs : List StepCall). map (λ x. x.callee) cs) (map (sequence_calls names) (map (λ s. s.steps) sequences))) (position_or_len (bytes_eq name) (map (λ s. s.name) sequences)) []
      ≡ map (λ x. x.callee) (sequence_calls names steps)
  sound : (g : StepFault) → FaultInSteps sc 0 0 steps g → ⊥

found_first : (names : List (List ℕ)) (sc : Scope) (s : SequenceTrees) (more : List SequenceTrees) (name : List ℕ) → bytes_eq name s.name ≡ true → ((g : StepFault) → FaultInSteps sc 0 0 s.steps g → ⊥) → Found names sc (s ∷ more) name
found_first names sc s more name e no' = record {
  steps = s.steps;
  named = rw e refl;
  number = rw e (omega arith);
  calls = rw e refl;
  sound = no';
}

later_item : {X : Type 0} (x : X) (xs : List X) (n k : ℕ) (d : X) → k ≡ suc n → slice_index_or (x ∷ xs) k d ≡ slice_index_or xs n d
later_item x xs n k d h = ap (λ j. slice_index_or (x ∷ xs) j d) h

later_place : (name x : List ℕ) (xs : List (List ℕ)) → bytes_eq name x ≡ false → position_or_len (bytes_eq name) (x ∷ xs) ≡ suc (position_or_len (bytes_eq name) xs)
later_place name x xs e =
    let next : 1 + position_or_len (bytes_eq name) xs ≡ suc (position_or_len (bytes_eq name) xs) = omega arith in
    ap (λ b. cond (not b) (1 + position_or_len (bytes_eq name) xs) 0) e ∙ next

found_later : (names : List (List ℕ)) (sc : Scope) (s : SequenceTrees) (more : List SequenceTrees) (name : List ℕ) → bytes_eq name s.name ≡ false → Found names sc more name → Found names sc (s ∷ more) name
found_later names sc s more name e h = record {
  steps = h.steps;
  named = rw e h.named;
  number = rw e (let k = h.number in omega arith);
  calls = later_item _ _ _ _ [] (later_place name s.name (map (λ x. x.name) more) e) ∙ h.calls;
  sound = h.sound;
}

find : (names : List (List ℕ)) (sc : Scope) (sequences : List SequenceTrees) (number : ℕ) (name : List ℕ) → has_name (map (λ s. s.name) sequences) name ≡ true
    → ((f : SetFault) → FaultInSequences sc number (map (λ s. s.steps) sequences) f → ⊥) → Found names sc sequences name
find names sc [] number name there no' = absurd cc
find names sc (s ∷ more) number name there no' = by (bytes_eq name s.name) refl there (λ h. find names sc more (suc number) name h (λ f x. no' f (first.there x)))
  where
    by : (b : Bool) → bytes_eq name s.name ≡ b → (b || has_name (map (λ x. x.name) more) name) ≡ true → (has_name (map (λ x. x.name) more) name ≡ true → Found names sc more name) → Found names sc (s ∷ more) name
    by true e h rest = found_first names sc s more name e (λ g x. no' (record { holder = holders.Sequence number; fault = g }) (first.here (record { holder_is = refl; holds = x })))
    by false e h rest = found_later names sc s more name e (rest h)

-- ---- chains

node_exists : (graph : List (List ℕ)) (v w : ℕ) → Contains (callees_of graph v) w → v < length graph
node_exists [] v w k = absurd (omega (arith, k.1))
node_exists (x ∷ xs) zero w k = omega arith
node_exists (x ∷ xs) (suc v) w k = let r = node_exists xs v w k in omega arith

longer : (graph : List (List ℕ)) (v w n : ℕ) → Contains (callees_of graph v) w → BeginsChain graph w n → BeginsChain graph v (suc n)
longer graph v w n k chain = record {
  others = w ∷ chain.others;
  is_chain = (record { callee = k; exists = chain_is_node graph w chain.others chain.is_chain }, chain.is_chain);
  size = let s = chain.size in omega arith;
}

place_at : (xs : List ℕ) (x k : ℕ) → k < length xs → slice_index_or xs k x ≡ x → slice_get xs k ≡ Some x
place_at [] x k lt is = absurd (omega arith)
place_at (y ∷ xs) x zero lt is = ap Some is
place_at (y ∷ xs) x (suc k) lt is = place_at xs x k (omega arith) is

place_of : (xs : List ℕ) (x : ℕ) → Contains xs x → (k : ℕ) × (slice_get xs k ≡ Some x)
place_of xs x k = (k.0, place_at xs x k.0 k.1 k.2)

-- ---- names of debug variables

keeps_with : (vs : List (List ℕ)) (x n : List ℕ) → has_name vs n ≡ true → has_name (with_name vs x) n ≡ true
keeps_with vs x n h = has_name-with vs x n ∙ ap (λ b. b || bytes_eq n x) h

has_with : (vs : List (List ℕ)) (x : List ℕ) → has_name (with_name vs x) x ≡ true
has_with vs x = has_name-with vs x x ∙ ap (λ b. has_name vs x || b) (text_itself x) ∙ or-true (has_name vs x)

keeps_after : (vs : List (List ℕ)) (st : StmtTree) (n : List ℕ) → has_name vs n ≡ true → has_name (names_after vs st) n ≡ true
keeps_after vs (t.Empty at) n h = h
keeps_after vs (t.Declare name e) n h = keeps_with vs name.text n h
keeps_after vs (t.Plain at e) n h = h

keeps_all : (vs : List (List ℕ)) (code : List StmtTree) (n : List ℕ) → has_name vs n ≡ true → has_name (names_after_all vs code) n ≡ true
keeps_all vs [] n h = h
keeps_all vs (st ∷ code) n h = keeps_all (names_after vs st) code n (keeps_after vs st n h)

-- the names of the variables that a run starts with
module _ {V : Type 0} where
  pub start_names : (bs : List (Binding V)) (code : List StmtTree) (v : V) → names_in (with_all_new bs (declared_names code) v) ≡ names_after_all (names_in bs) code
  start_names bs [] v = refl
  start_names bs (t.Empty at ∷ code) v = start_names bs code v
  start_names bs (t.Declare name e ∷ code) v = start_names (with_new bs name.text v) code v ∙ ap (λ ns. names_after_all ns code) (new_names bs name.text v)
  start_names bs (t.Plain at e ∷ code) v = start_names bs code v

-- ---- the debug variables call nothing

none_in_either : (xs ys : List TextCall) (x : TextCall) → (Contains xs x → ⊥) → (Contains ys x → ⊥) → Contains (xs ++ ys) x → ⊥
none_in_either xs ys x h k both = either (Contains-append_cases xs ys x both)
  where
    either : Contains xs x ⊎ Contains ys x → ⊥
    either (inl a) = h a
    either (inr b) = k b

none_in : (x : TextCall) → Contains [] x → ⊥
none_in x k = omega (arith, k.1)

module _ (names : List (List ℕ)) (sc : Scope) (debug : sc.in_debugvars ≡ true) where
  mutual
    no_calls : (e : Tree) → ((g : CodeFault) → ExprFault sc e g → ⊥) → (x : TextCall) → Contains (expr_calls names e) x → ⊥
    no_calls (t.Number n) no' x k = none_in x k
    no_calls (t.Named name) no' x k = none_in x k
    no_calls (t.Group a) no' x k = no_calls a no' x k
    no_calls (t.Unary op a) no' x k = no_calls a no' x k
    no_calls (t.Binary op a d) no' x k = none_in_either (expr_calls names a) (expr_calls names d) x (no_calls a (λ g h. no' g (first.here h)) x) (no_calls d (λ g h. no' g (first.there h)) x) k
    no_calls (t.Cond d a b) no' x k =
        none_in_either (expr_calls names d) (expr_calls names a ++ expr_calls names b) x (no_calls d (λ g h. no' g (first.here h)) x)
        (none_in_either (expr_calls names a) (expr_calls names b) x (no_calls a (λ g h. no' g (first.there (first.here h))) x) (no_calls b (λ g h. no' g (first.there (first.there h))) x)) k
    no_calls (t.Assign name a) no' x k = no_calls a (λ g h. no' g (first.there h)) x k
    no_calls (t.Call name args) no' x k = no' (record { place = name.at; kind = kinds.BadDebugvars }) (first.here (first.here (record { cause = debug; is = refl })))

-- ---- whole runs

module _ {V T : Type 0} (m : Machine V T) (safe : LacksNothing m) (turn_us : ℕ) (set : SetTrees) (sound : IsSound set) where
  abbrev S : Type 0
  S = State V T

  abbrev gs : List (List ℕ)
  gs = names_after_all names_of_predefined set.debugvars

  abbrev names : List (List ℕ)
  names = names_of set

  dp_there : has_name gs (codes "__dp") ≡ true
  dp_there = keeps_all names_of_predefined set.debugvars (codes "__dp") refl

  ap_there : has_name gs (codes "__ap") ≡ true
  ap_there = keeps_all names_of_predefined set.debugvars (codes "__ap") refl

  control_there : has_name gs (codes "__errorcontrol") ≡ true
  control_there = keeps_all names_of_predefined set.debugvars (codes "__errorcontrol") refl

  -- no chain of more than d sequences begins at the number
  abbrev Good : ℕ → ℕ → Type 0
  Good d n = BeginsChain (call_graph set) n (suc d) → ⊥

  found_in : (name : List ℕ) → has_name names name ≡ true → Found names (sequences_scope set) set.sequences name
  found_in name there = find names (sequences_scope set) set.sequences 0 name there (λ f x. sound.no_fault f (first.there x))

  -- the calls of a sequence are among those of its number
  call_at : (name : List ℕ) (found : Found names (sequences_scope set) set.sequences name) (call : StepCall) → Contains (sequence_calls names found.steps) call
      → Contains (callees_of (call_graph set) (number_of names name)) call.callee
  call_at name found call k =
      let at : callees_of (call_graph set) (number_of names name) ≡ map (λ x. x.callee) (sequence_calls names found.steps) = ap (λ n. callees_of (call_graph set) n) (number_is names name) ∙ found.calls in
      subst (λ xs. Contains xs call.callee) (sym at) (contains_map (λ (x : StepCall). x.callee) (sequence_calls names found.steps) call k)

  graph_length : (ss : List SequenceTrees) → length (map (λ (cs : List StepCall). map (λ x. x.callee) cs) (map (sequence_calls names) (map (λ s. s.steps) ss))) ≡ length ss
  graph_length [] = refl
  graph_length (s ∷ ss) = ap suc (graph_length ss)

  steps_fine : (d : ℕ) → ((name : List ℕ) → has_name names name ≡ true → Good d (number_of names name) → Runs gs (λ n q. sequence_at m turn_us set d n q) name)
      → (name : List ℕ) (found : Found names (sequences_scope set) set.sequences name) → AreGoodCalls (Good d) (sequence_calls names found.steps)
      → (s : S) → Has gs [] s → Fine (Has gs (own_steps [] found.steps)) (steps_result m turn_us (λ n q. sequence_at m turn_us set d n q) found.steps s)
  steps_fine d runs name found good s h =
      fine_steps m safe gs turn_us (λ n q. sequence_at m turn_us set d n q) names (Good d) runs dp_there ap_there control_there [] (sequences_scope set) (append_none gs) refl 0 0 [] found.steps found.sound good s h

  back_names : (before now : List (Binding V)) → names_in (given_back m before now) ≡ names_in now
  back_names before now = set_names _ _ _ ∙ set_names _ _ _ ∙ set_names _ _ _

  entered_fine : (ls ks : List (List ℕ)) (body : S → Out V T (Unit {0})) → ((s : S) → Has gs [] s → Fine (Has gs ks) (body s)) → (s : S) → Has gs ls s → Fine (Has gs ls) (sequence_result m body s)
  unfolding sequence_result
  entered_fine ls ks body k s h =
      fine_bind (Has gs ks) (Has gs ls) (body (with_locals s [])) _ (k _ (record { globals = h.globals; locals = refl })) (λ x p.
      record { globals = back_names s.globals x.1.globals ∙ p.globals; locals = h.locals })

  body_fine : (d : ℕ) (name : List ℕ) (found : Found names (sequences_scope set) set.sequences name)
      → ((s : S) → Has gs [] s → Fine (Has gs (own_steps [] found.steps)) (steps_result m turn_us (λ n q. sequence_at m turn_us set d n q) found.steps s))
      → (s : S) → Has gs [] s → Fine (Has gs (own_steps [] found.steps)) (steps_at m turn_us set name s >>= λ x. steps_result m turn_us (λ n q. sequence_at m turn_us set d n q) x.0 x.1)
  unfolding steps_at
  body_fine d name found k s h = rw (given_some m c.NoSteps (steps_named name set.sequences) found.steps s found.named) (k s h)

  deep : (d : ℕ) (name : List ℕ) → has_name names name ≡ true → Good d (number_of names name) → Runs gs (λ n q. sequence_at m turn_us set d n q) name
  unfolding sequence_at
  deep zero name there good ls s h =
      let found = found_in name there in
      let within : number_of names name < length (call_graph set) = rw (number_is names name) (omega (arith, graph_length set.sequences, found.number)) in
      absurd (good (record { others = []; is_chain = within; size = refl }))
  deep (suc d) name there good ls s h =
      let found = found_in name there in
      entered_fine ls (own_steps [] found.steps) _
      (body_fine d name found (steps_fine d (λ n k g. deep d n k g) name found
      (λ call k chain. good (longer (call_graph set) (number_of names name) call.callee (suc d) (call_at name found call k) chain)))) s h

  -- ---- the debug variables

  debug_fine : (sc : Scope) (code : List StmtTree) → sc.in_debugvars ≡ true → names_after_all sc.visible code ≡ gs → ((g : CodeFault) → BlockFault sc code g → ⊥)
      → (s : S) → Has gs [] s → Fine (Has gs []) (debug_result m turn_us set code s)
  unfolding debug_result
  debug_fine sc [] debug same no' s h = h
  debug_fine sc (t.Empty at ∷ code) debug same no' s h = debug_fine (seeing sc sc.visible) code debug same (λ g x. no' g (first.there x)) s h
  debug_fine sc (t.Declare name e ∷ code) debug same no' s h =
      let sees : (n : List ℕ) → has_name sc.visible n ≡ true → has_name gs n ≡ true = λ n k. subst (λ vs. has_name vs n ≡ true) same (keeps_all (with_name sc.visible name.text) code n (keeps_with sc.visible name.text n k)) in
      let own : has_name gs name.text ≡ true = subst (λ vs. has_name vs name.text ≡ true) same (keeps_all (with_name sc.visible name.text) code name.text (has_with sc.visible name.text)) in
      let bad : (g : CodeFault) → ExprFault sc e g → ⊥ = λ g x. no' g (first.here (first.there x)) in
      fine_bind (Has gs []) (Has gs []) _ _
      (fine_value m safe gs [] sc (λ n q. sequence_at m turn_us set 0 n q) sees sc.sequences refl (λ n. ⊥) (λ n k g. absurd g) dp_there ap_there control_there e bad (λ x k. no_calls sc.sequences sc debug e bad x k) s h)
      (λ x p. fine_bind (Has gs []) (Has gs []) _ _ (fine_stored m safe gs [] sc (λ n q. sequence_at m turn_us set 0 n q) sees name x.0 x.1 own p)
      (λ y q. debug_fine (seeing sc (with_name sc.visible name.text)) code debug same (λ g z. no' g (first.there z)) y.1 q))
  debug_fine sc (t.Plain at e ∷ code) debug same no' s h = debug_fine (seeing sc sc.visible) code debug same (λ g x. no' g (first.there x)) s h

  -- ---- the run

  pub run_fine : (start : List ℕ) → has_name names start ≡ true → (s : S) → Has gs [] s → Fine (λ r. Unit {0}) (run_of m turn_us set start s)
  unfolding run_of
  run_fine start there s h =
      let found = found_in start there in
      let bad : (g : CodeFault) → BlockFault (debugvars_scope set) set.debugvars g → ⊥ = λ g x. sound.no_fault (record { holder = holders.Debugvars; fault = record { path = []; part = parts.Debugvars; fault = g } })
      (first.here (record { holder_is = refl; holds = record { own = refl; part_is = refl; holds = x } })) in
      let shallow : AreGoodCalls (Good 31) (sequence_calls names found.steps) = λ call k chain.
      let at = place_of (callees_of (call_graph set) (number_of names start)) call.callee (call_at start found call k) in
      sound.calls.none_deep (record { node = number_of names start; call = at.0 }) (record { callee = call.callee; is_call = at.1; chain = chain }) in
      fine_bind (Has gs []) (λ r. Unit {0}) (debug_result m turn_us set set.debugvars s) _ (debug_fine (debugvars_scope set) set.debugvars refl refl bad s h) (λ x p.
      fine_weak (Has gs (own_steps [] found.steps)) (λ r. Unit {0}) _ (body_fine 31 start found (steps_fine 31 (λ n k g. deep 31 n k g) start found shallow) x.1 p) (λ r q. tt))
