-- The names that steps add stand after those from before.
use Rattle.std.proofs.Common.{◌≡◌, ◌∙◌, sym, ap, ℕ, Bool, true, false, cond, List, [], ◌∷◌, ◌++◌, length, take, append_assoc, refl, Option, Some, None, IfNone}
use Rattle.std.proofs.lemmas.List.{append-nil}
use Rattle.std.proofs.Math.Seq.{take-append_seam}
use Rattle.expr_grammar.specs.Tree.{StmtTree, Empty, Declare, Plain}
use Rattle.sequence_trees.specs.Trees.{CodeStep, Block, Control, CodeSteps, NoSteps, MoreSteps}
use Rattle.expr_grammar.specs.Names.{has_name}
use Rattle.code_check.specs.BlockFaults.{names_after, names_after_all}
use Rattle.seq_check.specs.declared.faulty.FaultyStep.{FaultyStep}
use Rattle.seq_check.specs.StepFaults.{names_after_step, names_after_steps}

-- the second list begins with the first
record Begins (names more : List (List ℕ)) : Type 0 where
  rest : List (List ℕ)
  parts : more ≡ names ++ rest

same : (names : List (List ℕ)) → Begins names names
same names = record { rest = []; parts = sym (append-nil names) }

onwards : (a b c : List (List ℕ)) → Begins a b → Begins b c → Begins a c
onwards a b c h k = record { rest = h.rest ++ k.rest; parts = k.parts ∙ ap (λ x. x ++ k.rest) h.parts ∙ append_assoc a h.rest k.rest }

with_at : (names : List (List ℕ)) (name : List ℕ) (b : Bool) → Begins names (cond b names (names ++ name ∷ []))
with_at names name true = same names
with_at names name false = record { rest = name ∷ []; parts = refl }

after : (names : List (List ℕ)) (st : StmtTree) → Begins names (names_after names st)
after names (Empty at) = same names
after names (Declare name value) = with_at names name.text (has_name names name.text)
after names (Plain at e) = same names

after_all : (names : List (List ℕ)) (code : List StmtTree) → Begins names (names_after_all names code)
after_all names [] = same names
after_all names (st ∷ code) = onwards names (names_after names st) (names_after_all (names_after names st) code) (after names st) (after_all (names_after names st) code)

after_step : (names : List (List ℕ)) (step : CodeStep) → Begins names (names_after_step names step)
after_step names (Block code) = after_all names code
after_step names (Control cond repeat timeout steps) = same names

after_steps : (names : List (List ℕ)) (steps : CodeSteps) → Begins names (names_after_steps names steps)
after_steps names NoSteps = same names
after_steps names (MoreSteps step more) =
    onwards names (names_after_step names step) (names_after_steps (names_after_step names step) more) (after_step names step) (after_steps (names_after_step names step) more)

cut : (names more : List (List ℕ)) → Begins names more → take (length names) more ≡ names
cut names more h = ap (take (length names)) h.parts ∙ take-append_seam names h.rest

-- cut back to their number, the names after steps are those from before
pub take-names_after_steps : (names : List (List ℕ)) (steps : CodeSteps) → take (length names) (names_after_steps names steps) ≡ names
take-names_after_steps names steps = cut names (names_after_steps names steps) (after_steps names steps)

pub cut_answer : (o : Option FaultyStep) (names more new : List (List ℕ)) (n : ℕ) (steps : CodeSteps) → new ≡ take n more → n ≡ length names
    → IfNone o (more ≡ names_after_steps names steps) → IfNone o (new ≡ names)
cut_answer None names more new n steps e is h = rw (e, is, h) (take-names_after_steps names steps)
cut_answer (Some f) names more new n steps e is h = tt
