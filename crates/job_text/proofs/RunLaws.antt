-- Reading settings gives exactly the settings that the value stands for.
use Rattle.std.proofs.Common.{◌≡◌, ℕ, ◌-◌, ◌^◌, codes, List, [], ◌∷◌, ◌++◌, Ok, refl, ap, sym, subst, ◌∙◌, append_assoc}
use Rattle.dap_base.proofs.Basics.{same_Ok}
use Rattle.std.proofs.lemmas.List.{append-nil}
use Rattle.serde_json.specs.Data.{Data}
use Rattle.json_form.specs.Reading.{number, or_else}
use Rattle.json_form.specs.Form.{IsNumber, HasOr}
use Rattle.json_form.proofs.ReadingLaws.{Reads, done, bind_ok}
use Rattle.json_form.proofs.LeafLaws.{number_reads}
use Rattle.json_form.proofs.ObjectLaws.{only_keys_sound, only_keys_complete, or_else_reads}
use Rattle.function_table.specs.Variables.{names_of_predefined}
use Rattle.target_machine.specs.declared.unit.Variable.{Variable}
use Rattle.job_text.specs.RunReading.{with_value, variable_in, values_after, variables_in, zeros, run_in}
use Rattle.job_text.specs.RunForm.{HasValues, AreVariables, IsRun}

value_reads : (name : List ℕ) → Reads (or_else name (number 0 (2 ^ 64 - 1)) 0) (HasOr name (IsNumber 0 (2 ^ 64 - 1)) 0)
value_reads name = or_else_reads name _ _ 0 (number_reads 0 (2 ^ 64 - 1))

abbrev IsVariable : List ℕ → Data → Variable → Type 0
IsVariable name d x = (value : ℕ) × (with_value value name ≡ x) × HasOr name (IsNumber 0 (2 ^ 64 - 1)) 0 d value

variable_sound : (name : List ℕ) (d : Data) (x : Variable) → variable_in name d ≡ Ok x → IsVariable name d x
unfolding variable_in
variable_sound name d x e = (let a = bind_ok _ _ x e in (a.0, same_Ok _ x a.2, (value_reads name).sound d a.0 a.1))

variable_complete : (name : List ℕ) (d : Data) (value : ℕ) → HasOr name (IsNumber 0 (2 ^ 64 - 1)) 0 d value → variable_in name d ≡ Ok (with_value value name)
unfolding variable_in
variable_complete name d value h = rw ((value_reads name).complete d value h) refl

-- the variables after the earlier ones
abbrev After : List Variable → List (List ℕ) → Data → List Variable → Type 0
After earlier names d variables = (more : List Variable) × (variables ≡ earlier ++ more) × HasValues names d more

no_more : (earlier variables : List Variable) → done earlier ≡ Ok variables → variables ≡ earlier ++ []
no_more earlier variables e = rw append-nil (sym (same_Ok earlier variables e))

values_sound : (earlier : List Variable) (names : List (List ℕ)) (d : Data) (variables : List Variable) → values_after earlier names d ≡ Ok variables → After earlier names d variables
unfolding values_after
values_sound earlier [] d variables e = ([], no_more earlier variables e, refl)
values_sound earlier (name ∷ names) d variables e =
    let a = bind_ok (variable_in name d) (λ x. values_after (earlier ++ x ∷ []) names d) variables e in
    let here = variable_sound name d a.0 a.1 in
    let rest = values_sound (earlier ++ a.0 ∷ []) names d variables a.2 in
    (a.0 ∷ rest.0, rest.1 ∙ append_assoc earlier (a.0 ∷ []) rest.0, (here.0, rest.0, ap (λ x. x ∷ rest.0) (sym here.1), here.2, rest.2))

values_complete : (earlier : List Variable) (names : List (List ℕ)) (d : Data) (more : List Variable) → HasValues names d more → values_after earlier names d ≡ Ok (earlier ++ more)
unfolding values_after
values_complete earlier [] d more h = rw (h, append-nil) refl
values_complete earlier (name ∷ names) d more h =
    rw (variable_complete name d h.0 h.3)
    (values_complete (earlier ++ with_value h.0 name ∷ []) names d h.1 h.4
    ∙ ap (λ xs. done xs) (append_assoc earlier (with_value h.0 name ∷ []) h.1 ∙ ap (λ xs. earlier ++ xs) (sym h.2)))

pub variables_reads : Reads variables_in AreVariables
unfolding variables_in
variables_reads = record {
  sound = λ d x e. (
      let a = bind_ok _ _ x e in
      let b = values_sound [] names_of_predefined d x a.2 in
      record { known = only_keys_sound _ d a.0 a.1; values = subst (HasValues names_of_predefined d) (sym b.1) b.2 });
  complete = λ d x p. rw (only_keys_complete _ d p.known) (values_complete [] names_of_predefined d x p.values);
}

pub run_reads : Reads run_in IsRun
unfolding run_in
run_reads =
    let turn = or_else_reads (codes "turn_us") _ _ 10 (number_reads 1 60000000) in
    let retry = or_else_reads (codes "retry") _ _ 100 (number_reads 0 65535) in
    let idle = or_else_reads (codes "idle") _ _ 0 (number_reads 0 255) in
    let start = or_else_reads (codes "variables") _ _ zeros variables_reads in
    record {
      sound = λ d x e. (
          let a = bind_ok _ _ x e in
          let t = bind_ok _ _ x a.2 in
          let r = bind_ok _ _ x t.2 in
          let i = bind_ok _ _ x r.2 in
          let s = bind_ok _ _ x i.2 in
          subst (IsRun d) (same_Ok _ x s.2) (record {
            known = only_keys_sound _ d a.0 a.1;
            turn_us = turn.sound d t.0 t.1;
            retry = retry.sound d r.0 r.1;
            idle = idle.sound d i.0 i.1;
            start = start.sound d s.0 s.1;
          }));
      complete = λ d x p. rw (
        only_keys_complete _ d p.known,
        turn.complete d x.turn_us p.turn_us,
        retry.complete d x.retry p.retry,
        idle.complete d x.idle p.idle,
        start.complete d x.start p.start,
      ) refl;
    }
