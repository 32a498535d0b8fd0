-- How a call goes that is made by what is issued for it, against the call alone and at once.
use Rattle.std.proofs.Common.{◌≡◌, ◌∙◌, ℕ, Bool, ◌&&◌, List, [], ◌∷◌, ◌++◌, append_assoc, refl, sym, ap, subst}
use Rattle.target_machine.specs.Plain.{Action, Commands, Makes, action_attempt, forgives, CallDone, CallEnd}
use Rattle.target_machine.specs.State.{TargetState}
use Rattle.target_machine.specs.declared.access.RegAccess.{RegAccess}
use Rattle.target_machine.specs.declared.unit.Call.{Call}
use Rattle.access_regs.specs.Journal.{Issue, Step, actions_of, steps_of, making, before}
use Rattle.access_regs.specs.Course.{Course, IsPassing, answered, stopped, small, skipped}
use Rattle.access_regs.specs.Follows.{Follows}
use Rattle.target_machine.proofs.ActionLists.{after_append, pass_append, pass_after}
use Rattle.target_calls.specs.Journal.{settles}
use Rattle.target_calls.specs.declared.journal.Part.TheVariants.{Ends, Skips}
use Rattle.target_calls.specs.declared.journal.Part.{Part}
use Rattle.target_machine.specs.Lists.{after, PassTo}

pub pass_passing : (u v : TargetState) (steps more : List Step) → PassTo u (actions_of steps) v → IsPassing v more → IsPassing u (steps ++ more)
pass_passing u v [] more h k = subst (λ (s : TargetState). IsPassing s more) h k
pass_passing u v (s ∷ steps) more h k = (ap (λ (b : Bool). b && settles s.part) h.0, pass_passing (action_attempt u s.action).next v steps more h.1 k)

pub actions_append : (xs ys : List Step) → actions_of (xs ++ ys) ≡ actions_of xs ++ actions_of ys
actions_append [] ys = refl
actions_append (x ∷ xs) ys = ap (λ (l : List Action). x.action ∷ l) (actions_append xs ys)

pub actions_steps : (part : Part) (xs : List RegAccess) → actions_of (steps_of part xs) ≡ making xs
actions_steps part [] = refl
actions_steps part (x ∷ xs) = ap (λ (l : List Action). Makes x ∷ l) (actions_steps part xs)

pub steps_append : (part : Part) (xs ys : List RegAccess) → steps_of part (xs ++ ys) ≡ steps_of part xs ++ steps_of part ys
steps_append part [] ys = refl
steps_append part (x ∷ xs) ys = ap (λ (l : List Step). record { part = part; action = Makes x } ∷ l) (steps_append part xs ys)

module _ (i : Issue) (d : CallDone) (call : Call) (u v : TargetState) (first : List Step) (h : PassTo u (actions_of first) v) where
  pass_first : (steps : List Step) (w : TargetState) → PassTo v (actions_of steps) w → PassTo u (actions_of (first ++ steps)) w
  pass_first steps w c = subst (λ (l : List Action). PassTo u l w) (sym (actions_append first steps)) (pass_append u v w (actions_of first) (actions_of steps) h c)

  -- steps before it that do not fault
  pub course_before : Course i d call v → Course (before first i) d call u
  course_before (answered a) = answered (record {
    leads = first ++ a.leads;
    action = a.action;
    at = a.at;
    steps = ap (λ (l : List Step). first ++ l) a.steps ∙ sym (append_assoc first a.leads (record { part = Ends; action = a.action } ∷ []));
    pass = pass_first a.leads a.at a.pass;
    good = a.good;
    end = a.end;
    follows = a.follows;
  })
  course_before (stopped a) = stopped (record {
    leads = first ++ a.leads;
    step = a.step;
    more = a.more;
    at = a.at;
    steps = ap (λ (l : List Step). first ++ l) a.steps ∙ sym (append_assoc first a.leads (a.step ∷ a.more));
    own = a.own;
    pass = pass_first a.leads a.at a.pass;
    bad = a.bad;
    end = a.end;
    words = a.words;
  })
  course_before (small a) = small (record { at = a.at; pass = pass_first i.steps a.at a.pass; end = a.end; follows = a.follows })
  course_before (skipped a) = skipped (record {
    leads = first ++ a.leads;
    step = a.step;
    early = a.early;
    at = a.at;
    steps = ap (λ (l : List Step). first ++ l) a.steps ∙ sym (append_assoc first a.leads (a.step ∷ record { part = Skips a.early; action = Commands forgives } ∷ []));
    own = a.own;
    pass = pass_first a.leads a.at a.pass;
    bad = a.bad;
    end = a.end;
    passes = pass_passing u v first i.steps h a.passes;
    follows =
        subst (λ (s : TargetState). Follows i.kept d.large d.next s)
        (sym (ap (after u) (actions_append first i.steps) ∙ after_append u (actions_of first) (actions_of i.steps) ∙ ap (λ (s : TargetState). after s (actions_of i.steps)) (pass_after u v (actions_of first) h)))
        a.follows;
  })

-- a call that comes to the same
pub course_like : (i : Issue) (d e : CallDone) (call : Call) (u : TargetState) → e.end ≡ d.end → e.next ≡ d.next → e.large ≡ d.large → Course i d call u → Course i e call u
course_like i d e call u end next large c =
    let P : CallEnd → TargetState → List ℕ → Type 0 = λ x y z. Course i (record { end = x; next = y; large = z; actions = e.actions }) call u in
    subst (λ (x : CallEnd). P x e.next e.large) (sym end) (subst (λ (y : TargetState). P d.end y e.large) (sym next) (subst (λ (z : List ℕ). P d.end d.next z) (sym large) (other_actions c)))
  where
    other_actions : Course i d call u → Course i (record { end = d.end; next = d.next; large = d.large; actions = e.actions }) call u
    other_actions (answered a) = answered (record { leads = a.leads; action = a.action; at = a.at; steps = a.steps; pass = a.pass; good = a.good; end = a.end; follows = a.follows })
    other_actions (stopped a) = stopped (record { leads = a.leads; step = a.step; more = a.more; at = a.at; steps = a.steps; own = a.own; pass = a.pass; bad = a.bad; end = a.end; words = a.words })
    other_actions (small a) = small (record { at = a.at; pass = a.pass; end = a.end; follows = a.follows })
    other_actions (skipped a) = skipped (record { leads = a.leads; step = a.step; early = a.early; at = a.at; steps = a.steps; own = a.own; pass = a.pass; bad = a.bad; end = a.end; passes = a.passes; follows = a.follows })
