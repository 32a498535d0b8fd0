-- Reading a pack names a fault of the value: it never gives that memory was refused.
use Rattle.std.proofs.Common.{◌-◌, ◌^◌, codes, false, [], ◌∷◌, Option, Some, None, is_some, Result, Err, Ordering, Less, Equal, Greater, nat_cmp}
use Rattle.std.specs.Prelude.{IfSome}
use Rattle.std.specs.Ordering.{match_ordering}
use Rattle.std.specs.Cmp.Lexicographic.{slice_cmp}
use Rattle.serde_json.specs.Data.{Data, null, boolean, number, string, array, object, Items, no_items, item, Members, no_members, member}
use Rattle.serde_json.specs.Find.{get}
use Rattle.json_form.specs.declared.fault.JobFault.{JobFault}
use Rattle.json_form.specs.declared.path.PathStep.TheVariants.{Key, Index}
use Rattle.json_form.specs.Faults.{at, IsDecided}
use Rattle.json_form.specs.Reading.{text, flag, number as number_in, alone, never, repeats_by}
use Rattle.json_form.proofs.FaultLaws.{bind_decided, at_decided, cond_decided, text_decided, flag_decided, number_decided, only_keys_decided, required_decided, optional_decided, or_else_decided, list_decided}
use Rattle.device_tree.specs.Same.{same_sequence, same_variant}
use Rattle.device_tree.specs.StepTree.{StepTree, no_steps}
use Rattle.device_tree.specs.StepsView.{then_step, tree_len}
use Rattle.device_tree.specs.StepsReading.{block_step, inner_steps, control_after, control_step, step_with, steps_in, items_in, step_in, control_in}
use Rattle.device_tree.specs.PackReading.{sequence_in, level_in, defaults_in, variant_in, device_in, sub_family_in, family_in, pack_in}

-- ---- steps

block_decided : (d : Data) → IsDecided (block_step d)
unfolding block_step
block_decided d =
    bind_decided _ _ (only_keys_decided _ d) (λ known. bind_decided _ _ (required_decided _ _ text_decided d) (λ code.
    bind_decided _ _ (or_else_decided _ _ _ flag_decided d) (λ atomic. bind_decided _ _ (optional_decided _ _ text_decided d) (λ info. tt))))

inner_decided : (o : Option (Result StepTree JobFault)) → IfSome o IsDecided → IsDecided (inner_steps o)
inner_decided None h = tt
inner_decided (Some r) h = at_decided (Key (codes "control")) r h

after_decided : (steps : StepTree) (d : Data) → IsDecided (control_after steps d)
unfolding control_after
after_decided steps d =
    bind_decided _ _ (optional_decided _ _ text_decided d) (λ cond. bind_decided _ _ (optional_decided _ _ text_decided d) (λ repeat.
    bind_decided _ _ (optional_decided _ _ (number_decided 0 (2 ^ 64 - 1)) d) (λ timeout. bind_decided _ _ (optional_decided _ _ text_decided d) (λ info. tt))))

control_decided : (inner : Option (Result StepTree JobFault)) (d : Data) → IfSome inner IsDecided → IsDecided (control_step inner d)
unfolding control_step
control_decided inner d h =
    bind_decided _ _ (only_keys_decided _ d) (λ known. bind_decided _ _ (inner_decided inner h) (λ steps. after_decided steps d))

step_with_decided : (inner : Option (Result StepTree JobFault)) (d : Data) → IfSome inner IsDecided → IsDecided (step_with inner d)
unfolding step_with
step_with_decided inner d h = cond_decided (is_some (get (codes "block") d)) _ _ (block_decided d) (control_decided inner d h)

found_decided : (o : Ordering) (found : Option (Result StepTree JobFault)) (r : Result StepTree JobFault) → IfSome found IsDecided → IsDecided r → IfSome (match_ordering o found (Some r) found) IsDecided
found_decided Less found r later here = later
found_decided Equal found r later here = here
found_decided Greater found r later here = later

mutual
  unfolding steps_in items_in step_in control_in

  pub steps_decided : (d : Data) → IsDecided (steps_in d)
  steps_decided null = tt
  steps_decided (boolean b) = tt
  steps_decided (number n) = tt
  steps_decided (string s) = tt
  steps_decided (array ds) = items_decided no_steps ds
  steps_decided (object ms) = tt

  items_decided : (earlier : StepTree) (ds : Items) → IsDecided (items_in earlier ds)
  items_decided earlier no_items = tt
  items_decided earlier (item d ds) =
      bind_decided (at (Index (tree_len earlier)) (step_in d)) _ (at_decided (Index (tree_len earlier)) (step_in d) (step_decided d)) (λ s. items_decided (then_step earlier s) ds)

  step_decided : (d : Data) → IsDecided (step_in d)
  step_decided null = tt
  step_decided (boolean b) = tt
  step_decided (number n) = tt
  step_decided (string s) = tt
  step_decided (array ds) = tt
  step_decided (object ms) = step_with_decided (control_in ms) (object ms) (members_decided ms)

  members_decided : (ms : Members) → IfSome (control_in ms) IsDecided
  members_decided no_members = tt
  members_decided (member k d ms) = found_decided (slice_cmp nat_cmp (codes "control") k) (control_in ms) (steps_in d) (members_decided ms) (steps_decided d)

-- ---- levels

sequence_decided : (d : Data) → IsDecided (sequence_in d)
unfolding sequence_in
sequence_decided d =
    bind_decided _ _ (only_keys_decided _ d) (λ known. bind_decided _ _ (required_decided _ _ text_decided d) (λ name.
    bind_decided _ _ (optional_decided _ _ text_decided d) (λ pname. bind_decided _ _ (or_else_decided _ _ _ flag_decided d) (λ disable.
    bind_decided _ _ (optional_decided _ _ text_decided d) (λ info. bind_decided _ _ (required_decided _ _ steps_decided d) (λ steps. tt))))))

level_decided : (d : Data) → IsDecided (level_in d)
unfolding level_in
level_decided d =
    bind_decided _ _ (optional_decided _ _ text_decided d) (λ debugvars.
    bind_decided _ _ (or_else_decided _ _ _ (list_decided None _ (repeats_by same_sequence) (λ earlier. sequence_decided)) d) (λ sequences. tt))

defaults_decided : (d : Data) → IsDecided (defaults_in d)
unfolding defaults_in
defaults_decided d = bind_decided _ _ (only_keys_decided _ d) (λ known. level_decided d)

variant_decided : (d : Data) → IsDecided (variant_in d)
unfolding variant_in
variant_decided d =
    bind_decided _ _ (only_keys_decided _ d) (λ known. bind_decided _ _ (required_decided _ _ text_decided d) (λ name. bind_decided _ _ (level_decided d) (λ own. tt)))

device_decided : (d : Data) → IsDecided (device_in d)
unfolding device_in
device_decided d =
    bind_decided _ _ (only_keys_decided _ d) (λ known. bind_decided _ _ (required_decided _ _ text_decided d) (λ name. bind_decided _ _ (level_decided d) (λ own.
    bind_decided _ _ (or_else_decided _ _ _ (list_decided None _ (repeats_by same_variant) (λ earlier. variant_decided)) d) (λ variants. tt))))

sub_family_decided : (d : Data) → IsDecided (sub_family_in d)
unfolding sub_family_in
sub_family_decided d =
    bind_decided _ _ (only_keys_decided _ d) (λ known. bind_decided _ _ (required_decided _ _ text_decided d) (λ name. bind_decided _ _ (level_decided d) (λ own.
    bind_decided _ _ (or_else_decided _ _ _ (list_decided None _ never (λ earlier. device_decided)) d) (λ devices. tt))))

family_decided : (d : Data) → IsDecided (family_in d)
unfolding family_in
family_decided d =
    bind_decided _ _ (only_keys_decided _ d) (λ known. bind_decided _ _ (required_decided _ _ text_decided d) (λ name. bind_decided _ _ (level_decided d) (λ own.
    bind_decided _ _ (or_else_decided _ _ _ (list_decided None _ never (λ earlier. sub_family_decided)) d) (λ subs.
    bind_decided _ _ (or_else_decided _ _ _ (list_decided None _ never (λ earlier. device_decided)) d) (λ devices. tt)))))

pub pack_decided : (d : Data) → IsDecided (pack_in d)
unfolding pack_in
pack_decided d =
    bind_decided _ _ (only_keys_decided _ d) (λ known. bind_decided _ _ (optional_decided _ _ defaults_decided d) (λ top.
    bind_decided _ _ (required_decided _ _ (list_decided None _ never (λ earlier. family_decided)) d) (λ families. tt)))
