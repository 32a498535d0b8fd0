-- Reading a pack gives exactly the pack that the value stands for.
use Rattle.std.proofs.Common.{codes, [], None, refl, subst}
use Rattle.dap_base.proofs.Basics.{same_Ok}
use Rattle.json_form.specs.declared.path.PathStep.TheVariants.{Key}
use Rattle.json_form.specs.Faults.{at}
use Rattle.json_form.specs.Reading.{never, repeats_by}
use Rattle.json_form.proofs.ReadingLaws.{Reads, bind_ok, at_reads}
use Rattle.json_form.proofs.LeafLaws.{text_reads, flag_reads}
use Rattle.json_form.proofs.ObjectLaws.{only_keys_sound, only_keys_complete, required_reads, or_else_reads, optional_reads}
use Rattle.json_form.proofs.ListLaws.{list_reads, alone_reads}
use Rattle.device_tree.specs.Same.{same_sequence, same_variant}
use Rattle.device_tree.specs.PackReading.{sequence_in, level_in, defaults_in, variant_in, device_in, sub_family_in, family_in, pack_in}
use Rattle.device_tree.specs.PackForm.{IsSequence, HasLevel, IsDefaults, IsVariant, IsDevice, IsSubFamily, IsFamily, IsPack}
use Rattle.device_tree.proofs.StepsLaws.{steps_reads}

sequence_reads : Reads sequence_in IsSequence
unfolding sequence_in
sequence_reads = record {
  sound = λ d x e. (
      let a = bind_ok _ _ x e in
      let name = bind_ok _ _ x a.2 in
      let pname = bind_ok _ _ x name.2 in
      let disable = bind_ok _ _ x pname.2 in
      let info = bind_ok _ _ x disable.2 in
      let steps = bind_ok _ _ x info.2 in
      subst (IsSequence d) (same_Ok _ x steps.2) (record {
        known = only_keys_sound _ d a.0 a.1;
        name = (required_reads _ _ _ text_reads).sound d name.0 name.1;
        pname = (optional_reads _ _ _ text_reads).sound d pname.0 pname.1;
        disable = (or_else_reads _ _ _ _ flag_reads).sound d disable.0 disable.1;
        info = (info.0, (optional_reads _ _ _ text_reads).sound d info.0 info.1);
        steps = (required_reads _ _ _ steps_reads).sound d steps.0 steps.1;
      }));
  complete = λ d x p. rw (
    only_keys_complete _ d p.known,
    (required_reads _ _ _ text_reads).complete d x.name p.name,
    (optional_reads _ _ _ text_reads).complete d x.pname p.pname,
    (or_else_reads _ _ _ _ flag_reads).complete d x.disable p.disable,
    (optional_reads _ _ _ text_reads).complete d p.info.0 p.info.1,
    (required_reads _ _ _ steps_reads).complete d x.steps p.steps,
  ) refl;
}

level_reads : Reads level_in HasLevel
unfolding level_in
level_reads =
    let sequences = or_else_reads (codes "sequences") _ _ [] (list_reads None _ _ (repeats_by same_sequence) (alone_reads _ _ sequence_reads)) in
    record {
      sound = λ d x e. (
          let a = bind_ok _ _ x e in
          let b = bind_ok _ _ x a.2 in
          subst (HasLevel d) (same_Ok _ x b.2) (record {
            debugvars = (optional_reads _ _ _ text_reads).sound d a.0 a.1;
            sequences = sequences.sound d b.0 b.1;
          }));
      complete = λ d x p. rw ((optional_reads _ _ _ text_reads).complete d x.debugvars p.debugvars, sequences.complete d x.sequences p.sequences) refl;
    }

defaults_reads : Reads defaults_in IsDefaults
unfolding defaults_in
defaults_reads = record {
  sound = λ d x e. (let a = bind_ok _ _ x e in record { known = only_keys_sound _ d a.0 a.1; level = level_reads.sound d x a.2 });
  complete = λ d x p. rw (only_keys_complete _ d p.known) (level_reads.complete d x p.level);
}

variant_reads : Reads variant_in IsVariant
unfolding variant_in
variant_reads = record {
  sound = λ d x e. (
      let a = bind_ok _ _ x e in
      let b = bind_ok _ _ x a.2 in
      let c = bind_ok _ _ x b.2 in
      subst (IsVariant d) (same_Ok _ x c.2) (record {
        known = only_keys_sound _ d a.0 a.1;
        name = (required_reads _ _ _ text_reads).sound d b.0 b.1;
        level = level_reads.sound d c.0 c.1;
      }));
  complete = λ d x p. rw (
    only_keys_complete _ d p.known,
    (required_reads _ _ _ text_reads).complete d x.name p.name,
    level_reads.complete d x.level p.level,
  ) refl;
}

device_reads : Reads device_in IsDevice
unfolding device_in
device_reads =
    let variants = or_else_reads (codes "variants") _ _ [] (list_reads None _ _ (repeats_by same_variant) (alone_reads _ _ variant_reads)) in
    record {
      sound = λ d x e. (
          let a = bind_ok _ _ x e in
          let b = bind_ok _ _ x a.2 in
          let c = bind_ok _ _ x b.2 in
          let v = bind_ok _ _ x c.2 in
          subst (IsDevice d) (same_Ok _ x v.2) (record {
            known = only_keys_sound _ d a.0 a.1;
            name = (required_reads _ _ _ text_reads).sound d b.0 b.1;
            level = level_reads.sound d c.0 c.1;
            variants = variants.sound d v.0 v.1;
          }));
      complete = λ d x p. rw (
        only_keys_complete _ d p.known,
        (required_reads _ _ _ text_reads).complete d x.name p.name,
        level_reads.complete d x.level p.level,
        variants.complete d x.variants p.variants,
      ) refl;
    }

sub_family_reads : Reads sub_family_in IsSubFamily
unfolding sub_family_in
sub_family_reads =
    let devices = or_else_reads (codes "devices") _ _ [] (list_reads None _ _ never (alone_reads _ _ device_reads)) in
    record {
      sound = λ d x e. (
          let a = bind_ok _ _ x e in
          let b = bind_ok _ _ x a.2 in
          let c = bind_ok _ _ x b.2 in
          let v = bind_ok _ _ x c.2 in
          subst (IsSubFamily d) (same_Ok _ x v.2) (record {
            known = only_keys_sound _ d a.0 a.1;
            name = (required_reads _ _ _ text_reads).sound d b.0 b.1;
            level = level_reads.sound d c.0 c.1;
            devices = devices.sound d v.0 v.1;
          }));
      complete = λ d x p. rw (
        only_keys_complete _ d p.known,
        (required_reads _ _ _ text_reads).complete d x.name p.name,
        level_reads.complete d x.level p.level,
        devices.complete d x.devices p.devices,
      ) refl;
    }

family_reads : Reads family_in IsFamily
unfolding family_in
family_reads =
    let devices = or_else_reads (codes "devices") _ _ [] (list_reads None _ _ never (alone_reads _ _ device_reads)) in
    let subs = or_else_reads (codes "subFamilies") _ _ [] (list_reads None _ _ never (alone_reads _ _ sub_family_reads)) in
    record {
      sound = λ d x e. (
          let a = bind_ok _ _ x e in
          let b = bind_ok _ _ x a.2 in
          let c = bind_ok _ _ x b.2 in
          let s = bind_ok _ _ x c.2 in
          let v = bind_ok _ _ x s.2 in
          subst (IsFamily d) (same_Ok _ x v.2) (record {
            known = only_keys_sound _ d a.0 a.1;
            name = (required_reads _ _ _ text_reads).sound d b.0 b.1;
            level = level_reads.sound d c.0 c.1;
            sub_families = subs.sound d s.0 s.1;
            devices = devices.sound d v.0 v.1;
          }));
      complete = λ d x p. rw (
        only_keys_complete _ d p.known,
        (required_reads _ _ _ text_reads).complete d x.name p.name,
        level_reads.complete d x.level p.level,
        subs.complete d x.sub_families p.sub_families,
        devices.complete d x.devices p.devices,
      ) refl;
    }

pub pack_reads : Reads pack_in IsPack
unfolding pack_in
pack_reads =
    let families = required_reads (codes "families") _ _ (list_reads None _ _ never (alone_reads _ _ family_reads)) in
    record {
      sound = λ d x e. (
          let a = bind_ok _ _ x e in
          let b = bind_ok _ _ x a.2 in
          let c = bind_ok _ _ x b.2 in
          subst (IsPack d) (same_Ok _ x c.2) (record {
            known = only_keys_sound _ d a.0 a.1;
            top = (optional_reads _ _ _ defaults_reads).sound d b.0 b.1;
            families = families.sound d c.0 c.1;
          }));
      complete = λ d x p. rw (
        only_keys_complete _ d p.known,
        (optional_reads _ _ _ defaults_reads).complete d x.defaults p.top,
        families.complete d x.families p.families,
      ) refl;
    }

-- the same, as the job around the pack sees it
pub job_pack_reads : Reads (λ d. at (Key (codes "pack")) (pack_in d)) IsPack
job_pack_reads = at_reads (Key (codes "pack")) pack_in IsPack pack_reads
