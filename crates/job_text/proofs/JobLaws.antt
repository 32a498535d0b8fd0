-- Reading a job gives exactly the job that the value stands for.
use Rattle.std.proofs.Common.{◌≡◌, ℕ, codes, Bool, true, false, cond, List, [], Some, Ok, Err, refl, subst}
use Rattle.dap_base.proofs.Basics.{same_Ok}
use Rattle.serde_json.specs.Data.{Data}
use Rattle.json_form.specs.declared.fault.JobFault.TheVariants.{WrongKind}
use Rattle.json_form.specs.Reading.{never}
use Rattle.json_form.specs.Form.{IsText, HasOr, MayHave, IsListOf, Alone}
use Rattle.json_form.proofs.ReadingLaws.{Reads, done, bind_ok}
use Rattle.json_form.proofs.LeafLaws.{text_reads, number_reads, such_reads}
use Rattle.json_form.proofs.ObjectLaws.{only_keys_sound, only_keys_complete, required_reads, optional_reads, or_else_reads}
use Rattle.json_form.proofs.ListLaws.{list_reads, alone_reads}
use Rattle.device_tree.proofs.PackLaws.{pack_reads}
use Rattle.target_machine.specs.declared.job.RegionJob.{RegionJob}
use Rattle.trace_audit.specs.Texts.{is_entry_text}
use Rattle.trace_audit.proofs.TextLemmas.{entry_of_test, test_of_entry}
use Rattle.job_text.specs.declared.reading.JobParts.{JobParts}
use Rattle.job_text.specs.declared.reading.Optional.{Optional}
use Rattle.job_text.specs.Tests.{are_words_in}
use Rattle.job_text.specs.RunReading.{default_settings}
use Rattle.job_text.specs.JobReading.{watch_item_in, watch_in, image_job_in, image_in, dbgconf_in, entry_text_in, trace_in, optional_in, job_in}
use Rattle.job_text.specs.JobForm.{AreParts, IsWatchItem, IsImageJob, IsEntryOf}
use Rattle.job_text.proofs.RunLaws.{run_reads}
use Rattle.job_text.proofs.TargetLaws.{aligned_reads, bench_reads}

watch_item_reads : (regions : List RegionJob) → Reads (watch_item_in regions) (IsWatchItem regions)
unfolding watch_item_in
watch_item_reads regions =
    let address = required_reads (codes "address") _ _ aligned_reads in
    record {
      sound = λ d x e. (
          let a = bind_ok _ _ x e in
          let b = bind_ok _ _ x a.2 in
          let c = bind_ok _ _ x b.2 in
          subst (IsWatchItem regions d) (same_Ok _ x c.2) (record {
            known = only_keys_sound _ d a.0 a.1;
            address = address.sound d b.0 b.1;
            words = (required_reads (codes "words") _ _ (such_reads (are_words_in regions b.0) _ _ (number_reads 1 65536))).sound d c.0 c.1;
          }));
      complete = λ d x p. rw (
        only_keys_complete _ d p.known,
        address.complete d x.address p.address,
        (required_reads (codes "words") _ _ (such_reads (are_words_in regions x.address) _ _ (number_reads 1 65536))).complete d x.words p.words,
      ) refl;
    }

watch_law : (regions : List RegionJob) → Reads (watch_in regions) (HasOr (codes "watch") (IsListOf (Some 1024) (Alone (IsWatchItem regions)) never) [])
unfolding watch_in
watch_law regions = or_else_reads (codes "watch") _ _ [] (list_reads (Some 1024) _ _ never (alone_reads _ _ (watch_item_reads regions)))

image_job_reads : Reads image_job_in IsImageJob
unfolding image_job_in
image_job_reads =
    let ap = or_else_reads (codes "ap") _ _ 0 (number_reads 0 255) in
    let hex = required_reads (codes "hex") _ _ text_reads in
    record {
      sound = λ d x e. (
          let a = bind_ok _ _ x e in
          let b = bind_ok _ _ x a.2 in
          let c = bind_ok _ _ x b.2 in
          subst (IsImageJob d) (same_Ok _ x c.2) (record { known = only_keys_sound _ d a.0 a.1; ap = ap.sound d b.0 b.1; hex = hex.sound d c.0 c.1 }));
      complete = λ d x p. rw (only_keys_complete _ d p.known, ap.complete d x.ap p.ap, hex.complete d x.hex p.hex) refl;
    }

image_reads : Reads image_in (MayHave (codes "image") IsImageJob)
unfolding image_in
image_reads = optional_reads (codes "image") _ _ image_job_reads

dbgconf_reads : Reads dbgconf_in (MayHave (codes "dbgconf") IsText)
unfolding dbgconf_in
dbgconf_reads = optional_reads (codes "dbgconf") _ _ text_reads

entry_ok : (b : Bool) (word x : List ℕ) → cond b (done word) (Err (WrongKind [])) ≡ Ok x → (b ≡ true) × (word ≡ x)
entry_ok true word x e = (refl, cc)
entry_ok false word x e = absurd cc

entry_sound : (d : Data) (x : List ℕ) → entry_text_in d ≡ Ok x → IsEntryOf d x
unfolding entry_text_in
entry_sound d x e =
    let a = bind_ok _ _ x e in
    let b = entry_ok (is_entry_text a.0) a.0 x a.2 in
    subst (IsEntryOf d) b.1 (text_reads.sound d a.0 a.1, entry_of_test a.0 b.0)

entry_reads : Reads entry_text_in IsEntryOf
unfolding entry_text_in
entry_reads = record { sound = entry_sound; complete = λ d x p. rw (text_reads.complete d x p.0, test_of_entry x p.1) refl }

trace_reads : Reads trace_in (MayHave (codes "trace") (IsListOf (Some 65536) (Alone IsEntryOf) never))
unfolding trace_in
trace_reads = optional_reads (codes "trace") _ _ (list_reads (Some 65536) _ _ never (alone_reads _ _ entry_reads))

record HasOptional (regions : List RegionJob) (d : Data) (x : Optional) : Type 0 where
  watch : HasOr (codes "watch") (IsListOf (Some 1024) (Alone (IsWatchItem regions)) never) [] d x.watch
  image : MayHave (codes "image") IsImageJob d x.image
  dbgconf : MayHave (codes "dbgconf") IsText d x.dbgconf
  trace : MayHave (codes "trace") (IsListOf (Some 65536) (Alone IsEntryOf) never) d x.trace

optional_law : (regions : List RegionJob) → Reads (optional_in regions) (HasOptional regions)
unfolding optional_in
optional_law regions = record {
  sound = λ d x e. (
      let w = bind_ok _ _ x e in
      let i = bind_ok _ _ x w.2 in
      let c = bind_ok _ _ x i.2 in
      let t = bind_ok _ _ x c.2 in
      subst (HasOptional regions d) (same_Ok _ x t.2)
      (record { watch = (watch_law regions).sound d w.0 w.1; image = image_reads.sound d i.0 i.1; dbgconf = dbgconf_reads.sound d c.0 c.1; trace = trace_reads.sound d t.0 t.1 }));
  complete = λ d x p. rw ((watch_law regions).complete d x.watch p.watch, image_reads.complete d x.image p.image, dbgconf_reads.complete d x.dbgconf p.dbgconf, trace_reads.complete d x.trace p.trace) refl;
}

optional_of : JobParts → Optional
optional_of x = record { watch = x.watch; image = x.image; dbgconf = x.dbgconf; trace = x.trace }

pub job_reads : Reads job_in AreParts
unfolding job_in optional_of
job_reads =
    let pack = required_reads (codes "pack") _ _ pack_reads in
    let run = or_else_reads (codes "run") _ _ default_settings run_reads in
    let bench = required_reads (codes "bench") _ _ bench_reads in
    record {
      sound = λ d x e. (
          let a = bind_ok _ _ x e in
          let p = bind_ok _ _ x a.2 in
          let r = bind_ok _ _ x p.2 in
          let b = bind_ok _ _ x r.2 in
          let o = bind_ok _ _ x b.2 in
          let own = (optional_law b.0.target.memory).sound d o.0 o.1 in
          subst (AreParts d) (same_Ok _ x o.2) (record {
            known = only_keys_sound _ d a.0 a.1;
            pack = pack.sound d p.0 p.1;
            settings = run.sound d r.0 r.1;
            bench = bench.sound d b.0 b.1;
            watch = own.watch;
            image = own.image;
            dbgconf = own.dbgconf;
            trace = own.trace;
          }));
      complete = λ d x p. rw (
        only_keys_complete _ d p.known,
        pack.complete d x.pack p.pack,
        run.complete d x.settings p.settings,
        bench.complete d x.bench p.bench,
        (optional_law x.bench.target.memory).complete d (optional_of x) (record { watch = p.watch; image = p.image; dbgconf = p.dbgconf; trace = p.trace }),
      ) refl;
    }
