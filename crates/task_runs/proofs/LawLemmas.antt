-- A load and a scan after a sequence that is done, on a target that lets them.
use Rattle.std.proofs.Common.{◌≡◌, ◌∙◌, ℕ, ◌^◌, ◌<◌, List, [], ◌++◌, length, Option, None, Some, ap, subst}
use Rattle.std.specs.Prelude.{option_map}
use Rattle.hex_image.specs.Image.{Bytes}
use Rattle.target_machine.specs.State.{TargetState}
use Rattle.target_calls.specs.Asks.{settled_last}
use Rattle.target_calls.specs.World.{World, results, stop, world_after}
use Rattle.target_calls.specs.declared.calls.Ask.{Ask}
use Rattle.target_calls.proofs.CallLists.{append_after}
use Rattle.target_calls.proofs.MarkLemmas.{after_marked, stop_marked}
use Rattle.sequence_rules.specs.Laws.{StopBy}
use Rattle.sequence_rules.specs.Runs as runs
use Rattle.sequence_rules.specs.Runs.{Ending, Outcome, Program}
use Rattle.sequence_rules.proofs.Made.{are_made}
use Rattle.sequels.specs.Sequel.{Comes, Sequel, comes}
use Rattle.sequels.specs.declared.close.Close.{Close}
use Rattle.followed_runs.specs.Followed as followed
use Rattle.followed_runs.specs.Followed.{close_in, closed_at, followed_at, joined_outcome, outcome_in_world}
use Rattle.image_load.specs.Laid.{CanLoad, Laid}
use Rattle.image_load.specs.LoadSequel.{close_by, load_close, load_sequel}
use Rattle.image_load.specs.Pieces.{load_calls, pieces}
use Rattle.image_load.proofs.LaidLemmas.{loads_lay}
use Rattle.image_load.proofs.SequelLemmas.{comes_whole}
use Rattle.rom_scan.specs.Showing.{CanScan, ListsTarget}
use Rattle.rom_scan.specs.Walk.{Walked, scanned_port}
use Rattle.rom_scan.proofs.TargetLemmas.{lists_target}
use Rattle.task_runs.specs.Laws.{EndsLaid, EndsListed, LoadsAreLaid, ScansAreListed, alone_in, with_sequel, world_then}
use Rattle.task_runs.specs.Tasks as tasks
use Rattle.task_runs.specs.Tasks.{scanning}
use Rattle.task_runs.proofs.ScanLemmas.{closed_comes}

module _ (w : World) (p : Program) (before : Option (List ℕ)) (done : (alone_in w p before).ending ≡ runs.Done) where
  abbrev o : Outcome
  o = alone_in w p before

  abbrev u : World
  u = world_then w p before

  whole : stop w o.calls ≡ None
  whole = subst (λ (e : Ending). StopBy w e o.calls) done (are_made w p before).made.ending

  joins : (s : Sequel Close) → outcome_in_world w (with_sequel p s) before ≡ joined_outcome w o (comes u s)
  joins s = ap (followed_at w s o) done

  closes : (s : Sequel Close) → close_in w (with_sequel p s) before ≡ followed.close_of (comes u s).end
  closes s = ap (closed_at w s o) done

  after : (c : Comes Close) → (joined_outcome w o c).target ≡ (world_after u c.calls).target
  after c = ap (λ (x : World). x.target) (append_after w (settled_last o.calls) c.calls (stop_marked w o.calls ∙ whole) ∙ ap (λ (x : World). world_after x c.calls) (after_marked w o.calls))

  laid_then : (ap' : ℕ) (image : Bytes) → CanLoad u ap' image → EndsLaid w p before ap' image
  laid_then ap' image can =
      let l : Laid u ap' image = loads_lay u ap' image can in
      let calls : List Ask = load_calls ap' (pieces image) in
      let is : comes u (load_sequel ap' image) ≡ record { calls = load_calls ap' (pieces image); written = []; end = Some (load_close image (results u (load_calls ap' (pieces image)))) } =
      comes_whole u (load_calls ap' (pieces image)) (load_close image) l.goes in
      record {
        ending = ap (λ (x : Outcome). x.ending) (joins (load_sequel ap' image)) ∙ ap (λ (c : Comes Close). (joined_outcome w o c).ending) is;
        words = ap (λ (x : Outcome). x.target.words) (joins (load_sequel ap' image)) ∙ ap (λ (t : TargetState). t.words) (after (comes u (load_sequel ap' image)))
            ∙ ap (λ (c : Comes Close). (world_after u c.calls).target.words) is ∙ l.words;
        close = closes (load_sequel ap' image) ∙ ap (λ (c : Comes Close). followed.close_of c.end) is ∙ ap (close_by (length image) (length (pieces image))) l.same;
      }

  listed_then : (ap' : ℕ) → ap' < 2 ^ 8 → CanScan u ap' → EndsListed w p before ap'
  listed_then ap' port can =
      let l : ListsTarget u 1024 ap' = lists_target u 1024 ap' port can in
      let is = closed_comes u (scanned_port 1024 ap') tasks.scan_close
      ∙ ap (λ (e : Option Walked). record { calls = (comes u (scanned_port 1024 ap')).calls; written = (comes u (scanned_port 1024 ap')).written; end = option_map tasks.scan_close e }) l.end in
      record {
        ending = ap (λ (x : Outcome). x.ending) (joins (scanning ap')) ∙ ap (λ (c : Comes Close). (joined_outcome w o c).ending) is;
        written = ap (λ (x : Outcome). x.written) (joins (scanning ap')) ∙ ap (λ (c : Comes Close). option_map (λ bytes. bytes ++ c.written) o.written) is
            ∙ ap (λ (lines : List ℕ). option_map (λ bytes. bytes ++ lines) o.written) l.written;
        words = ap (λ (x : Outcome). x.target.words) (joins (scanning ap')) ∙ ap (λ (t : TargetState). t.words) (after (comes u (scanning ap')))
            ∙ ap (λ (c : Comes Close). (world_after u c.calls).target.words) is ∙ l.words;
        close = closes (scanning ap') ∙ ap (λ (c : Comes Close). followed.close_of c.end) is;
      }

pub loads_laid : LoadsAreLaid
loads_laid w p before ap' image done can = laid_then w p before done ap' image can

pub scans_listed : ScansAreListed
scans_listed w p before ap' port done can = listed_then w p before done ap' port can
