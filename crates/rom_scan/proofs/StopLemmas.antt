-- A sequel in which the access stopped.
use Rattle.std.proofs.Common.{◌≡◌, ℕ, ◌+◌, List, Option, None, Some}
use Rattle.target_calls.specs.World.{World, stop}
use Rattle.target_calls.specs.declared.calls.Ask.{Ask}
use Rattle.access_calls.specs.Answers.{AtCut}
use Rattle.access_calls.specs.declared.stop.Stop.{Stop}
use Rattle.access_calls.specs.declared.stop.Stop.TheVariants.{Cut, BenchFault, ReplyBad, OutOfMemory}
use Rattle.sequels.specs.Meeting.{CutOff, Reaches}
use Rattle.sequels.specs.Sequel.{Sequel, followed_by}
use Rattle.sequels.proofs.MeetingLemmas.{cut_by, cut_on, left_by, left_on}
use Rattle.rom_scan.specs.Meets.{StopsIn}

-- a fact at a cut gives another
at_cut : (e : Stop) (P Q : Type 0) → (P → Q) → AtCut e (λ r. P) → AtCut e (λ r. Q)
at_cut (Cut r) P Q f h = f h
at_cut (BenchFault issued confirmed) P Q f h = tt
at_cut ReplyBad P Q f h = tt
at_cut OutOfMemory P Q f h = tt

-- in the first of two sequels
pub stops_by : {X Y : Type 0} (w : World) (lines : ℕ) (s : Sequel X) (f : X → Sequel Y) (old new : List Ask) (b n : Option (List ℕ)) (e : Stop) → StopsIn w lines s old new b n e → StopsIn w lines (followed_by s f) old new b n e
stops_by w lines s f old new b n e h = record {
  left = left_by w s f old new b n h.left;
  cut = at_cut e (CutOff w s old new b n × (stop w new ≡ Some (lines + 1))) (CutOff w (followed_by s f) old new b n × (stop w new ≡ Some (lines + 1))) (λ k. (cut_by w s f old new b n k.0, k.1)) h.cut;
}

-- in the rest of a sequel
pub stops_on : {X : Type 0} (w : World) (lines : ℕ) (s rest : Sequel X) (old mid new : List Ask) (b m n : Option (List ℕ)) (e : Stop) → stop w old ≡ None → Reaches w s old mid b m rest → StopsIn w lines rest mid new m n e → StopsIn w lines s old new b n e
stops_on w lines s rest old mid new b m n e whole r h = record {
  left = left_on w s rest old mid new b m n whole r h.left;
  cut = at_cut e (CutOff w rest mid new m n × (stop w new ≡ Some (lines + 1))) (CutOff w s old new b n × (stop w new ≡ Some (lines + 1))) (λ k. (cut_on w s rest old mid new b m n whole r k.0, k.1)) h.cut;
}
