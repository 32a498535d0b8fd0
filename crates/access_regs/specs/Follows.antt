-- How a target after planned units follows one after plain units.
use Rattle.std.specs.Prelude.{◌≡◌, ℕ, ◌^◌, ◌<◌, true, false, ◌==◌, if◌then◌else◌, length, List, Option, Some, None, bit_and, ⊤}
use Rattle.std.specs.FinMap as map
use Rattle.target_machine.specs.Attempt.{acknowledges, stored_csw}
use Rattle.target_machine.specs.Plain.{contains}
use Rattle.target_machine.specs.Registers.{select_stored, cdbgpwrupreq}
use Rattle.target_machine.specs.State.{TargetState}
use Rattle.target_machine.specs.declared.ap.ApState.{ApState}
use Rattle.access_regs.specs.Kept.{Kept, known_at, csw_of}
use Rattle.access_regs.specs.Plan.{select_value, increment_off}
use Rattle.access_regs.specs.declared.known.Known.{Known}
use Rattle.access_regs.specs.declared.known.Unsettled.{Unsettled}

-- What is known of an AP is so, and its CSW has stored bits alone.
pub record IsTrueOf (n : Known) (port : ApState) : Type 0 where
  pub csw : (c : ℕ) → n.csw ≡ Some c → port.csw ≡ stored_csw c
  pub tar : (a : ℕ) → n.tar ≡ Some a → port.tar ≡ a
  pub high : (h : ℕ) → n.high ≡ Some h → port.large ≡ true → port.high ≡ h
  pub stored : stored_csw port.csw ≡ port.csw

-- The unsettled AP: its CSW is known; after the units alone it is the same with AddrInc off, and TAR is the last unit's address.
-- All else is the same.
pub record IsUnsettledPort (n : Known) (tar : ℕ) (plain planned : ApState) : Type 0 where
  pub learned : n.csw ≡ Some (csw_of n)
  pub csw : plain.csw ≡ stored_csw (increment_off (csw_of n))
  pub at : plain.tar ≡ tar
  pub others : planned ≡ record plain { csw = planned.csw; tar = planned.tar }

-- TAR after the units alone, where this is the unsettled AP
abbrev pub tar_if : Option Unsettled → ℕ → Option ℕ
tar_if None ap = None
tar_if (Some s) ap = if ap == s.ap then Some s.tar else None

-- the same of what is kept
abbrev pub unsettled_tar : Kept → ℕ → Option ℕ
unsettled_tar k ap = tar_if k.unsettled ap

-- An AP, where there is one, after the units alone and after the planned ones.
abbrev pub FollowsPort : Known → Option ℕ → Option ApState → Option ApState → Type 0
FollowsPort n unsettled None None = ⊤
FollowsPort n None (Some plain) (Some planned) = (planned ≡ plain) × IsTrueOf n planned
FollowsPort n (Some tar) (Some plain) (Some planned) = IsUnsettledPort n tar plain planned × IsTrueOf n planned
FollowsPort n unsettled None (Some planned) = ⊥
FollowsPort n unsettled (Some plain) None = ⊥

-- The target after planned units differs from the one after the units alone at most in RDBUFF, and in CSW and TAR of the unsettled AP. SELECT
-- has this AP, and it is powered. What is kept is so.
pub record Follows (k : Kept) (large : List ℕ) (plain planned : TargetState) : Type 0 where
  pub rest : planned ≡ record plain { rdbuff = planned.rdbuff; aps = planned.aps }
  pub clear : plain.sticky ≡ false
  pub few : plain.power_reads < 2 ^ 32
  pub table : length k.ports ≡ 256
  pub select : (v : ℕ) → k.select ≡ Some v → plain.select ≡ bit_and v select_stored
  pub larges : (ap : ℕ) → ap < 256 → (known_at k ap).large ≡ contains large ap
  pub ports : (ap : ℕ) → FollowsPort (known_at k ap) (unsettled_tar k ap) (map.get plain.aps ap) (map.get planned.aps ap)
  pub unsettled : (s : Unsettled) → k.unsettled ≡ Some s → (k.select ≡ Some (select_value s.ap 0)) × (s.ap < 256) × (acknowledges plain cdbgpwrupreq ≡ true)
