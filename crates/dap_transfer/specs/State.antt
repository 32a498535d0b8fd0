-- What a probe knows of its transfers: the settings, the target, the match mask and the counts.
use Rattle.std.specs.Prelude.{ℕ, ◌+◌, ◌-◌, ◌^◌, Bool, true, false, List, max, min}
use Rattle.target_machine.specs.State.{TargetState}
use Rattle.dap_messages.specs.declared.request.Response.{Response}
use Rattle.dap_messages.specs.declared.request.Response.TheVariants.{Good, Wait}

-- the target, and the number of the next wire transfer that may wait
pub record WireState : Type 0 where
  pub target : TargetState
  pub number : ℕ

-- how many WAIT answers each transfer that may wait meets, and the settings of DAP_TransferConfigure
pub record Setting : Type 0 where
  pub stalls : List ℕ
  pub retry : ℕ
  pub matches : ℕ

-- the state of the part of a probe that makes transfers
pub record TransferState : Type 0 where
  pub setting : Setting
  pub line : WireState
  -- the match mask
  pub mask : ℕ
  -- how many transfers met more WAITs than the retry number allows
  pub ended_retries : ℕ
  pub work : ℕ
  -- whether the last of those left a read outstanding or a write unchecked
  pub pending : Bool

-- what a transfer command answers, and the state after it
pub record Transferred : Type 0 where
  pub executed : ℕ
  pub response : Response
  pub words : List ℕ
  pub next : TransferState

-- the state before the first transfer
abbrev pub fresh_transfers : TargetState → List ℕ → TransferState
fresh_transfers target stalls = record {
  setting = record { stalls = stalls; retry = 100; matches = 0 };
  line = record { target = target; number = 0 };
  mask = 0;
  ended_retries = 0;
  work = 0;
  pending = false;
}

-- a count that has grown, or stays at its last value
abbrev pub grown_work : ℕ → ℕ → ℕ
grown_work work n = max work (min (work + n) (2 ^ 64 - 1))

-- whether it met more WAITs than the retry number allows
abbrev pub is_wait : Response → Bool
is_wait Wait = true
is_wait _ = false
