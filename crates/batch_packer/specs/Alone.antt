-- A flight in one packet: a block of writes, or one Transfer.
use Rattle.std.specs.Prelude.{◌≡◌, ℕ, ◌≤◌, Bool, true, false, List, [], ◌∷◌, Option, None}
use Rattle.target_machine.specs.declared.access.RegAccess.{RegAccess}
use Rattle.dap_messages.specs.declared.command_value.CommandValue.{CommandValue}
use Rattle.flight_forms.specs.Flights.{Part}
use Rattle.flight_forms.specs.Forms.{fits_block}
use Rattle.flight_forms.specs.Packing.{requests_for}
use Rattle.flight_forms.specs.Packets.{block_command, transfer_command}
use Rattle.flight_forms.specs.declared.form.Form.{Form}
use Rattle.flight_forms.specs.declared.form.Form.TheVariants.{Block, Transfer}
use Rattle.batch_packer.specs.Readings.{reading}

-- its command
abbrev pub one_command : Bool → List RegAccess → CommandValue
one_command true accesses = block_command accesses
one_command false accesses = transfer_command accesses

-- its form
abbrev pub one_form : Bool → Form
one_form true = Block
one_form false = Transfer

-- the accesses are ones that some block holds
abbrev pub IsBlock : List RegAccess → Type 0
IsBlock accesses = (size : ℕ) × (size ≤ 1024) × (fits_block size accesses ≡ true)

-- what the one reply shows
abbrev pub one_reading : Bool → List RegAccess → List (List ℕ) → Option Part
one_reading is_block accesses (reply ∷ []) = reading (one_command is_block accesses) 0 (requests_for false accesses) reply
one_reading is_block accesses replies = None
