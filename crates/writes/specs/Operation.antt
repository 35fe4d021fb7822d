-- The phy operations of a 91h by their codes.
use Rattle.std.specs.Prelude.{ℕ, ◌≡◌, true, false, Result, Ok, Err}
use Rattle.model.specs.declared.Failure.{Failure}
use Rattle.model.specs.declared.Failure.TheVariants.{UnknownPhyOperation}
use Rattle.model.specs.Results.{known_operation}
use Rattle.writes.specs.declared.operation.PhyOperation.{PhyOperation}
use Rattle.writes.specs.declared.operation.PhyOperation.TheVariants.{NoOperation, LinkReset, Disable, ClearErrorLog}

-- "00h none; 01h link reset ..; 03h disable ..; 05h sets the four error counts to 0"
abbrev pub operation_code : PhyOperation → ℕ
operation_code NoOperation = 0x00
operation_code LinkReset = 0x01
operation_code Disable = 0x03
operation_code ClearErrorLog = 0x05

-- What is read from a code: the operation that has it, or "13h UNKNOWN PHY OPERATION (91h, any operation not named below)".
abbrev pub Names : ℕ → Result PhyOperation Failure → Type 0
Names code (Ok operation) = (known_operation code ≡ true) × (code ≡ operation_code operation)
Names code (Err failure) = (known_operation code ≡ false) × (failure ≡ UnknownPhyOperation)
