-- The functions by their codes, as the judge takes them apart.
use Rattle.std.specs.Prelude.{ℕ, ◌≡◌, true, false, Result, Ok, Err}
use Rattle.gate.specs.declared.function.Function.{Function}
use Rattle.gate.specs.declared.function.Function.TheVariants.{ReportGeneral, ReportManufacturer, ReportBroadcast}
use Rattle.gate.specs.declared.function.Function.TheVariants.{ReportPhyErrorLog, ReportPhyEvent, ReportPhyEventList}
use Rattle.gate.specs.declared.function.Function.TheVariants.{PhyControl, ConfigurePhyEvent}
use Rattle.model.specs.declared.Failure.{Failure}
use Rattle.model.specs.declared.Failure.TheVariants.{UnknownSmpFunction}
use Rattle.model.specs.Request.{known}

-- "not 00h, 01h, 06h, 11h, 14h, 91h or 93h", and #101: "function 21h joins the known functions"
abbrev pub function_code : Function → ℕ
function_code ReportGeneral = 0x00
function_code ReportManufacturer = 0x01
function_code ReportBroadcast = 0x06
function_code ReportPhyErrorLog = 0x11
function_code ReportPhyEvent = 0x14
function_code ReportPhyEventList = 0x21
function_code PhyControl = 0x91
function_code ConfigurePhyEvent = 0x93

-- What is read from a code: the function that has it, or, where no function is known by it, 01h UNKNOWN SMP FUNCTION.
abbrev pub Names : ℕ → Result Function Failure → Type 0
Names code (Ok function) = (known code ≡ true) × (code ≡ function_code function)
Names code (Err failure) = (known code ≡ false) × (failure ≡ UnknownSmpFunction)
