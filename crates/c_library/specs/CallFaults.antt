-- Why a call did nothing.
use Rattle.std.specs.Prelude.{ℕ, ◌≡◌}
use Rattle.c_library.specs.declared.call_fault.CallFault.{CallFault}
use Rattle.c_library.specs.declared.call_fault.CallFault.TheVariants.{BadSizes, BadRules, BadRoom, TooMany, BadEvent, BadScript, NoMemory}

-- the number that C is told
abbrev pub call_fault_code : CallFault → ℕ
call_fault_code BadSizes = 1
call_fault_code BadRules = 2
call_fault_code BadRoom = 3
call_fault_code TooMany = 4
call_fault_code BadEvent = 5
call_fault_code BadScript = 8
call_fault_code NoMemory = 6

-- the code is that of a fault of which this holds
pub record IsCallFaultCode (is_due : CallFault → Type 0) (code : ℕ) : Type 0 where
  pub fault : CallFault
  pub is : code ≡ call_fault_code fault
  pub due : is_due fault
