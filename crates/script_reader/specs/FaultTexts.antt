-- The texts of the faults, as every program writes them.
use Rattle.std.specs.Prelude.{ℕ, List, ◌++◌, codes}
use Rattle.std.specs.Fmt.{decimal}
use Rattle.script_reader.specs.declared.fault.LineFault.{LineFault}
use Rattle.script_reader.specs.declared.fault.LineFault.TheVariants.{LineTooLong, UnknownCommand, WrongFields, BadName, UnknownDevice, RepeatedDevice, LateDevice, BadNumber, BadRating, BadDate, BadKeyword, BadFilter, RepeatedPicture, TooMany, SameDevice}
use Rattle.script_reader.specs.declared.fault.ScriptFault.{ScriptFault}
use Rattle.script_reader.specs.declared.fault.ScriptFault.TheVariants.{Read, TooLarge, NotUtf8, NoMemory, Line}

-- the code and name of a line's fault
abbrev pub line_fault_text : LineFault → List ℕ
line_fault_text LineTooLong = codes "F4 LineTooLong"
line_fault_text UnknownCommand = codes "F5 UnknownCommand"
line_fault_text WrongFields = codes "F6 WrongFields"
line_fault_text BadName = codes "F7 BadName"
line_fault_text UnknownDevice = codes "F8 UnknownDevice"
line_fault_text RepeatedDevice = codes "F9 RepeatedDevice"
line_fault_text LateDevice = codes "F10 LateDevice"
line_fault_text BadNumber = codes "F11 BadNumber"
line_fault_text BadRating = codes "F12 BadRating"
line_fault_text BadDate = codes "F13 BadDate"
line_fault_text BadKeyword = codes "F14 BadKeyword"
line_fault_text BadFilter = codes "F15 BadFilter"
line_fault_text RepeatedPicture = codes "F16 RepeatedPicture"
line_fault_text TooMany = codes "F17 TooMany"
line_fault_text SameDevice = codes "F19 SameDevice"

-- the code and name of a fault, without the line's number
abbrev pub fault_name : ScriptFault → List ℕ
fault_name Read = codes "F1 Read"
fault_name TooLarge = codes "F2 TooLarge"
fault_name NotUtf8 = codes "F3 NotUtf8"
fault_name NoMemory = codes "F18 NoMemory"
fault_name (Line number fault) = line_fault_text fault

-- what stands before that: the number of a fault's line
abbrev pub line_number_text : ScriptFault → List ℕ
line_number_text (Line number fault) = codes "line " ++ decimal number ++ codes ": "
line_number_text _ = codes ""

abbrev pub fault_text : ScriptFault → List ℕ
fault_text fault = line_number_text fault ++ fault_name fault
