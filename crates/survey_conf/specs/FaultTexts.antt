-- How faults and refusals are shown: a fault as its line and the number of its kind, as in `5 4`. This project's profile.
use Rattle.std.specs.Prelude.{ℕ, List, ◌++◌, codes, decimal}
use Rattle.survey_conf.specs.declared.fault.ConfFault.{ConfFault}
use Rattle.survey_conf.specs.declared.fault.ConfKind.{ConfKind}
use Rattle.survey_conf.specs.declared.fault.ConfKind.TheVariants.{Syntax, Unknown, Twice, Range, Missing}
use Rattle.survey_conf.specs.declared.fault.ConfRefusal.{ConfRefusal}
use Rattle.survey_conf.specs.declared.fault.ConfRefusal.TheVariants.{Fault, OutOfMemory}

-- the number of a kind of fault
abbrev pub number_of : ConfKind → ℕ
number_of Syntax = 1
number_of Unknown = 2
number_of Twice = 3
number_of Range = 4
number_of Missing = 5

-- a fault as its line and the number of its kind, in decimals, with a space between
abbrev pub fault_text : ConfFault → List ℕ
fault_text fault = decimal fault.line ++ codes " " ++ decimal (number_of fault.kind)

-- a refusal as its fault, or that memory ran out
abbrev pub refusal_text : ConfRefusal → List ℕ
refusal_text (Fault fault) = fault_text fault
refusal_text OutOfMemory = codes "out of memory"
