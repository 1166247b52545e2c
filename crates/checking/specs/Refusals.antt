-- The number, the layer and the place of every refusal of a check. A fault of a lower layer keeps its own.
use Rattle.rules.specs.declared.refusal.Refusal.{Refusal}
use Rattle.sheets.specs.Refusals.{sheet_refusal}
use Rattle.search.specs.Refusals.{area_refusal}
use Rattle.trace.specs.Refusals.{trace_refusal}
use Rattle.checking.specs.declared.fault.CheckFault.{CheckFault}
use Rattle.checking.specs.declared.fault.CheckFault.TheVariants.{SizesDiffer, Area, Trace, Sheet}

-- source, sheet and check do not all have the same number of states
abbrev pub sizes_differ : Refusal
sizes_differ = record { number = 15; layer = 4; place = 0 }

-- path, marks or scratch is too short
abbrev pub area_short : Refusal
area_short = record { number = 16; layer = 4; place = 0 }

-- the path does not begin with a breaking run of the class structure without repeats
abbrev pub no_suspect_run : Refusal
no_suspect_run = record { number = 17; layer = 4; place = 0 }

-- the marks do not split the class
abbrev pub bad_marks : Refusal
bad_marks = record { number = 18; layer = 3; place = 0 }

abbrev pub check_refusal : CheckFault → Refusal
check_refusal SizesDiffer = sizes_differ
check_refusal (Area fault) = area_refusal fault
check_refusal (Trace fault) = trace_refusal fault
check_refusal (Sheet fault) = sheet_refusal fault
