-- The number, the layer and the place of every refusal of this crate.
use Rattle.rules.specs.declared.refusal.Refusal.{Refusal}
use Rattle.search.specs.Refusals.{area_refusal}
use Rattle.trace.specs.declared.fault.TraceFault.{TraceFault}
use Rattle.trace.specs.declared.fault.TraceFault.TheVariants.{SizesDiffer, Area, NoSuspectRun}

abbrev pub trace_refusal : TraceFault → Refusal
trace_refusal SizesDiffer = record { number = 15; layer = 4; place = 0 }
trace_refusal (Area fault) = area_refusal fault
trace_refusal NoSuspectRun = record { number = 17; layer = 4; place = 0 }
