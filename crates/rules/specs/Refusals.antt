-- The number, the layer and the place of every refusal of this crate, and how a refusal is printed.
use Rattle.std.specs.Prelude.{ℕ, List, ◌++◌, codes, decimal}
use Rattle.rules.specs.declared.refusal.Refusal.{Refusal}
use Rattle.rules.specs.declared.refusal.ListFault.{ListFault}
use Rattle.rules.specs.declared.refusal.ListFault.TheVariants.{BadList, BadTransition}

abbrev pub list_refusal : ListFault → Refusal
list_refusal BadList = record { number = 12; layer = 3; place = 0 }
list_refusal (BadTransition i) = record { number = 13; layer = 3; place = i }

-- `refused 5 layer 2 line 3`
abbrev pub refusal_text : Refusal → List ℕ
refusal_text x = codes "refused " ++ decimal x.number ++ codes " layer " ++ decimal x.layer ++ codes " line " ++ decimal x.place
