-- What a slot holds.
use Rattle.std.specs.Prelude.{ℕ, ◌-◌, cond, nat_lt, Some, None, Option}
use Rattle.sheets.specs.declared.slot.Slot.{Slot}

-- a number, or none
abbrev pub content : Slot → Option ℕ
content x = cond (nat_lt 0 x.above) (Some (x.above - 1)) None

abbrev pub no_number : Slot
no_number = record { above = 0 }
