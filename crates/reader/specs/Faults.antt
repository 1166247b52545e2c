-- The number, the layer and the place of each refusal of a rule text.
use Rattle.std.specs.Prelude.{ℕ, cond, ◌||◌, ◌==◌, nat_le}
use Rattle.rules.specs.declared.refusal.Refusal.{Refusal}
use Rattle.words.specs.Faults.{word_refusal, WordSays}
use Rattle.conditions.specs.declared.fault.ConditionFault.{ConditionFault}
use Rattle.reader.specs.declared.fault.ReadFault.{ReadFault}
use Rattle.reader.specs.declared.fault.ReadFault.TheVariants.{Word, Limit, Twice, Undeclared, Value, Larger, Product, Memory}
use Rattle.conditions.specs.declared.fault.ConditionFault.TheVariants as condition

abbrev pub read_refusal : ReadFault → Refusal
read_refusal (Word f) = word_refusal f
read_refusal (Limit n) = record { number = 5; layer = 2; place = n }
read_refusal (Twice n) = record { number = 6; layer = 2; place = n }
read_refusal (Undeclared n) = record { number = 7; layer = 2; place = n }
read_refusal (Value n) = record { number = 8; layer = 2; place = n }
read_refusal (Larger n) = record { number = 9; layer = 2; place = n }
read_refusal (Product n) = record { number = 10; layer = 2; place = n }
read_refusal Memory = record { number = 20; layer = 2; place = 0 }

-- the layer that refuses a text under a number: 1 sees lines and words, 2 what they say
abbrev pub layer : ℕ → ℕ
layer number = cond (nat_le number 4 || number == 11) 1 2

-- the number and the place of a fault are such that P; nothing is said where memory ran out
abbrev pub FaultSays : ReadFault → (ℕ → ℕ → Type 0) → Type 0
FaultSays (Word f) P = WordSays f P
FaultSays (Limit n) P = P 5 n
FaultSays (Twice n) P = P 6 n
FaultSays (Undeclared n) P = P 7 n
FaultSays (Value n) P = P 8 n
FaultSays (Larger n) P = P 9 n
FaultSays (Product n) P = P 10 n
FaultSays Memory P = Unit {0}

-- a fault of a condition is passed on as it is
abbrev pub from_condition : ConditionFault → ReadFault
from_condition (condition.Word f) = Word f
from_condition condition.Memory = Memory
