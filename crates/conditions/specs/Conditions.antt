-- What a condition is, and when it holds.
use Rattle.std.specs.Prelude.{ℕ, Bool, true, false, ◌&&◌, ◌||◌, List, ◌==◌, nat_lt, slice_index}
use Rattle.conditions.specs.declared.condition.Relation.{Relation}
use Rattle.conditions.specs.declared.condition.Relation.TheVariants.{Equal, Less}
use Rattle.conditions.specs.declared.condition.Operand.{Operand}
use Rattle.conditions.specs.declared.condition.Operand.TheVariants.{Variable, Number}
use Rattle.conditions.specs.declared.condition.Atom.{Atom}
use Rattle.conditions.specs.declared.condition.Cond.{Cond}
use Rattle.conditions.specs.declared.condition.Cond.TheVariants.{Always, Compare, Not', And', Or'}
use Rattle.std.proofs.Math.Bool as bool

-- a condition; a variable is given by its place among the variables
pub data Tree : Type 0 where
  always : Tree
  compare : ℕ → Relation → Operand → Tree
  not : Tree → Tree
  both : Tree → Tree → Tree
  either : Tree → Tree → Tree

-- the condition that a `Cond` of the code is; p and q are the pointers of its boxes
abbrev pub tree : Cond → Tree
tree Always = always
tree (Compare a) = compare a.variable a.relation a.operand
tree (Not' p c) = not (tree c)
tree (And' p c q d) = both (tree c) (tree d)
tree (Or' p c q d) = either (tree c) (tree d)

-- the value of a right side where the variables have the values vs; a variable that is not there counts as 0
abbrev pub value : List ℕ → Operand → ℕ
value vs (Variable k) = slice_index vs k
value vs (Number n) = n

abbrev pub related : Relation → ℕ → ℕ → Bool
related Equal a b = a == b
related Less a b = nat_lt a b

-- whether a condition holds where the variables have the values vs
abbrev pub truth : List ℕ → Tree → Bool
truth vs always = true
truth vs (compare v r o) = related r (slice_index vs v) (value vs o)
truth vs (not c) = bool.not (truth vs c)
truth vs (both c d) = truth vs c && truth vs d
truth vs (either c d) = truth vs c || truth vs d

-- whether a comparison is true where the variables have the values vs
abbrev pub atom_truth : List ℕ → Atom → Bool
atom_truth vs a = truth vs (compare a.variable a.relation a.operand)

abbrev pub operand_reads : Operand → ℕ → Bool
operand_reads (Variable k) v = k == v
operand_reads (Number n) v = false

-- a comparison reads the variables that stand in it, also where its truth is constant
abbrev pub atom_reads : Atom → ℕ → Bool
atom_reads a v = a.variable == v || operand_reads a.operand v

abbrev pub known_operand : ℕ → Operand → Bool
known_operand n (Variable k) = nat_lt k n
known_operand n (Number m) = true

-- whether each variable of a condition is one of the first n
abbrev pub known_tree : ℕ → Tree → Bool
known_tree n always = true
known_tree n (compare v r o) = nat_lt v n && known_operand n o
known_tree n (not c) = known_tree n c
known_tree n (both c d) = known_tree n c && known_tree n d
known_tree n (either c d) = known_tree n c && known_tree n d

abbrev pub known_atom : ℕ → Atom → Bool
known_atom n a = known_tree n (compare a.variable a.relation a.operand)
