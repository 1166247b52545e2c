-- The comparisons of a rule set.
use Rattle.std.specs.Prelude.{◌&&◌, List, [], ◌∷◌, ◌++◌, length, nat_lt, slice_index_or}
use Rattle.std.specs.List.{flat_map}
use Rattle.columns.specs.Columns.{Columns}
use Rattle.conditions.specs.Conditions.{Tree, always, compare, not, both, either, atom_truth, atom_reads}
use Rattle.conditions.specs.declared.condition.Atom.{Atom}
use Rattle.conditions.specs.declared.condition.Relation.TheVariants.{Equal}
use Rattle.conditions.specs.declared.condition.Operand.TheVariants.{Number}
use Rattle.reader.specs.RuleSets.{Rule, RuleSet}
use Rattle.steps.specs.Meaning.{sizes, is_state, values_at}

-- the comparisons of a condition from left to right; `always` is none
abbrev pub atoms_in : Tree → List Atom
atoms_in always = []
atoms_in (compare v r o) = record { variable = v; relation = r; operand = o } ∷ []
atoms_in (not c) = atoms_in c
atoms_in (both c d) = atoms_in c ++ atoms_in d
atoms_in (either c d) = atoms_in c ++ atoms_in d

abbrev pub line_atoms : Rule → List Atom
line_atoms l = atoms_in l.when

abbrev pub block_atoms : List Rule → List Atom
block_atoms ls = flat_map line_atoms ls

-- in reading order: the blocks, their lines in order, then the break lines
abbrev pub atoms_of : RuleSet → List Atom
atoms_of r = flat_map block_atoms r.blocks ++ flat_map atoms_in r.breaks

abbrev pub no_atom : Atom
no_atom = record { variable = 0; relation = Equal; operand = Number 0 }

abbrev pub text_columns : RuleSet → Columns
text_columns r = record {
  sizes = sizes r;
  atoms = length (atoms_of r);
  truth = λ s a. is_state r s && (nat_lt a (length (atoms_of r)) && atom_truth (values_at r s) (slice_index_or (atoms_of r) a no_atom));
  reads = λ a v. nat_lt a (length (atoms_of r)) && (nat_lt v (length (sizes r)) && atom_reads (slice_index_or (atoms_of r) a no_atom) v);
}
