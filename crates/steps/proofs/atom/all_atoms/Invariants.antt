use Rattle.std.proofs.Common.{◌≡◌, ◌++◌, map, take, vec_items}
use Rattle.std.specs.List.{flat_map}
use Rattle.conditions.specs.Conditions.{tree}
use Rattle.reader.specs.Meanings.{rule_of, rules_in}
use Rattle.steps.specs.Atoms.{block_atoms, atoms_in}
use Rattle.steps.proofs.atom.all_atoms.Given as goal

abbrev pub invariant-loop-block : goal.invariant-loop-block
invariant-loop-block l = vec_items l.out ≡ flat_map block_atoms (map rules_in (take l.block-index l.blocks))

abbrev pub invariant-loop-case : goal.invariant-loop-case
invariant-loop-case l = vec_items l.out ≡ vec_items l.initial.out ++ block_atoms (map rule_of (take l.case-index l.case-items))

abbrev pub invariant-loop-condition : goal.invariant-loop-condition
invariant-loop-condition l = vec_items l.out ≡ flat_map block_atoms (map rules_in l.blocks) ++ flat_map atoms_in (map tree (take l.condition-index l.breaks))
