-- Which rule sets are well formed.
use Rattle.std.specs.Prelude.{ℕ, ◌+◌, Bool, true, ◌&&◌, List, [], ◌∷◌, length, ◌==◌, nat_le}
use Rattle.words.specs.Words.{each}
use Rattle.numbering.specs.Limits.{sound_sizes}
use Rattle.conditions.specs.Conditions.{known_tree}
use Rattle.conditions.specs.Variables.{Var, size_at}
use Rattle.reader.specs.BlockLines.{known_effect, small_effect, fitting_effect}
use Rattle.reader.specs.RuleSets.{Rule, RuleSet}
use Rattle.reader.specs.VariableLines.{rising}
use Rattle.steps.specs.Atoms.{atoms_of}
use Rattle.steps.specs.Meaning.{sizes}

-- the start values rise, and are below the size
abbrev pub sound_variable : Var → Bool
sound_variable v = rising 0 v.size v.starts

-- A line of the block of the variable i: its names are known, its numbers below the variable's size, and no variable that it names as a result is
-- larger than the one being set.
abbrev pub sound_line : List Var → ℕ → Rule → Bool
sound_line vs i l =
    (known_tree (length vs) l.when && each (known_effect (length vs)) l.results) && (each (small_effect (size_at vs i)) l.results && each (fitting_effect vs (size_at vs i)) l.results)

-- the blocks of the variables from i on
abbrev pub sound_blocks : List Var → ℕ → List (List Rule) → Bool
sound_blocks vs i [] = true
sound_blocks vs i (b ∷ bs) = each (sound_line vs i) b && sound_blocks vs (i + 1) bs

-- 1 to 12 variables of 2 to 16 values, at most 4096 states, a block for each variable, every part in order, and atoms that a 16-bit number counts
abbrev pub well_formed : RuleSet → Bool
well_formed r =
    sound_sizes (sizes r) && (each sound_variable r.variables && (length r.blocks == length r.variables && (sound_blocks r.variables 0 r.blocks && (each (known_tree (length r.variables)) r.breaks && nat_le (length (atoms_of r)) 65535))))
