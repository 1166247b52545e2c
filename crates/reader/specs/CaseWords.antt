-- How the words of a block's line are read: a condition, `:`, and results parted by `,`.
-- The grammar that this reads, as a relation, is in Cases.
use Rattle.std.specs.Prelude.{ℕ, zero, suc, cond, List, [], ◌∷◌, ◌++◌, length, Some, None, codes, Option}
use Rattle.words.specs.Words.{Word, opens_with, after_first, is_name, number_of}
use Rattle.conditions.specs.Conditions.{Tree}
use Rattle.conditions.specs.Parser.{condition, ended}
use Rattle.conditions.specs.Variables.{place}
use Rattle.reader.specs.RuleSets.{Rule}
use Rattle.reader.specs.declared.rule_set.Effect.{Effect}
use Rattle.reader.specs.declared.rule_set.Effect.TheVariants.{Plain, Sum}

-- a result, and the words that are left
abbrev pub plainly : Option ℕ → List Word → Option (Effect × List Word)
plainly None ws = None
plainly (Some n) ws = Some (Plain n, ws)

abbrev pub plus : ℕ → Option ℕ → List Word → Option (Effect × List Word)
plus k None ws = None
plus k (Some n) ws = Some (Sum k n, ws)

abbrev pub added : ℕ → List Word → Option (Effect × List Word)
added k [] = None
added k (w ∷ ws) = plus k (number_of w) ws

-- a number, a name, or a name, `+` and a number
abbrev pub effect : List Word → List Word → Option (Effect × List Word)
effect ns [] = None
effect ns (w ∷ ws) = cond (is_name w) (cond (opens_with (codes "+") ws) (added (place ns w) (after_first ws)) (Some (Sum (place ns w) 0, ws))) (plainly (number_of w) ws)

abbrev pub and_then : {A B : Type 0} → Option (A × List Word) → (A → List Word → Option B) → Option B
and_then None f = None
and_then (Some p) f = f p.0 p.1

-- results parted by `,` up to the end of the line, behind those of es; n bounds how many
abbrev pub effects : List Word → ℕ → List Effect → List Word → Option (List Effect)
effects ns zero es ws = None
effects ns (suc n) es ws =
    and_then (effect ns ws) (λ e rest. let more = effects ns n (es ++ e ∷ []) (after_first rest) in cond (opens_with (codes ",") rest) more (ended (es ++ e ∷ []) rest))

abbrev pub ruled : Tree → Option (List Effect) → Option Rule
ruled c None = None
ruled c (Some es) = Some (record { when = c; results = es })

-- a condition, `:` and results
abbrev pub rule : List Word → List Word → Option Rule
rule ns ws =
    and_then (condition ns ws) (λ c rest. let es = effects ns (length rest) [] (after_first rest) in cond (opens_with (codes ":") rest) (ruled c es) None)
