-- The grammar of a block's lines: which words mean which rule.
use Rattle.std.specs.Prelude.{◌≡◌, ℕ, true, false, List, [], ◌∷◌, ◌++◌, Some, codes}
use Rattle.words.specs.Words.{Word, is_name, number_of}
use Rattle.conditions.specs.Grammar.{Means, or_level}
use Rattle.conditions.specs.Variables.{place}
use Rattle.reader.specs.RuleSets.{Rule}
use Rattle.reader.specs.declared.rule_set.Effect.{Effect}
use Rattle.reader.specs.declared.rule_set.Effect.TheVariants.{Plain, Sum}

-- the words ws are a result: a number, a name, or a name, `+` and a number
pub data EffectMeans (ns : List Word) : List Word → Effect → Type 0 where
  number : {w : Word} {n : ℕ} → is_name w ≡ false → number_of w ≡ Some n → EffectMeans ns (w ∷ []) (Plain n)
  name : {w : Word} → is_name w ≡ true → EffectMeans ns (w ∷ []) (Sum (place ns w) 0)
  sum : {w v : Word} {n : ℕ} → is_name w ≡ true → number_of v ≡ Some n → EffectMeans ns (w ∷ codes "+" ∷ v ∷ []) (Sum (place ns w) n)

-- results, parted by `,`
pub data EffectsMean (ns : List Word) : List Word → List Effect → Type 0 where
  last : {ws : List Word} {e : Effect} → EffectMeans ns ws e → EffectsMean ns ws (e ∷ [])
  next : {us ws : List Word} {e : Effect} {es : List Effect} → EffectMeans ns us e → EffectsMean ns ws es → EffectsMean ns (us ++ codes "," ∷ ws) (e ∷ es)

-- a condition, `:` and results
pub record RuleMeans (ns ws : List Word) (r : Rule) : Type 0 where
  pub front : List Word
  pub back : List Word
  pub parted : ws ≡ front ++ codes ":" ∷ back
  pub when : Means ns or_level front r.when
  pub results : EffectsMean ns back r.results
