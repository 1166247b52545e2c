use Rattle.std.proofs.Common.{◌≡◌, ℕ, Bool, ◌&&◌, List, [], ◌∷◌, map, length, Vec, vec_items, refl, ap, ◌∙◌, rules, tests, arith}
use Rattle.std.specs.List.{list_all, zip}
use Rattle.std.specs.declared.alloc.Global.{Global}
use Rattle.std.proofs.lemmas.Iterator.{YieldsList-from_slice, YieldsList-from_zip}
use Rattle.std.proofs.lemmas.Iterator.Search.{all_from_yields_List}
use Rattle.conditions.specs.declared.variable.Variable.{Variable}
use Rattle.steps.specs.Meaning.{all_start, among}
use Rattle.ruletext.specs.Texts.{variable_of}
use Rattle.ruletext.proofs.variable.all_start.Goals as goal

abbrev starts_with : Variable (Vec ℕ Global) × ℕ → Bool
starts_with p = among (vec_items p.0.starts) p.1

all_pairs : (xs : List (Variable (Vec ℕ Global))) (vs : List ℕ) → length vs ≡ length xs → list_all starts_with (zip xs vs) ≡ all_start (map variable_of xs) vs
all_pairs [] vs e = refl
all_pairs (x ∷ xs) [] e = absurd (omega arith)
all_pairs (x ∷ xs) (v ∷ vs) e = ap (λ b. among (vec_items x.starts) v && b) (all_pairs xs vs (omega arith))

pub returns : goal.returns
returns c =
    all_from_yields_List starts_with c.all.new.self _ c.all.result c.all.ensures.ran (YieldsList-from_zip {s = c.zip.result} (YieldsList-from_slice c.args.variables.now (cc)) (YieldsList-from_slice c.args.values.now (cc))) (λ x b q k. search (rules, tests)) ∙ all_pairs c.args.variables.now c.args.values.now c.requires
