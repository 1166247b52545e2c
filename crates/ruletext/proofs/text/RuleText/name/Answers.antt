use Rattle.std.proofs.Common.{◌≡◌, ℕ, zero, suc, ◌<◌, List, [], ◌∷◌, map, length, get_or, Vec, vec_items, ap, ◌∙◌, arith}
use lib.ListN.{length-map}
use Rattle.std.specs.declared.alloc.Global.{Global}
use Rattle.conditions.specs.Variables.{names}
use Rattle.conditions.specs.declared.variable.Variable.{Variable}
use Rattle.ruletext.specs.Texts.{variable_of}
use Rattle.ruletext.proofs.text.RuleText.name.Goals as goal

name_at : (xs : List (Variable (Vec ℕ Global))) (v : ℕ) (x : Variable (Vec ℕ Global)) → v < length xs → x ≡ get_or xs v x → vec_items x.name ≡ get_or (names (map variable_of xs)) v []
name_at [] v x lt e = absurd (omega arith)
name_at (y ∷ xs) zero x lt e = ap (λ z. vec_items z.name) e
name_at (y ∷ xs) (suc v) x lt e = name_at xs v x (omega arith) e

pub returns : goal.returns
returns c =
    let xs = vec_items c.args.self.now.variables in
    let found = rw (c.from.ensures, c.deref.ensures.value) at c.in_ok-variable.ensures.lookup in
    (omega (arith, length-map xs variable_of, found.3.0), c.as_slice.ensures.value ∙ name_at xs c.args.v c.in_ok-variable.variable.now found.3.0 found.1)
