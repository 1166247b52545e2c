use Rattle.std.proofs.Common.{◌≡◌, ℕ, ◌||◌, ◌==◌, List, [], ◌∷◌, refl, ap, ◌∙◌}
use Rattle.std.specs.List.{list_any}
use Rattle.steps.specs.Meaning.{among}
use Rattle.steps.proofs.value.is_among.Goals as goal

among_any : (x : ℕ) (xs : List ℕ) → list_any (λ y. y == x) xs ≡ among xs x
among_any x [] = refl
among_any x (y ∷ ys) = ap (λ b. y == x || b) (among_any x ys)

pub returns : goal.returns
returns c = c.contains.ensures.value ∙ among_any c.args.x c.args.xs.now
