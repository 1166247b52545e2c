-- Where a name stands among the variables.
use Rattle.std.proofs.Common.{Bool, true, false, ◌||◌, Bor, Option, MatchOption, ltb, cond, Some, None, ◌≡◌, ℕ, zero, suc, ◌<◌, ◌≤◌, List, [], ◌∷◌, length, get_or, sym, refl, ap, ◌∙◌, arith}
use Rattle.std.specs.Str.{bytes_eq}
use Rattle.std.specs.Option.{unwrap_or}
use Rattle.std.specs.Slice.{IsItemAt}
use Rattle.std.specs.List.{list_any, position, position_or_len}
use Rattle.std.proofs.lemmas.List.Sums.{prefix_len-le-length}
use Rattle.std.proofs.lemmas.List.Recursion.{is_position_or_len}
use Rattle.std.proofs.lemmas.Bool.Decides.{nat_tests}
use Rattle.words.specs.Words.{Word}
use Rattle.conditions.specs.Variables.{declared, names_of, place, size_at, vars_of}
use Rattle.conditions.specs.declared.variable.Variable.{Variable}

pub place_first : (ds : List (Variable (Bor Word))) (w : Word) → unwrap_or (position (λ (d : Variable (Bor Word)). bytes_eq d.name.now w) ds) (length ds) ≡ place (names_of ds) w
place_first ds w =
    let same = is_position_or_len (λ vs. place (names_of vs) w) (λ (d : Variable (Bor Word)). bytes_eq d.name.now w) refl (λ x xs. ap (cond (bytes_eq x.name.now w) 0) (omega arith)) ds in
    within (position_or_len (λ (d : Variable (Bor Word)). bytes_eq d.name.now w) ds) (length ds) (prefix_len-le-length _ ds) ∙ sym same
  where
    within : (i n : ℕ) → i ≤ n → unwrap_or (cond (ltb i n) (Some i) None) n ≡ i
    within i n le = grind (arith, nat_tests)

pub declared_is : (ds : List (Variable (Bor Word))) (w : Word) → list_any (λ (d : Variable (Bor Word)). bytes_eq d.name.now w) ds ≡ declared (names_of ds) w
declared_is [] w = refl
declared_is (d ∷ ds) w = step (bytes_eq d.name.now w) _ _ _ (declared_is ds w)
  where
    step : (b r : Bool) (p n : ℕ) → r ≡ ltb p n → (b || r) ≡ ltb (cond b 0 (suc p)) (suc n)
    step true r p n e = grind (arith, nat_tests)
    step false r p n e = grind (arith, nat_tests)

pub size_at_is : (vs : List (Variable (Bor Word))) (k : ℕ) (x : Variable (Bor Word)) → k < length vs → x ≡ get_or vs k x → size_at (vars_of vs) k ≡ x.size
size_at_is [] k x lt is = absurd (omega arith)
size_at_is (v ∷ vs) zero x lt is = ap (λ (y : Variable (Bor Word)). y.size) (sym is)
size_at_is (v ∷ vs) (suc k) x lt is = size_at_is vs k x (omega arith) is

pub size_at_past : (vs : List (Variable (Bor Word))) (k : ℕ) → length vs ≤ k → size_at (vars_of vs) k ≡ 0
size_at_past [] k le = refl
size_at_past (v ∷ vs) zero le = absurd (omega arith)
size_at_past (v ∷ vs) (suc k) le = size_at_past vs k (omega arith)

-- what `get` lends at k, or else 0, gives the size there
pub size_found : (vs : List (Variable (Bor Word))) (k n : ℕ) (Q : Bor (Variable (Bor Word)) → Type 0) (r : Option (Bor (Variable (Bor Word)))) → IsItemAt vs k r → MatchOption r (n ≡ 0) Q → ((x : Bor (Variable (Bor Word))) → Q x → n ≡ x.now.size) → n ≡ size_at (vars_of vs) k
size_found vs k n Q None g m by = m ∙ sym (size_at_past vs k g.3)
size_found vs k n Q (Some x) g m by = by x m ∙ sym (size_at_is vs k x.now g.3.0 g.1)
