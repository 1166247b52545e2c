-- The values that stand at the variables of one cluster.
use Rattle.std.proofs.Common.{◌≡◌, ℕ, zero, suc, ◌+◌, ◌*◌, ◌<◌, ◌≤◌, Bool, true, false, cond, eqb, List, [], ◌∷◌, length, get_or, refl, ap, ◌∙◌, arith}
use Rattle.std.proofs.lemmas.Bool.{and_parts, and_from, lt-ltb, ltb-true, false≢true, eq-eqb, ne_eqb, cond-true, cond-false}
use Rattle.columns.specs.Columns.{product, number, fit}
use Rattle.columns.proofs.Digits.{Positive}
use Rattle.tuples.specs.Tuples.{within, only}

fit_cond : (b : Bool) (d v : ℕ) (ds vs : List ℕ) → v < d → fit ds vs ≡ true → fit (cond b (d ∷ ds) ds) (cond b (v ∷ vs) vs) ≡ true
fit_cond true d v ds vs lt h = and_from _ _ (lt-ltb v d lt) h
fit_cond false d v ds vs lt h = h

pub within_fit : (k : ℕ) (cs ds vs : List ℕ) → fit ds vs ≡ true → fit (within k cs ds) (within k cs vs) ≡ true
within_fit k [] ds vs h = refl
within_fit k (c ∷ cs) [] [] h = refl
within_fit k (c ∷ cs) [] (v ∷ vs) h = absurd (false≢true h)
within_fit k (c ∷ cs) (d ∷ ds) [] h = absurd (false≢true h)
within_fit k (c ∷ cs) (d ∷ ds) (v ∷ vs) h =
    let p = and_parts _ _ h in
    fit_cond (eqb c k) d v (within k cs ds) (within k cs vs) (ltb-true v d p.0) (within_fit k cs ds vs p.1)

positive_cond : (b : Bool) (d : ℕ) (ds : List ℕ) → 0 < d → Positive ds → Positive (cond b (d ∷ ds) ds)
positive_cond true d ds lt h = (lt, h)
positive_cond false d ds lt h = h

pub within_positive : (k : ℕ) (cs ds : List ℕ) → Positive ds → Positive (within k cs ds)
within_positive k [] ds h = tt
within_positive k (c ∷ cs) [] h = tt
within_positive k (c ∷ cs) (d ∷ ds) h = positive_cond (eqb c k) d (within k cs ds) h.0 (within_positive k cs ds h.1)

-- the heads and the tails of two lists that agree at the variables of a cluster
cond_tail : (b : Bool) (v w : ℕ) (vs ws : List ℕ) → cond b (v ∷ vs) vs ≡ cond b (w ∷ ws) ws → vs ≡ ws
cond_tail true v w vs ws e = cc
cond_tail false v w vs ws e = e

cond_head : (b : Bool) (v w : ℕ) (vs ws : List ℕ) → b ≡ true → cond b (v ∷ vs) vs ≡ cond b (w ∷ ws) ws → v ≡ w
cond_head true v w vs ws t e = cc
cond_head false v w vs ws t e = absurd (false≢true t)

-- lists that agree at the variables of each cluster are equal
pub one_list : (m : ℕ) (cs vs ws : List ℕ) → length vs ≡ length cs → length ws ≡ length cs → ((v : ℕ) → v < length cs → get_or cs v 0 < m) → ((k : ℕ) → k < m → within k cs vs ≡ within k cs ws) → vs ≡ ws
one_list m [] [] [] a b below h = refl
one_list m [] [] (w ∷ ws) a b below h = absurd (omega arith)
one_list m [] (v ∷ vs) ws a b below h = absurd (omega arith)
one_list m (c ∷ cs) [] ws a b below h = absurd (omega arith)
one_list m (c ∷ cs) (v ∷ vs) [] a b below h = absurd (omega arith)
one_list m (c ∷ cs) (v ∷ vs) (w ∷ ws) a b below h =
    let first = cond_head (eqb c c) v w (within c cs vs) (within c cs ws) (eq-eqb c c refl) (h c (below 0 (omega arith))) in
    let rest = one_list m cs vs ws (omega arith) (omega arith) (λ j lt. below (suc j) (omega arith)) (λ k lt. cond_tail (eqb c k) v w (within k cs vs) (within k cs ws) (h k lt)) in
    λ i. first i ∷ rest i

-- ── The values of one cluster alone ──

pub only_most : (k : ℕ) (ds cs vs : List ℕ) → number ds (only k cs vs) ≤ number ds vs
only_most k [] cs vs = omega arith
only_most k (d ∷ ds) [] vs = omega arith
only_most k (d ∷ ds) (c ∷ cs) [] = omega arith
only_most k (d ∷ ds) (c ∷ cs) (v ∷ vs) =
    let rest = only_most k ds cs vs in
    elim (eqb c k) as (λ b. cond b v 0 * product ds + number ds (only k cs vs) ≤ v * product ds + number ds vs) [ true ↦ omega arith | false ↦ omega arith ]

pub only_fit : (k : ℕ) (ds cs vs : List ℕ) → length cs ≡ length ds → fit ds vs ≡ true → fit ds (only k cs vs) ≡ true
only_fit k [] [] vs e h = refl
only_fit k [] (c ∷ cs) vs e h = absurd (omega arith)
only_fit k (d ∷ ds) [] vs e h = absurd (omega arith)
only_fit k (d ∷ ds) (c ∷ cs) [] e h = absurd (false≢true h)
only_fit k (d ∷ ds) (c ∷ cs) (v ∷ vs) e h =
    let p = and_parts _ _ h in
    let lt = ltb-true v d p.0 in
    let small : cond (eqb c k) v 0 < d = elim (eqb c k) as (λ b. cond b v 0 < d) [ true ↦ lt | false ↦ omega arith ] in
    and_from _ _ (lt-ltb _ d small) (only_fit k ds cs vs (omega arith) p.1)

pub only_in : (k : ℕ) (cs vs : List ℕ) → within k cs (only k cs vs) ≡ within k cs vs
only_in k [] vs = refl
only_in k (c ∷ cs) [] = refl
only_in k (c ∷ cs) (v ∷ vs) =
    let rest = only_in k cs vs in
    elim (eqb c k) as (λ b. cond b (cond b v 0 ∷ within k cs (only k cs vs)) (within k cs (only k cs vs)) ≡ cond b (v ∷ within k cs vs) (within k cs vs)) [ true ↦ ap (λ l. v ∷ l) rest | false ↦ rest ]

pub only_only : (k : ℕ) (cs vs : List ℕ) → only k cs (only k cs vs) ≡ only k cs vs
only_only k [] vs = refl
only_only k (c ∷ cs) [] = refl
only_only k (c ∷ cs) (v ∷ vs) =
    let rest = only_only k cs vs in
    elim (eqb c k) as (λ b. cond b (cond b v 0) 0 ∷ only k cs (only k cs vs) ≡ cond b v 0 ∷ only k cs vs) [ true ↦ ap (λ l. v ∷ l) rest | false ↦ ap (λ l. 0 ∷ l) rest ]

only_cond : (b : Bool) (v w : ℕ) (vs ws xs ys : List ℕ) → cond b (v ∷ vs) vs ≡ cond b (w ∷ ws) ws → xs ≡ ys → cond b v 0 ∷ xs ≡ cond b w 0 ∷ ys
only_cond true v w vs ws xs ys e rest = let first : v ≡ w = cc in λ i. first i ∷ rest i
only_cond false v w vs ws xs ys e rest = ap (λ l. 0 ∷ l) rest

pub only_same : (k : ℕ) (cs vs ws : List ℕ) → length vs ≡ length ws → within k cs vs ≡ within k cs ws → only k cs vs ≡ only k cs ws
only_same k [] vs ws e h = refl
only_same k (c ∷ cs) [] [] e h = refl
only_same k (c ∷ cs) [] (w ∷ ws) e h = absurd (omega arith)
only_same k (c ∷ cs) (v ∷ vs) [] e h = absurd (omega arith)
only_same k (c ∷ cs) (v ∷ vs) (w ∷ ws) e h =
    only_cond (eqb c k) v w (within k cs vs) (within k cs ws) _ _ h (only_same k cs vs ws (omega arith) (cond_tail (eqb c k) v w (within k cs vs) (within k cs ws) h))

pub only_at : (k : ℕ) (cs vs : List ℕ) (v : ℕ) → v < length cs → get_or cs v 0 ≡ k → get_or (only k cs vs) v 0 ≡ get_or vs v 0
only_at k [] vs v lt e = absurd (omega arith)
only_at k (c ∷ cs) [] v lt e = refl
only_at k (c ∷ cs) (x ∷ vs) zero lt e = cond-true _ x 0 (eq-eqb c k e)
only_at k (c ∷ cs) (x ∷ vs) (suc v) lt e = only_at k cs vs v (omega arith) e

-- no variable is of the cluster k
pub within_none : (k : ℕ) (cs xs : List ℕ) → ((v : ℕ) → v < length cs → get_or cs v 0 ≡ k → ⊥) → within k cs xs ≡ []
within_none k [] xs h = refl
within_none k (c ∷ cs) [] h = refl
within_none k (c ∷ cs) (x ∷ xs) h = cond-false _ _ _ (ne_eqb c k (h 0 (omega arith))) ∙ within_none k cs xs (λ v lt. h (suc v) (omega arith))
