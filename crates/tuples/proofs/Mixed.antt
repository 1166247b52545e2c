-- Values put together: those of one cluster from one list, the others from another.
use Rattle.std.proofs.Common.{◌≡◌, ℕ, ◌+◌, ◌*◌, ◌<◌, Bool, true, false, cond, eqb, ◌≢◌, List, [], ◌∷◌, length, sym, refl, ap, ◌∙◌, arith}
use Rattle.std.proofs.lemmas.Bool.{and_parts, and_from, lt-ltb, ltb-true, false≢true, eqb-true, ne_eqb, cond-false}
use Rattle.columns.specs.Columns.{product, number, fit}
use Rattle.columns.proofs.Digits.{Positive}
use Rattle.tuples.specs.Tuples.{within, only}

-- ws at the variables of the cluster k, and vs elsewhere
abbrev pub mix : ℕ → List ℕ → List ℕ → List ℕ → List ℕ
mix k [] vs ws = []
mix k (c ∷ cs) [] ws = []
mix k (c ∷ cs) (v ∷ vs) [] = []
mix k (c ∷ cs) (v ∷ vs) (w ∷ ws) = cond (eqb c k) w v ∷ mix k cs vs ws

pub mix_fit : (k : ℕ) (ds cs vs ws : List ℕ) → length cs ≡ length ds → fit ds vs ≡ true → fit ds ws ≡ true → fit ds (mix k cs vs ws) ≡ true
mix_fit k [] [] vs ws e a b = refl
mix_fit k [] (c ∷ cs) vs ws e a b = absurd (omega arith)
mix_fit k (d ∷ ds) [] vs ws e a b = absurd (omega arith)
mix_fit k (d ∷ ds) (c ∷ cs) [] ws e a b = absurd (false≢true a)
mix_fit k (d ∷ ds) (c ∷ cs) (v ∷ vs) [] e a b = absurd (false≢true b)
mix_fit k (d ∷ ds) (c ∷ cs) (v ∷ vs) (w ∷ ws) e a b =
    let p = and_parts _ _ a in
    let q = and_parts _ _ b in
    let small : cond (eqb c k) w v < d = elim (eqb c k) as (λ t. cond t w v < d) [ true ↦ ltb-true w d q.0 | false ↦ ltb-true v d p.0 ] in
    and_from _ _ (lt-ltb _ d small) (mix_fit k ds cs vs ws (omega arith) p.1 q.1)

pub mix_in : (k : ℕ) (cs vs ws : List ℕ) → length vs ≡ length cs → length ws ≡ length cs → within k cs (mix k cs vs ws) ≡ within k cs ws
mix_in k [] vs ws a b = refl
mix_in k (c ∷ cs) [] ws a b = absurd (omega arith)
mix_in k (c ∷ cs) (v ∷ vs) [] a b = absurd (omega arith)
mix_in k (c ∷ cs) (v ∷ vs) (w ∷ ws) a b =
    let rest = mix_in k cs vs ws (omega arith) (omega arith) in
    elim (eqb c k) as (λ t. cond t (cond t w v ∷ within k cs (mix k cs vs ws)) (within k cs (mix k cs vs ws)) ≡ cond t (w ∷ within k cs ws) (within k cs ws)) [ true ↦ ap (λ l. w ∷ l) rest | false ↦ rest ]

cond_out : (b t : Bool) (v w : ℕ) (xs ys : List ℕ) → (b ≡ true → t ≡ false) → xs ≡ ys → cond b (cond t w v ∷ xs) xs ≡ cond b (v ∷ ys) ys
cond_out true t v w xs ys apart rest = λ i. cond-false t w v (apart refl) i ∷ rest i
cond_out false t v w xs ys apart rest = rest

pub mix_out : (k j : ℕ) (cs vs ws : List ℕ) → j ≢ k → length vs ≡ length cs → length ws ≡ length cs → within j cs (mix k cs vs ws) ≡ within j cs vs
mix_out k j [] vs ws other a b = refl
mix_out k j (c ∷ cs) [] ws other a b = absurd (omega arith)
mix_out k j (c ∷ cs) (v ∷ vs) [] other a b = absurd (omega arith)
mix_out k j (c ∷ cs) (v ∷ vs) (w ∷ ws) other a b =
    cond_out (eqb c j) (eqb c k) v w _ _ (λ t. ne_eqb c k (λ e. other (sym (eqb-true c j t) ∙ e))) (mix_out k j cs vs ws other (omega arith) (omega arith))

pub mix_number : (k : ℕ) (ds cs vs ws : List ℕ) → length cs ≡ length ds → length vs ≡ length ds → length ws ≡ length ds → number ds (mix k cs vs ws) + number ds (only k cs vs) ≡ number ds vs + number ds (only k cs ws)
mix_number k [] cs vs ws e a b = refl
mix_number k (d ∷ ds) [] vs ws e a b = absurd (omega arith)
mix_number k (d ∷ ds) (c ∷ cs) [] ws e a b = absurd (omega arith)
mix_number k (d ∷ ds) (c ∷ cs) (v ∷ vs) [] e a b = absurd (omega arith)
mix_number k (d ∷ ds) (c ∷ cs) (v ∷ vs) (w ∷ ws) e a b =
    let rest = mix_number k ds cs vs ws (omega arith) (omega arith) (omega arith) in
    elim (eqb c k) as (λ t. cond t w v * product ds + number ds (mix k cs vs ws) + (cond t v 0 * product ds + number ds (only k cs vs)) ≡ v * product ds + number ds vs + (cond t w 0 * product ds + number ds (only k cs ws))) [ true ↦ omega arith | false ↦ omega arith ]

-- ── Values with a given tuple ──

-- values that fit their sizes, with ts at the variables of the cluster k
pub record Spread (k : ℕ) (ds cs ts : List ℕ) : Type 0 where
  pub all : List ℕ
  pub fits : fit ds all ≡ true
  pub at : within k cs all ≡ ts

module _ (k d c : ℕ) (ds cs : List ℕ) (some : 0 < d) (rest : (ts : List ℕ) → fit (within k cs ds) ts ≡ true → Spread k ds cs ts) where
  -- the value v in front, where b says whether its variable is of the cluster k
  with_first : (b : Bool) → eqb c k ≡ b → (ts us : List ℕ) (v : ℕ) → v < d → (r : Spread k ds cs us) → cond b (v ∷ us) us ≡ ts → Spread k (d ∷ ds) (c ∷ cs) ts
  with_first b e ts us v lt r same =
      record {
        all = v ∷ r.all;
        fits = and_from _ _ (lt-ltb v d lt) r.fits;
        at = (λ i. cond (e i) (v ∷ r.at i) (r.at i)) ∙ same;
      }

  spread_first : (b : Bool) → eqb c k ≡ b → (ts : List ℕ) → fit (cond b (d ∷ within k cs ds) (within k cs ds)) ts ≡ true → Spread k (d ∷ ds) (c ∷ cs) ts
  spread_first true e [] h = absurd (false≢true h)
  spread_first true e (t ∷ ts) h = let p = and_parts _ _ h in with_first true e (t ∷ ts) ts t (ltb-true t d p.0) (rest ts p.1) refl
  spread_first false e ts h = with_first false e ts ts 0 some (rest ts h) refl

none_left : (ts : List ℕ) → fit [] ts ≡ true → [] ≡ ts
none_left [] h = refl
none_left (t ∷ ts) h = absurd (false≢true h)

pub spread : (k : ℕ) (ds cs ts : List ℕ) → length cs ≡ length ds → Positive ds → fit (within k cs ds) ts ≡ true → Spread k ds cs ts
spread k [] [] ts e p h = record { all = []; fits = refl; at = none_left ts h }
spread k [] (c ∷ cs) ts e p h = absurd (omega arith)
spread k (d ∷ ds) [] ts e p h = absurd (omega arith)
spread k (d ∷ ds) (c ∷ cs) ts e p h = spread_first k d c ds cs p.0 (λ us. spread k ds cs us (omega arith) p.1) (eqb c k) refl ts h
