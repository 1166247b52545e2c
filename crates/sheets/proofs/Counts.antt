-- How many classes a sheet has, and that a split makes more.
use Rattle.std.proofs.Common.{◌≡◌, ℕ, ◌<◌, ◌≤◌, ◌≢◌, List, sym, ◌∙◌, inl, inr, arith}
use Rattle.std.proofs.lemmas.Bool.{cases_eq}
use Rattle.sheets.specs.Classes.{Classes, states, class, Lawful}
use Rattle.sheets.specs.Splits.{Splittable, SplitInto}
use Rattle.sheets.proofs.Pigeons.{back, back_in, onto_most, onto_fewer, Onto}

-- a sheet has no more classes than states
pub count_most : (c : Classes) → Lawful c → c.count ≤ states c
count_most c lawful = onto_most (states c) c.count (class c) lawful.occurs

-- and fewer, where two states are of one class
pub count_fewer : (c : Classes) → Lawful c → (s t : ℕ) → s < states c → t < states c → s ≢ t → class c s ≡ class c t → c.count < states c
count_fewer c lawful s t hs ht ne e = onto_fewer (states c) c.count (class c) lawful.occurs s t hs ht ne e (lawful.below s hs)

module _ (c d : Classes) (marks : List ℕ) (k : ℕ) (lawful : Lawful c) (may : Splittable c k marks) (into : SplitInto c marks d) where
  -- a state of each class of d, and its class in c
  state_of : ℕ → ℕ
  state_of = back (states d) d.count (class d) into.lawful.occurs 0

  outer : ℕ → ℕ
  outer i = class c (state_of i)

  -- states of one class in d are of one class in c
  together : (s t : ℕ) → s < states c → t < states c → class d s ≡ class d t → class c s ≡ class c t
  together s t hs ht e = elim (cases_eq (class c s) (class c t)) [ inl same ↦ same | inr other ↦ absurd (into.apart s t hs ht other e) ]

  outer_of : (s : ℕ) → s < states c → outer (class d s) ≡ class c s
  unfolding outer state_of
  outer_of s h =
      let inside : s < states d = omega (arith, into.same_states) in
      let found = back_in (states d) d.count (class d) into.lawful.occurs 0 (class d s) (into.lawful.below s inside) in
      together (state_of (class d s)) s (omega (arith, into.same_states, found.0)) h found.1

  outer_onto : Onto d.count c.count outer
  outer_onto i h =
      let found = lawful.occurs i h in
      (class d found.0, into.lawful.below found.0 (omega (arith, into.same_states, found.1)), outer_of found.0 found.1 ∙ found.2)

  -- an accepted split makes more classes
  pub split_more_classes : c.count < d.count
  split_more_classes =
      let dead = may.dead in
      let bad = may.bad in
      let dead_in : class c dead.0 ≡ k = may.inside dead.0 dead.1 (omega (arith, dead.2)) in
      let bad_in : class c bad.0 ≡ k = may.inside bad.0 bad.1 (omega (arith, bad.2)) in
      let dead_outer = outer_of dead.0 dead.1 in
      let bad_outer = outer_of bad.0 bad.1 in
      onto_fewer d.count c.count outer outer_onto (class d dead.0) (class d bad.0)
      (into.lawful.below dead.0 (omega (arith, into.same_states, dead.1)))
      (into.lawful.below bad.0 (omega (arith, into.same_states, bad.1)))
      (into.parted dead.0 bad.0 dead.1 bad.1 dead.2 bad.2)
      (dead_outer ∙ dead_in ∙ sym (bad_outer ∙ bad_in))
      (omega (arith, dead_outer, lawful.below dead.0 dead.1))
