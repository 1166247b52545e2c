-- Labels of variables, and the links between variables.
use Rattle.std.proofs.Common.{◌≡◌, ℕ, ◌<◌, Bool, true, eqb, ◌≢◌, List, map, get_or, sym, refl, ap, ◌∙◌, inl, inr, arith}
use Rattle.std.proofs.lemmas.List.{get_or-map, length-map}
use Rattle.std.proofs.lemmas.Bool.{cases_eq, cond-true, cond-false, eq-eqb, ne_eqb}
use Rattle.clusters.specs.Linked.{Linked, alone, along}
use Rattle.clusters.specs.Labels.{relabelled, Labelled, Coarser, OneLabel}

-- ── Links ──

linked_trans : {reads : ℕ → ℕ → Bool} {v w : ℕ} → Linked reads v w → {x : ℕ} → Linked reads w x → Linked reads v x
linked_trans p (alone _) = p
linked_trans p (along atom q here there) = along atom (linked_trans p q) here there

linked_sym : {reads : ℕ → ℕ → Bool} {v w : ℕ} → Linked reads v w → Linked reads w v
linked_sym (alone v) = alone v
linked_sym (along {x = x} atom q here there) = linked_trans (along atom (alone x) there here) (linked_sym q)

-- where each atom's variables have one label, those that a chain of atoms links have one too
module _ (reads : ℕ → ℕ → Bool) (n : ℕ) (xs : List ℕ) (inside : (a v : ℕ) → reads a v ≡ true → v < n) (one : (a : ℕ) → OneLabel (reads a) n xs) where
  pub linked_one : {v w : ℕ} → Linked reads v w → get_or xs v 0 ≡ get_or xs w 0
  linked_one (alone v) = refl
  linked_one (along {w = w} {x = x} atom l here there) = linked_one l ∙ one atom w x (inside atom w here) (inside atom x there) here there

-- ── One merge ──

pub relabelled_at : (from to x : ℕ) → x ≡ from → relabelled from to x ≡ to
relabelled_at from to x e = cond-true (eqb x from) to x (eq-eqb x from e)

pub relabelled_other : (from to x : ℕ) → x ≢ from → relabelled from to x ≡ x
relabelled_other from to x e = cond-false (eqb x from) to x (ne_eqb x from e)

-- the label of x is merged into that of y
module _ (reads : ℕ → ℕ → Bool) (xs : List ℕ) (x y : ℕ) (g : Labelled reads xs) (in_x : x < 12) (in_y : y < 12) where
  abbrev merged : List ℕ
  merged = map (relabelled (get_or xs x 0) (get_or xs y 0)) xs

  at_merged : (v : ℕ) → v < 12 → get_or merged v 0 ≡ relabelled (get_or xs x 0) (get_or xs y 0) (get_or xs v 0)
  at_merged v h = get_or-map (relabelled (get_or xs x 0) (get_or xs y 0)) xs v 0 0 (omega (arith, g.each))

  moved : (v : ℕ) → v < 12 → get_or xs v 0 ≡ get_or xs x 0 → get_or merged v 0 ≡ get_or xs y 0
  moved v h e = at_merged v h ∙ relabelled_at (get_or xs x 0) (get_or xs y 0) (get_or xs v 0) e

  stays : (v : ℕ) → v < 12 → get_or xs v 0 ≢ get_or xs x 0 → get_or merged v 0 ≡ get_or xs v 0
  stays v h e = at_merged v h ∙ relabelled_other (get_or xs x 0) (get_or xs y 0) (get_or xs v 0) e

  pub merged_coarser : Coarser xs merged
  merged_coarser v w hv hw e = at_merged v hv ∙ ap (relabelled (get_or xs x 0) (get_or xs y 0)) e ∙ sym (at_merged w hw)

  -- the two now have one label
  pub merged_same : get_or merged x 0 ≡ get_or merged y 0
  merged_same =
      elim (cases_eq (get_or xs y 0) (get_or xs x 0)) [
        | inl e ↦ merged_coarser x y in_x in_y (sym e)
        | inr e ↦ moved x in_x refl ∙ sym (stays y in_y e)
      ]

  merged_small : (v : ℕ) → v < 12 → get_or merged v 0 < 12
  merged_small v h =
      elim (cases_eq (get_or xs v 0) (get_or xs x 0)) [ inl e ↦ omega (arith, moved v h e, g.small y in_y) | inr e ↦ omega (arith, stays v h e, g.small v h) ]

  pub merged_labelled : Linked reads x y → Labelled reads merged
  merged_labelled link = record {
    each = length-map xs (relabelled (get_or xs x 0) (get_or xs y 0)) ∙ g.each;
    small = merged_small;
    linked = λ v w hv hw e.
        elim (cases_eq (get_or xs v 0) (get_or xs x 0)) [
          | inl ev ↦
              elim (cases_eq (get_or xs w 0) (get_or xs x 0)) [
                | inl ew ↦ g.linked v w hv hw (ev ∙ sym ew)
                | inr ew ↦ linked_trans (g.linked v x hv in_x ev) (linked_trans link (g.linked y w in_y hw (sym (moved v hv ev) ∙ e ∙ stays w hw ew)))
              ]
          | inr ev ↦
              elim (cases_eq (get_or xs w 0) (get_or xs x 0)) [
                | inl ew ↦
                    linked_trans (g.linked v y hv in_y (sym (stays v hv ev) ∙ e ∙ moved w hw ew)) (linked_trans (linked_sym link) (g.linked x w in_x hw (sym ew)))
                | inr ew ↦ g.linked v w hv hw (sym (stays v hv ev) ∙ e ∙ stays w hw ew)
              ]
        ];
  }
