-- Numbers for the front of a table.
use Rattle.std.proofs.Common.{◌≡◌, ℕ, ◌<◌, ◌≤◌, List, ◌++◌, length, get_or, take, sym, ◌∙◌, arith}
use Rattle.std.proofs.lemmas.List.{get_or-take, length-take-le, get_or_append_left}
use Rattle.sheets.specs.Numbering.{Renumbered}

module _ (n : ℕ) (xs : List ℕ) (room : n ≤ length xs) where
  front : length (take n xs) ≡ n
  front = length-take-le n xs room

  pub front_renumbered : (zs rest : List ℕ) (count : ℕ) → length zs ≡ length (take n xs) → Renumbered (length (take n xs)) (take n xs) zs count → Renumbered n xs (zs ++ rest) count
  front_renumbered zs rest count long anew =
      let old : (s : ℕ) → s < n → get_or (take n xs) s 0 ≡ get_or xs s 0 = λ s h. get_or-take n xs s 0 h in
      let new : (s : ℕ) → s < n → get_or (zs ++ rest) s 0 ≡ get_or zs s 0 = λ s h. get_or_append_left zs rest 0 s (omega (arith, front)) in
      record {
        few = omega (arith, front, anew.few);
        together = λ s t hs ht.
            let both = anew.together s t (omega (arith, front)) (omega (arith, front)) in (
              (λ e. sym (old s hs) ∙ both.0 (sym (new s hs) ∙ e ∙ new t ht) ∙ old t ht),
              (λ e. new s hs ∙ both.1 (old s hs ∙ e ∙ sym (old t ht)) ∙ sym (new t ht)),
            );
        below = λ s h. omega (arith, new s h, anew.below s (omega (arith, front)));
        occurs = λ k h. let o = anew.occurs k h in let lt : o.0 < n = omega (arith, o.1, front) in (o.0, lt, new o.0 lt ∙ o.2);
        numbered = λ s k h l.
            let o = anew.numbered s k (omega (arith, front)) (omega (arith, new s h)) in
            let before = o.1 in
            (o.0, before, new o.0 (omega arith) ∙ o.2);
      }
