-- Partitions in fixed tables.
use Rattle.std.proofs.Common.{◌≡◌, ℕ, ◌+◌, ◌<◌, ◌≤◌, true, ◌&&◌, eqb, ltb, leb, List, [], ◌∷◌, ◌++◌, length, get_or, take, set, Some, None, sym, ap, ◌∙◌, ap₂, arith}
use Rattle.std.proofs.lemmas.Bool.{cond-true, lt-ltb, le-leb}
use Rattle.std.proofs.lemmas.List.{get_or-take, length-take-le, take_all, take_more, take_more_set}
use Rattle.sheets.specs.Classes.{Classes, states, class, class_at, member}
use Rattle.sheets.specs.Members.{held}
use Rattle.sheets.specs.Tables.{table_classes}

module _ (count n : ℕ) (table : List ℕ) where
  pub table_states : n ≤ length table → states (table_classes count n table) ≡ n
  table_states room = length-take-le n table room

  pub table_class : (s : ℕ) → s < n → class (table_classes count n table) s ≡ get_or table s 0
  table_class s h = get_or-take n table s 0 h

  is_state : n ≤ length table → (s : ℕ) → s < n → ltb s (states (table_classes count n table)) ≡ true
  is_state room s h = let size = table_states room in lt-ltb s (states (table_classes count n table)) (omega arith)

  -- the entry at s is the class of s
  pub table_at : n ≤ length table → (s : ℕ) → s < n → Some (get_or table s 0) ≡ class_at (table_classes count n table) s
  table_at room s h =
      sym (cond-true (ltb s (states (table_classes count n table))) (Some (class (table_classes count n table) s)) None (is_state room s h) ∙ ap Some (table_class s h))

-- one class more is copied
pub copy_more : (c : Classes) (table : List ℕ) (s k : ℕ) → s < length table → s < states c → class_at c s ≡ Some k → take s table ≡ take s c.of → take (s + 1) (set table s k) ≡ take (s + 1) c.of
copy_more c table s k room inside told same =
    let known : class_at c s ≡ Some (class c s) = cond-true (ltb s (states c)) (Some (class c s)) None (lt-ltb s (states c) inside) in
    let here : k ≡ class c s = cc in
    take_more_set table s k room ∙ ap (λ xs. xs ++ k ∷ []) same ∙ ap (λ l. take s c.of ++ l ∷ []) here ∙ sym (take_more c.of s 0 inside)

pub copied : (xs ys : List ℕ) (n s : ℕ) → take n xs ≡ take n ys → s < n → get_or xs s 0 ≡ get_or ys s 0
copied xs ys n s same h = sym (get_or-take n xs s 0 h) ∙ ap (λ zs. get_or zs s 0) same ∙ get_or-take n ys s 0 h

-- a partition that the tables have room for
pub held_whole : (c : Classes) (n count : ℕ) → n ≡ states c → count ≡ c.count → n ≤ 4096 → table_classes count n c.of ≡ held c
held_whole c n count size many room =
    let make : List ℕ → ℕ → Classes = λ xs k. record { of = xs; count = k } in
    ap₂ make (take_all n c.of (omega arith)) many ∙ sym (cond-true (leb (states c) 4096) c (make [] 0) (le-leb (states c) 4096 (omega arith)))
