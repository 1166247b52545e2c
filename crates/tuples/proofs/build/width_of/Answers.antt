use Rattle.std.proofs.Common.{ℕ, ◌*◌, eqb, ap, ◌∙◌, one-mul, arith, rules, tests}
use Rattle.std.proofs.lemmas.Iterator.{YieldsList-from_slice, YieldsList-from_zip, YieldsList-from_map}
use Rattle.std.proofs.lemmas.Iterator.Adapters.{total_from_yields_List}
use Rattle.std.proofs.lemmas.Iterator.Consumers.{YieldsList-from_filter, YieldsList-at}
use Rattle.columns.specs.Columns.{product}
use Rattle.clusters.specs.Shapes.{sizes_in, partition}
use Rattle.clusters.proofs.Own.{own_shape}
use Rattle.tuples.specs.Tuples.{within}
use Rattle.tuples.proofs.StateGrid.{shape_positive}
use Rattle.tuples.proofs.Within.{within_positive}
use Rattle.tuples.proofs.Widths.{width_most}
use Rattle.tuples.proofs.WidthProducts.{within_zip, fold_product, products_fit}
use Rattle.tuples.proofs.build.width_of.Goals as goal

pub product-requires-clause-fits : goal.product-requires-clause-fits
product-requires-clause-fits c =
    let x = c.args.clusters.now in
    products_fit (within c.args.k (partition x).of (sizes_in x)) _
    (YieldsList-from_map {s = c.map.result} _ (λ (q : ℕ × ℕ). q.0)
    (YieldsList-at c.map.ensures.source
    (YieldsList-from_filter _ (λ (q : ℕ × ℕ). eqb q.1 c.args.k) (YieldsList-at c.filter.ensures.source (YieldsList-from_zip (YieldsList-from_slice (sizes_in x) (search rules)) (YieldsList-from_slice (partition x).of (search rules))))
    c.filter.ensures.closure (λ q b f h. search (rules, tests))))
    c.map.ensures.closure (λ q r f h. search (rules, tests)))
    (within_zip c.args.k (sizes_in x) (partition x).of) (within_positive c.args.k (partition x).of (sizes_in x) (shape_positive (sizes_in x) (partition x).of x.count (own_shape x))) (omega (arith, width_most (sizes_in x) (partition x).of x.count (own_shape x) c.args.k))

pub returns : goal.returns
returns c =
    let x = c.args.clusters.now in
    total_from_yields_List (λ a d. a * d) 1 c.product.result c.product.ensures.ran
    (YieldsList-from_map {s = c.map.result} _ (λ (q : ℕ × ℕ). q.0)
    (YieldsList-at c.map.ensures.source
    (YieldsList-from_filter _ (λ (q : ℕ × ℕ). eqb q.1 c.args.k) (YieldsList-at c.filter.ensures.source (YieldsList-from_zip (YieldsList-from_slice (sizes_in x) (search rules)) (YieldsList-from_slice (partition x).of (search rules))))
    c.filter.ensures.closure (λ q b f h. search (rules, tests))))
    c.map.ensures.closure (λ q r f h. search (rules, tests)))
    ∙ fold_product 1 _ ∙ one-mul _ ∙ ap product (within_zip c.args.k (sizes_in x) (partition x).of)
