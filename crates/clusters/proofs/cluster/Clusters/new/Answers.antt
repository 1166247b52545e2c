use Rattle.std.proofs.Common.{sym, ap, ◌∙◌, rules, arith}
use Rattle.columns.specs.Columns.{product}
use Rattle.clusters.proofs.Made.{own_labelled, sizes_copied, sizes_wide, made_clustered}
use Rattle.clusters.proofs.cluster.Clusters.new.Goals as goal

pub link_all-requires-clause-labelled : goal.link_all-requires-clause-labelled
link_all-requires-clause-labelled g c =
    let own = c.from_fn-clusters.ensures.items in
    own_labelled (g.C.ColumnedSource.columns c.args.source.now).reads c.from_fn-clusters.result own.long (λ v lt. let h = own.at v 0 lt in search rules)

pub invariant_of-result-clause-wide : goal.invariant_of-result-clause-wide
invariant_of-result-clause-wide g c =
    sizes_wide c.variables-n.ensures.columned (c.from-variables.ensures ∙ c.variables-n.ensures.tells) c.sizes_of-sizes.result c.sizes_of-sizes.ensures.long c.sizes_of-sizes.ensures.each

pub invariant_of-result-clause-made : goal.invariant_of-result-clause-made
invariant_of-result-clause-made g c =
    let law = c.variables-n.ensures.columned in
    let copied = sizes_copied law (c.from-variables.ensures ∙ c.variables-n.ensures.tells) c.sizes_of-sizes.result c.sizes_of-sizes.ensures.long c.sizes_of-sizes.ensures.each in
    c.size.ensures.tells ∙ sym law.states ∙ ap product (sym copied)

pub returns-clause-made : goal.returns-clause-made
returns-clause-made g c =
    let law = c.variables-n.ensures.columned in
    let tells = c.from-variables.ensures ∙ c.variables-n.ensures.tells in
    record {
      sizes_are = sizes_copied law tells c.sizes_of-sizes.result c.sizes_of-sizes.ensures.long c.sizes_of-sizes.ensures.each;
      clustered =
          made_clustered law tells c.link_all.ensures.labelled (λ a h. rw c.from-variables.ensures (c.link_all.ensures.one a h)) (omega arith) c.renumber-count.ensures;
    }
