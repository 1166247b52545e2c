use Rattle.std.proofs.Common.{[], ◌∷◌, ◌++◌, length, Some, vec_items, sym, refl, ap, ◌∙◌, arith}
use Rattle.std.proofs.lemmas.Result.{err_from_is_err_and}
use Rattle.words.specs.Lines.{left}
use Rattle.words.proofs.WordFacts.{after_shorter}
use Rattle.conditions.specs.Parser.{ended}
use Rattle.conditions.specs.Variables.{names_of}
use Rattle.conditions.proofs.EndFacts.{ended_some, ended_none}
use Rattle.reader.specs.CaseWords.{effect, effects}
use Rattle.reader.proofs.FaultFacts.{word_fails}
use Rattle.reader.proofs.EffectFacts.{effects_none, rest_shorter, effects_more, effects_end}
use Rattle.reader.proofs.scope.Scope.effects.Goals as goal

pub loop-out-init : goal.loop-out-init
loop-out-init c = (refl, λ n le. (n, le, ap (λ es. effects (names_of c.args.self.now.known.now) n es (left c.args.line.now)) c.new-out.ensures.items))

pub returns-in_err-e : goal.returns-in_err-e
returns-in_err-e c = λ n le.
    let p = err_from_is_err_and c.from_residual.result c.from_residual.ensures.1 in
    let ns = names_of c.args.self.now.known.now in
    let m = c.loop-out.invariant.1 n le in
    rw (p.1, p.2) (word_fails c.in_err-e.field-0.0 (effect ns (left c.loop-out.line)) (effects ns n [] (left c.args.line.now)) c.loop-out.line.number c.args.line.now.number c.loop-out.invariant.0 (λ none. sym m.2 ∙ effects_none ns (vec_items c.loop-out.out) (left c.loop-out.line) m.0 none) c.in_err-e.ensures.says)

pub loop-out-smaller : goal.loop-out-smaller
loop-out-smaller c =
    omega (arith, ap length c.if-not-skip.ensures.rest, after_shorter (left c.effect.new.line), rest_shorter (names_of c.args.self.now.known.now) [] (left c.loop-out.line) c.in_ok-e.e (left c.effect.new.line) c.in_ok-e.ensures.says)

pub loop-out-preserved : goal.loop-out-preserved
loop-out-preserved c = (
  c.if-not-skip.ensures.same ∙ c.in_ok-e.ensures.same ∙ c.loop-out.invariant.0,
  λ n le.
      let ns = names_of c.args.self.now.known.now in
      let m = c.loop-out.invariant.1 n le in
      let s = effects_more ns (vec_items c.loop-out.out) (left c.loop-out.line) c.in_ok-e.e (left c.effect.new.line) c.in_ok-e.ensures.says m.0 m.1 (sym c.if-not-skip.ensures.answer) in
      (s.0, omega (arith, s.1, ap length c.if-not-skip.ensures.rest), (λ i. effects ns s.0 (c.in_ok-push.ensures.items i) (c.if-not-skip.ensures.rest i)) ∙ s.2 ∙ m.2),
)

pub returns-then-is_some : goal.returns-then-is_some
returns-then-is_some c = λ n le.
    let ns = names_of c.args.self.now.known.now in
    let m = c.loop-out.invariant.1 n le in
    let es = vec_items c.loop-out.out ++ c.in_ok-e.e ∷ [] in
    let end = effects_end ns (vec_items c.loop-out.out) (left c.loop-out.line) c.in_ok-e.e (left c.effect.new.line) c.in_ok-e.ensures.says m.0 m.1 (sym c.if-not-skip.ensures.answer) in
    (sym m.2 ∙ end ∙ ap (ended es) (sym c.if-not-skip.ensures.rest) ∙ ended_some es c.skip.new.self c.next_token.result _ c.next_token.ensures.handed c.if-is_some.ensures, refl, refl)

pub returns : goal.returns
returns c = λ n le.
    let ns = names_of c.args.self.now.known.now in
    let m = c.loop-out.invariant.1 n le in
    let es = vec_items c.loop-out.out ++ c.in_ok-e.e ∷ [] in
    let end = effects_end ns (vec_items c.loop-out.out) (left c.loop-out.line) c.in_ok-e.e (left c.effect.new.line) c.in_ok-e.ensures.says m.0 m.1 (sym c.if-not-skip.ensures.answer) in
    sym m.2 ∙ end ∙ ap (ended es) (sym c.if-not-skip.ensures.rest) ∙ ended_none es c.skip.new.self c.next_token.result _ c.next_token.ensures.handed c.if-is_some.ensures ∙ ap Some (sym c.in_ok-push.ensures.items)
