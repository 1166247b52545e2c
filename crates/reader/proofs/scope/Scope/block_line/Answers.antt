use Rattle.std.proofs.Common.{◌≡◌, ◌&&◌, sym, ap, ◌∙◌}
use Rattle.words.specs.Lines.{left, lines_of}
use Rattle.words.specs.Reading.{got, line_of, refused}
use Rattle.words.specs.Words.{each}
use Rattle.conditions.specs.Conditions.{known_tree}
use Rattle.conditions.specs.Variables.{names, vars_of}
use Rattle.reader.specs.BlockLines.{known_effect, small_effect, fitting_effect}
use Rattle.reader.specs.CaseWords.{rule}
use Rattle.reader.specs.Meanings.{rule_of}
use Rattle.reader.proofs.SectionFacts.{line_read, line_unknown, line_large, line_larger, line_good, test_at}
use Rattle.reader.proofs.scope.Scope.block_line.Goals.{In_ok-case}
use Rattle.reader.proofs.scope.Scope.block_line.Goals as goal

-- what the line says
said : (c : In_ok-case) → line_of (rule (names (vars_of c.args.self.now.known.now))) c.args.reader.now.line (lines_of c.args.reader.now) ≡ got (rule_of c.in_ok-case.case) c.next_line.new.self.line (lines_of c.next_line.new.self)
said c = line_read (rule (names (vars_of c.args.self.now.known.now))) c.args.reader.now.line (lines_of c.args.reader.now) (left c.in_ok-line.line) _ _ _ c.in_ok-line.ensures.tells c.in_ok-case.ensures

pub returns-then-not-is_known : goal.returns-then-not-is_known
returns-then-not-is_known c =
    let r = rule_of c.in_ok-case.case in
    let known = test_at (λ k. known_tree k r.when && each (known_effect k) r.results) c.count_of.ensures c.if-not-is_known.ensures in
    line_unknown (vars_of c.args.self.now.known.now) c.args.i c.args.reader.now.line (lines_of c.args.reader.now) r _ _ (said (goal.at.returns-then-not-is_known c).In_ok-case) known ∙ ap (refused 7) (sym c.in_ok-line.ensures.numbered)

pub returns-then-not-is_small : goal.returns-then-not-is_small
returns-then-not-is_small c =
    let r = rule_of c.in_ok-case.case in
    let known = test_at (λ k. known_tree k r.when && each (known_effect k) r.results) c.count_of.ensures c.if-not-is_known.ensures in
    let small = test_at (λ k. each (small_effect k) r.results) c.size_at-size.ensures c.if-not-is_small.ensures in
    line_large (vars_of c.args.self.now.known.now) c.args.i c.args.reader.now.line (lines_of c.args.reader.now) r _ _ (said (goal.at.returns-then-not-is_small c).In_ok-case) known small ∙ ap (refused 8) (sym c.in_ok-line.ensures.numbered)

pub returns-then-not-is_fitting : goal.returns-then-not-is_fitting
returns-then-not-is_fitting c =
    let r = rule_of c.in_ok-case.case in
    let known = test_at (λ k. known_tree k r.when && each (known_effect k) r.results) c.count_of.ensures c.if-not-is_known.ensures in
    let small = test_at (λ k. each (small_effect k) r.results) c.size_at-size.ensures c.if-not-is_small.ensures in
    let fitting = test_at (λ k. each (fitting_effect (vars_of c.args.self.now.known.now) k) r.results) c.size_at-size.ensures c.if-not-is_fitting.ensures in
    line_larger (vars_of c.args.self.now.known.now) c.args.i c.args.reader.now.line (lines_of c.args.reader.now) r _ _ (said (goal.at.returns-then-not-is_fitting c).In_ok-case) known small fitting ∙ ap (refused 9) (sym c.in_ok-line.ensures.numbered)

pub returns : goal.returns
returns c =
    let r = rule_of c.in_ok-case.case in
    let known = test_at (λ k. known_tree k r.when && each (known_effect k) r.results) c.count_of.ensures c.if-not-is_known.ensures in
    let small = test_at (λ k. each (small_effect k) r.results) c.size_at-size.ensures c.if-not-is_small.ensures in
    let fitting = test_at (λ k. each (fitting_effect (vars_of c.args.self.now.known.now) k) r.results) c.size_at-size.ensures c.if-not-is_fitting.ensures in
    line_good (vars_of c.args.self.now.known.now) c.args.i c.args.reader.now.line (lines_of c.args.reader.now) r _ _ (said (goal.at.returns c).In_ok-case) known small fitting
