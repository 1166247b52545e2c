-- How a verdict and a report are printed.
use Rattle.std.specs.Prelude.{ℕ, List, ◌++◌, codes, decimal}
use Rattle.checking.specs.declared.stage.Report.{Report}
use Rattle.checking.specs.declared.stage.Verdict.{Verdict}
use Rattle.checking.specs.declared.stage.Verdict.TheVariants.{Holds, Breaks}

abbrev pub verdict_word : Verdict → List ℕ
verdict_word Holds = codes "holds"
verdict_word Breaks = codes "breaks"

-- `breaks 2 splits 0 classes 4`: the verdict, the length of the run, the splits, and the classes at the last search
abbrev pub report_text : Report → List ℕ
report_text r = verdict_word r.verdict ++ codes " " ++ decimal r.length ++ codes " splits " ++ decimal r.splits ++ codes " classes " ++ decimal r.last
