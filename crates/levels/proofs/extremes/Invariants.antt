-- Two folds over whole numbers, from the first value on.
use Rattle.levels.proofs.Ends.{Ends}
use Rattle.levels.proofs.extremes.Given as goal

abbrev pub invariant-loop-m : goal.invariant-loop-m
invariant-loop-m l = Ends l.values l.most l.least l.m
