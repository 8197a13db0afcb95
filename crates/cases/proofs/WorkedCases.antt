-- The claim of the worked cases (§13.1), proved: the table by computing its rows, T11's two sentences by laws of the panel.
use Rattle.panel.proofs.Examples as Panel
use Rattle.cases.specs.WorkedCases.{WorkedCases, rated, depth, pixels, cuts, expansions, written, judgement_of, t1_row}

pub worked-cases : WorkedCases
unfolding rated depth pixels cuts expansions written judgement_of t1_row
worked-cases = record { table = tt; width-1023 = Panel.width-1023; width-1024 = Panel.width-1024 }
