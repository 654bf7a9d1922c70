-- `report::put_digits` meets its contract: the digits in front of the last one, and that one. The number falls. Assumes nothing.
use Rattle.report.proofs.+put_digits.Given as goal

abbrev pub decreases-put_digits : goal.decreases-put_digits
decreases-put_digits l = l.n
