-- `twins::TwinRows::first` meets its contract. Assumes nothing.
use mathlib.Core.Path.{◌≡◌}
use mathlib.Core.List.{[], map}
use lib.ListN.{take}
use Rattle.job.specs.Meaning.{bounds_of}
use Rattle.twins.specs.Records.{twins_of}
use Rattle.twins.proofs.TwinRows.first.Given as goal

abbrev pub invariant-loop-column : goal.invariant-loop-column
invariant-loop-column l = l.t ≡ twins_of (map bounds_of (take l.column-index l.column-items)) []
